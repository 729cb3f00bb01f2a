-- The instance that a query names is one of its collection's.
use Rattle.std.proofs.Common.{◌≡◌, Bool, true, false, cond, List, [], ◌∷◌, Option, Some, None, refl, ap, sym, ◌∙◌, subst, Contains, ℕ}
use Rattle.std.specs.Ordering.{is_lt}
use Rattle.edr_base.specs.Names.{order}
use Rattle.edr_ids.specs.Ids.{has_id, item_of}
use Rattle.edr_edition.specs.declared.kinds.Kind.TheVariants.{Grid}
use Rattle.edr_edition.specs.Values.{InstanceValue, CollectionValue, instance_id}
use Rattle.edr_edition.specs.Stores.{instance_named, newest, greater, subject_in}
use Rattle.edr_query.specs.Values.{QueryValue}
use Rattle.edr_select.specs.Checks.{grid_of}
use Rattle.edr_select.specs.ListLaws.{member_here, member_later}

found_member : (id : List ℕ) (is : List InstanceValue) (i : InstanceValue) → item_of instance_id id is ≡ Some i → Contains is i
found_member id [] i h = cc
found_member id (x ∷ is) i h = here (has_id instance_id id x) refl (found_member id is i)
  where
    here : (b : Bool) → has_id instance_id id x ≡ b → (item_of instance_id id is ≡ Some i → Contains is i) → Contains (x ∷ is) i
    here true e later = member_at (sym (ap (λ b. cond b (Some x) (item_of instance_id id is)) e) ∙ h)
      where
        member_at : Some x ≡ Some i → Contains (x ∷ is) i
        member_at same = subst (λ (o : Option InstanceValue). holds o) same (member_here x is)
          where
            holds : Option InstanceValue → Type 0
            holds None = Unit {0}
            holds (Some o) = Contains (x ∷ is) o
    here false e later = member_later x i is (later (sym (ap (λ b. cond b (Some x) (item_of instance_id id is)) e) ∙ h))

newest_member : (is : List InstanceValue) (i : InstanceValue) → newest is ≡ Some i → Contains is i
newest_member [] i h = cc
newest_member (x ∷ is) i h = here (newest is) refl (newest_member is)
  where
    ends : (o : InstanceValue) → Contains (x ∷ is) o → Some o ≡ Some i → Contains (x ∷ is) i
    ends o m same = subst (λ (found : Option InstanceValue). holds found) same m
      where
        holds : Option InstanceValue → Type 0
        holds None = Unit {0}
        holds (Some o) = Contains (x ∷ is) o

    either : (other : InstanceValue) (b : Bool) → Contains is other → Contains (x ∷ is) (cond b other x)
    either other true m = member_later x other is m
    either other false m = member_here x is

    here : (found : Option InstanceValue) → newest is ≡ found → ((o : InstanceValue) → newest is ≡ Some o → Contains is o) → Contains (x ∷ is) i
    here None e later = ends x (member_here x is) (sym (ap (λ found. Some (greater x found)) e) ∙ h)
    here (Some other) e later =
        ends (greater x (Some other)) (either other (is_lt (order x.id other.id)) (later other e)) (sym (ap (λ found. Some (greater x found)) e) ∙ h)

pub named_member : (name : Option (List ℕ)) (is : List InstanceValue) (i : InstanceValue) → instance_named name is ≡ Some i → Contains is i
named_member None is i h = newest_member is i h
named_member (Some id) is i h = found_member id is i h

pub subject_found : (c : CollectionValue) (q : QueryValue) (i : InstanceValue) → c.kind ≡ Grid → instance_named q.instance c.instances ≡ Some i
    → subject_in q.instance c ≡ Some (grid_of c i)
subject_found c q i kind named = rw (kind, named) refl
