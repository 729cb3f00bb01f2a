-- The newest of instances in the order of their ids is the last.
use Rattle.std.proofs.Common.{◌≡◌, ◌⊎◌, inl, inr, ℕ, ◌+◌, if◌then◌else◌, List, [], ◌∷◌, length, get_or, All, Contains, Some, None, refl, sym, ap, ◌∙◌, subst, arith}
use Rattle.std.specs.declared.cmp.Ordering.TheVariants.{Less}
use Rattle.std.specs.Ordering.{is_lt}
use Rattle.std.proofs.lemmas.List.Elements.{All-nil, All-cons, All-head, All-tail, All-contains_itself}
use Rattle.edr_base.specs.Names.{order}
use Rattle.edr_ids.specs.Ids.{AscendBy}
use Rattle.edr_ids.specs.ListLaws.{first_below, order_less_flips, tail_ascends}
use Rattle.edr_edition.specs.Values.{InstanceValue, instance_id}
use Rattle.edr_edition.specs.Editions.{IsNewest}
use Rattle.edr_edition.specs.Stores.{newest, greater, FindsNewest}

-- the last of some instances behind one
abbrev pub last_of : InstanceValue → List InstanceValue → InstanceValue
last_of first [] = first
last_of first (second ∷ instances) = last_of second instances

last_is_there : (first : InstanceValue) (instances : List InstanceValue) (P : InstanceValue → Type 0) → All P (first ∷ instances) → P (last_of first instances)
last_is_there first [] P h = All-head P first [] h
last_is_there first (second ∷ instances) P h = last_is_there second instances P (All-tail P first (second ∷ instances) h)

pub newest_is_last : (first : InstanceValue) (instances : List InstanceValue) → AscendBy instance_id (first ∷ instances) → newest (first ∷ instances) ≡ Some (last_of first instances)
newest_is_last first [] up = refl
newest_is_last first (second ∷ instances) up =
    let last = last_of second instances in
    let below : order first.id last.id ≡ Less = last_is_there second instances (λ (i : InstanceValue). order first.id i.id ≡ Less) (first_below instance_id first (second ∷ instances) up) in
    ap (λ o. Some (greater first o)) (newest_is_last second instances (tail_ascends instance_id first (second ∷ instances) up))
    ∙ ap (λ o. Some (if is_lt o then last else first)) below

last_contained : (first : InstanceValue) (instances : List InstanceValue) → Contains (first ∷ instances) (last_of first instances)
last_contained first instances = last_is_there first instances (Contains (first ∷ instances)) (All-contains_itself (first ∷ instances))

last_greatest : (first : InstanceValue) (instances : List InstanceValue) → AscendBy instance_id (first ∷ instances)
    → All (λ (i : InstanceValue). (i ≡ last_of first instances) ⊎ (order i.id (last_of first instances).id ≡ Less)) (first ∷ instances)
last_greatest first [] up = All-cons (λ (i : InstanceValue). (i ≡ first) ⊎ (order i.id first.id ≡ Less)) first [] (inl refl) (All-nil _)
last_greatest first (second ∷ instances) up =
    let last = last_of second instances in
    let below : order first.id last.id ≡ Less = last_is_there second instances (λ (i : InstanceValue). order first.id i.id ≡ Less) (first_below instance_id first (second ∷ instances) up) in
    All-cons (λ (i : InstanceValue). (i ≡ last) ⊎ (order i.id last.id ≡ Less)) first (second ∷ instances) (inr below)
    (last_greatest second instances (tail_ascends instance_id first (second ∷ instances) up))

newest_is : (instances : List InstanceValue) (instance : InstanceValue) → AscendBy instance_id instances → newest instances ≡ Some instance → IsNewest instances instance
newest_is [] instance up is = cc
newest_is (first ∷ instances) instance up is =
    let same : last_of first instances ≡ instance = (let last = newest_is_last first instances up in cc) in
    subst (IsNewest (first ∷ instances)) same (record { among = last_contained first instances; greatest = last_greatest first instances up })

-- the newest is below no other one, or is it
is_or_below : (instances : List InstanceValue) (newest one : InstanceValue) → IsNewest instances newest → Contains instances one → (one ≡ newest) ⊎ (order one.id newest.id ≡ Less)
is_or_below instances newest one is there =
    subst (λ (i : InstanceValue). (i ≡ newest) ⊎ (order i.id newest.id ≡ Less)) there.2 (is.greatest there.0 one there.1)

-- there is no second one
pub newest_once : (instances : List InstanceValue) (newest other : InstanceValue) → IsNewest instances newest → IsNewest instances other → newest ≡ other
newest_once instances newest other is is' = elim (is_or_below instances other newest is' is.among) [
  | inl same ↦ same
  | inr below ↦ elim (is_or_below instances newest other is is'.among) [
    | inl same ↦ sym same
    | inr above ↦ (let flips = order_less_flips newest.id other.id below in cc)
  ]
]

newest_found : (instances : List InstanceValue) (instance : InstanceValue) → AscendBy instance_id instances → IsNewest instances instance → newest instances ≡ Some instance
newest_found [] instance up is = absurd (omega (arith, is.among.1))
newest_found (first ∷ instances) instance up is =
    let last = last_of first instances in
    newest_is_last first instances up
    ∙ ap Some (newest_once (first ∷ instances) last instance (record { among = last_contained first instances; greatest = last_greatest first instances up }) is)

newest_none : (instances : List InstanceValue) → newest instances ≡ None → instances ≡ []
newest_none [] none = refl
newest_none (first ∷ instances) none = cc

pub newest_is_newest : (instances : List InstanceValue) → AscendBy instance_id instances → FindsNewest instances
newest_is_newest instances up = record {
  is = λ instance is. newest_is instances instance up is;
  found = λ instance is. newest_found instances instance up is;
  none = newest_none instances;
}

last_at : (first : InstanceValue) (instances : List InstanceValue) (d : InstanceValue) → get_or (first ∷ instances) (length instances) d ≡ last_of first instances
last_at first [] d = refl
last_at first (second ∷ instances) d = last_at second instances d

-- what stands at the last place is the newest
pub newest_at : (instances : List InstanceValue) (place : ℕ) (instance : InstanceValue) → AscendBy instance_id instances → place + 1 ≡ length instances → instance ≡ get_or instances place instance
    → Some instance ≡ newest instances
newest_at [] place instance up last at = absurd (omega (arith, last))
newest_at (first ∷ instances) place instance up last at =
    let same : place ≡ length instances = omega (arith, last) in
    ap Some (at ∙ (ap (λ k. get_or (first ∷ instances) k instance) same ∙ last_at first instances instance)) ∙ sym (newest_is_last first instances up)
