-- The ids of an address are parts of a path where all its parts are.
use Rattle.std.proofs.Common.{◌≡◌, ℕ, List, [], ◌∷◌, All, ap₂, sym, ◌∙◌, subst, Bool, true, Some, None, codes}
use Rattle.std.specs.Prelude.{◌↔◌, IsTrue}
use Rattle.std.proofs.lemmas.List.Elements.{All-nil, All-cons, All-head, All-tail}
use Rattle.edr_query.specs.declared.addresses.Address.{Address}
use Rattle.edr_query.specs.declared.addresses.Address.TheVariants.{Landing, Conformance, Collections, Collection, Instances, Instance, Locations, Location, Query}
use Rattle.edr_query.specs.Paths.{kind_text, parts_of, ids_of, IsPart, IsPath}
use Rattle.edr_query.specs.PathReads.{parts_in, HasNoAddress, address_in}
use Rattle.edr_query.proofs.ListLemmas.{some_same}
use Rattle.edr_query.proofs.PathLemmas.{address_is, an_address}
use Rattle.edr_query.proofs.SpelledAddresses.{parts_from_ids}

-- the second part, and the fourth
second : (p q : List ℕ) (ps : List (List ℕ)) → All IsPart (p ∷ q ∷ ps) → All IsPart (q ∷ [])
second p q ps all = All-cons IsPart q [] (All-head IsPart q ps (All-tail IsPart p (q ∷ ps) all)) (All-nil IsPart)

both : (p q r s : List ℕ) (ps : List (List ℕ)) → All IsPart (p ∷ q ∷ r ∷ s ∷ ps) → All IsPart (q ∷ s ∷ [])
both p q r s ps all =
    let from = All-tail IsPart p (q ∷ r ∷ s ∷ ps) all in
    All-cons IsPart q (s ∷ []) (All-head IsPart q (r ∷ s ∷ ps) from) (second r s ps (All-tail IsPart q (r ∷ s ∷ ps) from))

ids_from_parts : (a : Address) → All IsPart (parts_of a) → All IsPart (ids_of a)
ids_from_parts Landing all = All-nil IsPart
ids_from_parts Conformance all = All-nil IsPart
ids_from_parts Collections all = All-nil IsPart
ids_from_parts (Collection c) all = second (codes "collections") c [] all
ids_from_parts (Instances c) all = second (codes "collections") c (codes "instances" ∷ []) all
ids_from_parts (Instance c i) all = both (codes "collections") c (codes "instances") i [] all
ids_from_parts (Locations c) all = second (codes "collections") c (codes "locations" ∷ []) all
ids_from_parts (Location c s) all = both (codes "collections") c (codes "locations") s [] all
ids_from_parts (Query kind c None) all = second (codes "collections") c (kind_text kind ∷ []) all
ids_from_parts (Query kind c (Some i)) all = both (codes "collections") c (codes "instances") i (kind_text kind ∷ []) all

-- where the first is a part, both are parts if the other is
pub two_parts : (s t : Bool) (p q : List ℕ) → s ≡ true → (IsTrue s ↔ IsPart p) → (IsTrue t ↔ IsPart q) → IsTrue t ↔ All IsPart (p ∷ q ∷ [])
two_parts s t p q e one other = (
  (λ h. All-cons IsPart p (q ∷ []) (one.0 e) (All-cons IsPart q [] (other.0 h) (All-nil IsPart))),
  (λ all. other.1 (All-head IsPart q [] (All-tail IsPart p (q ∷ []) all))),
)

pub two_ids : (t : Bool) (a : Address) (p q one other : List ℕ) → one ≡ p → other ≡ q → ids_of a ≡ p ∷ q ∷ [] → (IsTrue t ↔ All IsPart (one ∷ other ∷ [])) → IsTrue t ↔ All IsPart (ids_of a)
two_ids t a p q one other e f is h =
    let P : List (List ℕ) → Type 0 = λ l. IsTrue t ↔ All IsPart l in
    subst P (ap₂ (λ x y. x ∷ y ∷ []) e f ∙ sym is) h

-- the path names the address of its parts, if its ids are parts
pub named : (path inner : List ℕ) (a : Address) → path ≡ 47 ∷ inner → Some a ≡ address_in (parts_in inner) → All IsPart (ids_of a) → IsPath path a
named path inner a e is all = an_address path inner a e (sym is) (parts_from_ids a all)

pub unnamed : (path inner : List ℕ) (a : Address) → path ≡ 47 ∷ inner → Some a ≡ address_in (parts_in inner) → ¬ (All IsPart (ids_of a)) → HasNoAddress path
unnamed path inner a e is not b names =
    let P : Address → Type 0 = λ d. All IsPart (ids_of d) in
    not (subst P (sym (some_same a b (is ∙ address_is path inner b e names))) (ids_from_parts b names.each))
