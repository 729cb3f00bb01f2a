-- Members that are put in ascending order stand in that order.
use Rattle.std.proofs.Common.{◌≡◌, ℕ, suc, add-one, ◌+◌, ◌<◌, List, [], ◌∷◌, ◌++◌, length, map, take, drop, Less, Greater, nat_cmp, slice_index_or, refl, sym, ap, subst, ◌∙◌}
use Rattle.std.proofs.lemmas.Cmp.{nat_list_cmp_total}
use Rattle.std.proofs.lemmas.List.{take_more, take-append-drop}
use Rattle.std.proofs.Math.Seq.{drop-cons}
use Rattle.std.specs.Cmp.Lexicographic.{slice_cmp}
use Rattle.std.specs.List.{AllByRecursion}
use Rattle.std.specs.List.Sorted.{IsStrictlySortedBy}
use Rattle.std.specs.Ordering.{ordering_reverse}
use Rattle.serde_json.specs.Data.{Data, member, put}
use Rattle.covjson_value.specs.Trees.{members_in_order}

abbrev pub Pair : Type 0
Pair = List ℕ × Data

abbrev pub keys_of : List Pair → List (List ℕ)
keys_of pairs = map (λ (p : Pair). p.0) pairs

abbrev pub Ascend : List Pair → Type 0
Ascend pairs = IsStrictlySortedBy (slice_cmp nat_cmp) (keys_of pairs)

below_middle : (key : List ℕ) (done : List Pair) (p : Pair) (more : List Pair) → AllByRecursion (λ y. slice_cmp nat_cmp key y ≡ Less) (keys_of (done ++ p ∷ more)) → slice_cmp nat_cmp key p.0 ≡ Less
below_middle key [] p more h = h.0
below_middle key (x ∷ done) p more h = below_middle key done p more h.1

-- a key that is above those before it goes last
put_last : (done : List Pair) (p : Pair) (more : List Pair) → Ascend (done ++ p ∷ more) → put p.0 p.1 (members_in_order done) ≡ members_in_order (done ++ p ∷ [])
unfolding IsStrictlySortedBy
put_last [] p more h = refl
put_last (first ∷ done) p more h =
    let above : slice_cmp nat_cmp p.0 first.0 ≡ Greater =
    nat_list_cmp_total.antisymm p.0 first.0 ∙ ap ordering_reverse (below_middle first.0 done p more h.0) in
    rw above (ap (member first.0 first.1) (put_last done p more h.1))

-- the member at a place is put after those before it
pub put_next : (pairs : List Pair) (k : ℕ) (p : Pair) → k < length pairs → Ascend pairs → p ≡ slice_index_or pairs k p
    → put p.0 p.1 (members_in_order (take k pairs)) ≡ members_in_order (take (k + 1) pairs)
put_next pairs k p inside ascend is =
    let rest : drop k pairs ≡ p ∷ drop (k + 1) pairs = rw add-one (drop-cons pairs k p inside ∙ ap (λ (x : Pair). x ∷ drop (suc k) pairs) (sym is)) in
    let cut : pairs ≡ take k pairs ++ p ∷ drop (k + 1) pairs = sym (take-append-drop k pairs) ∙ ap (λ (ps : List Pair). take k pairs ++ ps) rest in
    put_last (take k pairs) p (drop (k + 1) pairs) (subst Ascend cut ascend)
    ∙ ap members_in_order (ap (λ (x : Pair). take k pairs ++ x ∷ []) is ∙ sym (take_more pairs k p inside))
