-- The numbers of a search, in ascending order.
use Rattle.std.proofs.Common.{◌≡◌, ℕ, List, [], ◌∷◌, length, Option, Some, None, option_map, MatchOption, IsPermutation, eqb, if◌then◌else◌, refl, ap, ◌∙◌, arith}
use Rattle.std.specs.Borrow.{Bor}
use Rattle.std.specs.List.Sorted.{IsNonDecreasing}
use Rattle.std.proofs.lemmas.List.Sorted.{sum_by-IsPermutation, length_permutation}
use Rattle.edr_base.specs.declared.places.Spot.{Spot}
use Rattle.edr_near.specs.Near.{distance_of}
use Rattle.edr_near.specs.Cells.{CellValue, distances}
use Rattle.edr_near.specs.Looks.{AreLooks}
use Rattle.edr_near.specs.Search.{IsSearched}

empty : (looks : List ℕ) → length looks ≡ 0 → looks ≡ []
empty [] h = refl
empty (n ∷ looks) h = absurd (omega (arith, h))

pub looked : {V : Type 0} (id_of : V → List ℕ) (spot_of : V → Spot) (spot : Spot) (cells : List (CellValue V)) (found : Option (Bor V)) (numbers looks : List ℕ)
    → IsPermutation numbers looks → IsNonDecreasing looks → IsSearched id_of spot_of spot cells (option_map (λ b. b.now) found) numbers
    → MatchOption found (looks ≡ []) (λ item. AreLooks (distances spot cells) (distance_of id_of spot_of spot item.now) looks)
looked id_of spot_of spot cells None numbers looks same up is =
    empty looks (length_permutation numbers looks same ∙ ap length is.each)
looked id_of spot_of spot cells (Some item) numbers looks same up is = record {
  ascending = up;
  each = λ number. sum_by-IsPermutation (λ n. if eqb n number then 1 else 0) numbers looks same ∙ is.each number;
}
