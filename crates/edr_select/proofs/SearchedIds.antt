-- What a search by halves answers of ascending ids.
use Rattle.std.proofs.Common.{◌≡◌, inl, inr, ℕ, ◌+◌, false, List, length, get_or, All, Result, Ok, Err, Less, Greater, ap, arith}
use Rattle.std.proofs.lemmas.Bool.{cases_lt}
use Rattle.std.proofs.lemmas.Cmp.{nat_list_cmp_total}
use Rattle.std.proofs.lemmas.List.Sorted.{searchable_from_sorted}
use Rattle.std.specs.List.Sorted.{IsBinarySearchResult, IsSearchInRange}
use Rattle.std.specs.Ordering.{is_lt, is_gt}
use Rattle.edr_base.specs.Names.{order}
use Rattle.edr_ids.specs.Ids.{AscendBy, has_id}
use Rattle.edr_ids.specs.ListLaws.{order_same, order_less_flips, less_from_test, greater_from_test, keys_ascend, has_id_is}
use Rattle.edr_select.specs.PlacesOfIds.{IsPlaceOfId}

module _ {V : Type 0} (key : V → List ℕ) where
  pub place_from_search : (id : List ℕ) (xs : List V) (r : Result ℕ ℕ) → AscendBy key xs → IsSearchInRange r (length xs) → IsBinarySearchResult (λ x. order (key x) id) xs r → IsPlaceOfId key id xs r
  place_from_search id xs (Ok place) up inside at = (inside, λ d. order_same (key (get_or xs place d)) id (at d))
  place_from_search id xs (Err place) up inside at =
      let point = at (searchable_from_sorted nat_list_cmp_total key xs id
      (λ k d low high. ap is_lt (order_less_flips (key (get_or xs k d)) (key (get_or xs (k + 1) d)) (keys_ascend key xs up k (k + 1) d (omega arith) high)))) in
      (inside, (λ k d h. ap is_lt (point.0 k d (omega arith) h), λ k d low high. ap is_gt (point.1 k d low high)))

  -- where an id would stand, no item has it
  pub none_has_it : (id : List ℕ) (xs : List V) (place : ℕ) → IsPlaceOfId key id xs (Err place) → All (λ x. has_id key id x ≡ false) xs
  none_has_it id xs place at k d inside = elim (cases_lt k place) [
    | inl before ↦ has_id_is key id (get_or xs k d) Less (less_from_test (order (key (get_or xs k d)) id) (at.1.0 k d before))
    | inr from ↦ has_id_is key id (get_or xs k d) Greater (greater_from_test (order (key (get_or xs k d)) id) (at.1.1 k d from inside))
  ]
