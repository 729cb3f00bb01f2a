-- The order of observations, and what stands where among sorted ones.
use Rattle.std.proofs.Common.{◌≡◌, ◌≢◌, inl, inr, ℕ, zero, suc, ◌<◌, ◌≤◌, true, false, List, [], ◌∷◌, length, get_or, ℤ, Ordering, Less, Equal, Greater, refl, sym, ap, ◌∙◌, arith}
use Rattle.std.specs.Prelude.{Contains, Ok, Err}
use Rattle.std.proofs.Math.Nat.{not-suc-le-zero}
use Rattle.std.specs.Cmp.{IsTotalOrder, IsPartialOrder, total, then_po, then_agrees, partial_order_from_agreeing_total, IsStrictWeakOrder}
use Rattle.std.specs.Ordering.{ordering_then, ordering_reverse, int_cmp, is_lt, eq_by_cmp}
use Rattle.std.specs.Prelude.{Some}
use Rattle.std.specs.List.Sorted.{IsPartitionedBy, IsPartitionPoint, IsBinarySearchResult}
use Rattle.std.proofs.lemmas.Bool.{false≢true, cases_lt}
use Rattle.std.proofs.lemmas.Cmp.{nat_list_cmp_total, int_cmp_total, int_ranked}
use Rattle.std.proofs.lemmas.List.{get_or_default}
use Rattle.std.proofs.lemmas.List.MinMax.{ranks_by}
use Rattle.std.proofs.lemmas.List.Sorted.{sorted_far, searchable_from_sorted}
use Rattle.edr_base.specs.Names.{order}
use Rattle.edr_ids.specs.ListLaws.{order_itself, order_same, less_from_test}
use Rattle.edr_csv.specs.declared.observations.Observation.{Observation}
use Rattle.edr_import.specs.Sorting.{Key, key_of, key_order, is_before, AreSorted}
use Rattle.edr_import.specs.Times.{IsFirstOf}

-- ---- the order

po_of : {K : Type 0} (R : K → K → Ordering) → IsTotalOrder R → IsPartialOrder (eq_by_cmp R) (λ x y. Some (R x y))
po_of R o = partial_order_from_agreeing_total R o (λ x y. refl) (λ x y. refl)

then_total : {K : Type 0} (R S : K → K → Ordering) → IsTotalOrder R → IsTotalOrder S → IsTotalOrder (λ x y. ordering_then (R x y) (S x y))
then_total R S o p = total (then_po (po_of R o) (po_of S p)) (then_agrees {R = R} {S = S} (λ x y. refl) (λ x y. refl))

on_total : {K X : Type 0} (R : K → K → Ordering) (f : X → K) → IsTotalOrder R → IsTotalOrder (λ x y. R (f x) (f y))
on_total R f o = record {
  antisymm = λ x y. o.antisymm (f x) (f y);
  trans = λ x y z. o.trans (f x) (f y) (f z);
  congr = λ x y z. o.congr (f x) (f y) (f z);
}

pub key_total : IsTotalOrder key_order
key_total =
    then_total (λ a b. order a.station b.station) (λ a b. ordering_then (int_cmp a.t b.t) (order a.parameter b.parameter))
    (on_total order (λ (k : Key). k.station) nat_list_cmp_total)
    (then_total (λ a b. int_cmp a.t b.t) (λ a b. order a.parameter b.parameter)
    (on_total int_cmp (λ (k : Key). k.t) int_cmp_total) (on_total order (λ (k : Key). k.parameter) nat_list_cmp_total))

pub weak : IsStrictWeakOrder is_before
weak = ranks_by key_total key_of

-- keys that compare as equal are one
both_equal : (a b : Ordering) → ordering_then a b ≡ Equal → (a ≡ Equal) × (b ≡ Equal)
both_equal Less b e = cc
both_equal Equal b e = (refl, e)
both_equal Greater b e = cc

same_number : (a b : ℤ) → int_cmp a b ≡ Equal → a ≡ b
same_number a b e = int_ranked a b Equal (sym e)

pub same_key : (a b : Key) → key_order a b ≡ Equal → (a.station ≡ b.station) × (a.t ≡ b.t) × (a.parameter ≡ b.parameter)
same_key a b e =
    let outer = both_equal (order a.station b.station) _ e in
    let inner = both_equal (int_cmp a.t b.t) _ outer.1 in
    (order_same a.station b.station outer.0, same_number a.t b.t inner.0, order_same a.parameter b.parameter inner.1)

equal_numbers : (a : ℤ) → int_cmp a a ≡ Equal
equal_numbers a = grind (arith)

pub key_itself : (a b : Key) → a.station ≡ b.station → a.t ≡ b.t → a.parameter ≡ b.parameter → key_order a b ≡ Equal
key_itself a b s t p =
    ap (λ (o : Ordering). ordering_then o (ordering_then (int_cmp a.t b.t) (order a.parameter b.parameter))) (ap (order a.station) (sym s) ∙ order_itself a.station)
    ∙ ap (λ (o : Ordering). ordering_then o (order a.parameter b.parameter)) (ap (int_cmp a.t) (sym t) ∙ equal_numbers a.t)
    ∙ (ap (order a.parameter) (sym p) ∙ order_itself a.parameter)

-- ---- an item of a list, and its place

pub item_at : {X : Type 0} (xs : List X) (k : ℕ) → k < length xs → (x : X) × ((d : X) → get_or xs k d ≡ x)
item_at [] k inside = absurd (not-suc-le-zero inside)
item_at (x ∷ xs) zero inside = (x, λ d. refl)
item_at (x ∷ xs) (suc k) inside = item_at xs k (omega (arith, inside))

pub here : {X : Type 0} (xs : List X) (k : ℕ) (x : X) → k < length xs → x ≡ get_or xs k x → (d : X) → get_or xs k d ≡ x
here xs k x inside is d = get_or_default xs k d x inside ∙ sym is

pub contains_at : {X : Type 0} (xs : List X) (k : ℕ) (x : X) → k < length xs → ((d : X) → get_or xs k d ≡ x) → Contains xs x
contains_at xs k x inside at = (k, inside, at x)

-- ---- sorted observations

module _ (xs : List Observation) (up : AreSorted xs) where
  pub not_above : (i j : ℕ) (d : Observation) → i ≤ j → j < length xs → key_order (key_of (get_or xs i d)) (key_of (get_or xs j d)) ≢ Greater
  not_above i j d from inside e =
      let turned : key_order (key_of (get_or xs j d)) (key_of (get_or xs i d)) ≡ Less =
      key_total.antisymm (key_of (get_or xs j d)) (key_of (get_or xs i d)) ∙ ap ordering_reverse e in
      false≢true (sym (sorted_far is_before weak xs up i j d from inside) ∙ ap is_lt turned)

  pub station_not_above : (i j : ℕ) (d : Observation) → i ≤ j → j < length xs → order (get_or xs i d).station (get_or xs j d).station ≢ Greater
  station_not_above i j d from inside e =
      let a = get_or xs i d in
      let b = get_or xs j d in
      not_above i j d from inside (ap (λ (o : Ordering). ordering_then o (ordering_then (int_cmp a.t b.t) (order a.parameter b.parameter))) e)

  pub time_not_above : (i j : ℕ) (d : Observation) → i ≤ j → j < length xs → (get_or xs i d).station ≡ (get_or xs j d).station
      → int_cmp (get_or xs i d).t (get_or xs j d).t ≢ Greater
  time_not_above i j d from inside same e =
      let a = get_or xs i d in
      let b = get_or xs j d in
      let own : order a.station b.station ≡ Equal = ap (order a.station) (sym same) ∙ order_itself a.station in
      not_above i j d from inside
      (ap (λ (o : Ordering). ordering_then o (ordering_then (int_cmp a.t b.t) (order a.parameter b.parameter))) own
      ∙ ap (λ (o : Ordering). ordering_then o (order a.parameter b.parameter)) e)

  -- those of stations below one stand first
  below_first : (id : List ℕ) (i j : ℕ) (d : Observation) (o : Ordering) → order (get_or xs i d).station (get_or xs j d).station ≡ o → o ≢ Greater
      → order (get_or xs j d).station id ≡ Less → order (get_or xs i d).station id ≡ Less
  below_first id i j d Less e not below = nat_list_cmp_total.trans (get_or xs i d).station (get_or xs j d).station id e below
  below_first id i j d Equal e not below = nat_list_cmp_total.congr (get_or xs i d).station (get_or xs j d).station id e ∙ below
  below_first id i j d Greater e not below = absurd (not refl)

  pub partitioned : (id : List ℕ) → IsPartitionedBy (λ (o : Observation). is_lt (order o.station id)) xs
  partitioned id i j d from inside below =
      ap is_lt (below_first id i j d (order (get_or xs i d).station (get_or xs j d).station) refl (station_not_above i j d from inside) (less_from_test _ below))

  pub first_is : (id : List ℕ) (place : ℕ) → place ≤ length xs
      → IsPartitionPoint (λ (o : Observation). is_lt (order o.station id) ≡ true) (λ o. is_lt (order o.station id) ≡ false) xs place → IsFirstOf xs id place
  first_is id place within point = record {
    within = within;
    below = λ k d before. less_from_test _ (point.0 k d (omega arith) before);
    from = λ k d from inside e. false≢true (sym (point.1 k d from inside) ∙ ap is_lt e);
  }

  -- what a search by halves finds
  pub found_key : (key : Key) (place : ℕ) (x : Observation) → place < length xs → IsBinarySearchResult (λ o. key_order (key_of o) key) xs (Ok place)
      → ((d : Observation) → get_or xs place d ≡ x) → Contains xs x × (key_order (key_of x) key ≡ Equal)
  found_key key place x inside at is =
      (contains_at xs place x inside is, ap (λ (o : Observation). key_order (key_of o) key) (sym (is x)) ∙ at x)

  none_between : (key : Key) (place k : ℕ) (x : Observation) → IsPartitionPoint (λ o. key_order (key_of o) key ≡ Less) (λ o. key_order (key_of o) key ≡ Greater) xs place
      → k < length xs → key_order (key_of (get_or xs k x)) key ≢ Equal
  none_between key place k x point inside e = elim (cases_lt k place) [
    | inl before ↦ (let less : key_order (key_of (get_or xs k x)) key ≡ Less = point.0 k x (omega arith) before in cc)
    | inr from ↦ (let greater : key_order (key_of (get_or xs k x)) key ≡ Greater = point.1 k x from inside in cc)
  ]

  pub no_key : (key : Key) (place : ℕ) → IsBinarySearchResult (λ o. key_order (key_of o) key) xs (Err place) → (x : Observation) → Contains xs x → key_order (key_of x) key ≢ Equal
  no_key key place at x has e =
      let point = at (searchable_from_sorted key_total key_of xs key up) in
      none_between key place has.0 x point has.1 (ap (λ (o : Observation). key_order (key_of o) key) (has.2) ∙ e)
