-- Laws of lists of items with ids, for the proofs of callers.
use Rattle.std.proofs.Common.{◌≡◌, inl, inr, ℕ, zero, suc, ◌<◌, Bool, true, false, not, if◌then◌else◌, List, [], ◌∷◌, ◌++◌, length, map, All, Some, None, Contains, Ordering, Less, Equal, Greater, bytes_eq, refl, sym, ap, ◌∙◌, subst, arith}
use Rattle.std.proofs.Math.Nat.{zero-lt-suc, suc-le-suc_iff, le_of_suc-le-suc, not-suc-le-zero, lt_trans}
use Rattle.std.proofs.lemmas.Bool.{false≢true, cases_Bool}
use Rattle.std.proofs.lemmas.Cmp.{nat_list_cmp_total, tied_itself}
use Rattle.std.proofs.lemmas.List.{get_or-map, length-map}
use Rattle.std.proofs.lemmas.List.Elements.{All-append, All-cons, All-head, All-tail, filter_passes}
use Rattle.std.proofs.lemmas.List.Kept.{IsStrictlySortedBy-filter}
use Rattle.std.proofs.lemmas.Map.Keys.{Less-from_sorted, sorted_tail}
use Rattle.std.proofs.lemmas.Map.Text.{is_eq-slice_cmp}
use Rattle.std.proofs.lemmas.Slice.Eq.{bytes_eq-Decides}
use Rattle.std.specs.List.{AllByRecursion, filter, slice_index_or}
use Rattle.std.specs.List.Sorted.{IsStrictlySortedBy}
use Rattle.std.specs.Ordering.{ordering_reverse, is_lt, is_eq, is_gt}
use Rattle.edr_base.specs.Names.{order}
use Rattle.edr_ids.specs.Ids.{AscendBy, has_id, is_below, is_above, item_of, with_item, without_id}

-- ---- the order of ids

-- an id is equal to itself
pub order_itself : (a : List ℕ) → order a a ≡ Equal
order_itself a = tied_itself nat_list_cmp_total a

-- ids that compare as equal are one
pub order_same : (a b : List ℕ) → order a b ≡ Equal → a ≡ b
order_same a b h = (bytes_eq-Decides a b).0 (sym (is_eq-slice_cmp a b) ∙ ap is_eq h)

-- and an order turns round
pub order_less_flips : (a b : List ℕ) → order a b ≡ Less → order b a ≡ Greater
order_less_flips a b h = nat_list_cmp_total.antisymm b a ∙ ap ordering_reverse h

pub order_greater_flips : (a b : List ℕ) → order a b ≡ Greater → order b a ≡ Less
order_greater_flips a b h = nat_list_cmp_total.antisymm b a ∙ ap ordering_reverse h

pub less_from_test : (o : Ordering) → is_lt o ≡ true → o ≡ Less
less_from_test Less h = refl
less_from_test Equal h = absurd (false≢true h)
less_from_test Greater h = absurd (false≢true h)

pub greater_from_test : (o : Ordering) → is_gt o ≡ true → o ≡ Greater
greater_from_test Less h = absurd (false≢true h)
greater_from_test Equal h = absurd (false≢true h)
greater_from_test Greater h = refl

module _ {V : Type 0} (id_of : V → List ℕ) where
  -- an id is below that of each later item
  pub keys_ascend : (items : List V) → AscendBy id_of items → (low high : ℕ) (d : V) → low < high → high < length items
      → order (id_of (slice_index_or items low d)) (id_of (slice_index_or items high d)) ≡ Less
  keys_ascend items up low high d below inside =
      let Inside : ℕ → Type 0 = λ n. high < n in
      let less : order (slice_index_or (map id_of items) low (id_of d)) (slice_index_or (map id_of items) high (id_of d)) ≡ Less =
      Less-from_sorted order (map id_of items) low high (id_of d) up below (subst Inside (sym (length-map items id_of)) inside) in
      ap (λ id. order id (id_of (slice_index_or items high d))) (sym (get_or-map id_of items low d (id_of d) (lt_trans below inside)))
      ∙ ap (order (slice_index_or (map id_of items) low (id_of d))) (sym (get_or-map id_of items high d (id_of d) inside)) ∙ less

  -- an item has the id exactly where the two compare as equal
  pub has_id_is : (id : List ℕ) (item : V) (o : Ordering) → order (id_of item) id ≡ o → has_id id_of id item ≡ is_eq o
  has_id_is id item o h = sym (is_eq-slice_cmp (id_of item) id) ∙ ap is_eq h

  own_id : (id : List ℕ) (item : V) → id_of item ≡ id → order (id_of item) id ≡ Equal
  own_id id item own = ap (λ k. order k id) own ∙ order_itself id

  -- the first id is below the others
  pub first_below : (item : V) (items : List V) → AscendBy id_of (item ∷ items) → All (λ other. order (id_of item) (id_of other) ≡ Less) items
  first_below item items up k d inside = keys_ascend (item ∷ items) up zero (suc k) d (zero-lt-suc k) (suc-le-suc_iff.1 inside)

  pub tail_ascends : (item : V) (items : List V) → AscendBy id_of (item ∷ items) → AscendBy id_of items
  tail_ascends item items up = sorted_tail order (id_of item) (map id_of items) up

-- ---- filters that keep all or nothing

module _ {V : Type 0} (test : V → Bool) where
  pub filter_keeps_all : (items : List V) → All (λ item. test item ≡ true) items → filter test items ≡ items
  filter_keeps_all [] h = refl
  filter_keeps_all (item ∷ items) h =
      ap (λ b. if b then item ∷ filter test items else filter test items) (All-head (λ x. test x ≡ true) item items h)
      ∙ ap (λ kept. item ∷ kept) (filter_keeps_all items (All-tail (λ x. test x ≡ true) item items h))

  pub filter_keeps_none : (items : List V) → All (λ item. test item ≡ false) items → filter test items ≡ []
  filter_keeps_none [] h = refl
  filter_keeps_none (item ∷ items) h =
      ap (λ b. if b then item ∷ filter test items else filter test items) (All-head (λ x. test x ≡ false) item items h)
      ∙ filter_keeps_none items (All-tail (λ x. test x ≡ false) item items h)

-- ---- where no item has an id

module _ {V : Type 0} (id_of : V → List ℕ) where
  -- taking it out leaves all
  pub without_id-none : (id : List ℕ) (items : List V) → item_of id_of id items ≡ None → without_id id_of id items ≡ items
  without_id-none id [] h = refl
  without_id-none id (item ∷ items) h = elim (cases_Bool (has_id id_of id item)) [
    | inl has ↦ (let found : Some item ≡ None = rw has at h in cc)
    | inr lacks ↦ (let rest : item_of id_of id items ≡ None = rw lacks at h in rw lacks (ap (λ left. item ∷ left) (without_id-none id items rest)))
  ]

-- ---- the item of an id

module _ {V : Type 0} (id_of : V → List ℕ) where
  -- the item at the place that has the id
  pub item_of-found : (id : List ℕ) (items : List V) (place : ℕ) (d : V) → AscendBy id_of items → place < length items
      → id_of (slice_index_or items place d) ≡ id → item_of id_of id items ≡ Some (slice_index_or items place d)
  item_of-found id [] place d up inside own = absurd (not-suc-le-zero inside)
  item_of-found id (item ∷ items) zero d up inside own =
      ap (λ b. if b then Some item else item_of id_of id items) (has_id_is id_of id item Equal (own_id id_of id item own))
  item_of-found id (item ∷ items) (suc place) d up inside own =
      let less : order (id_of item) id ≡ Less = ap (order (id_of item)) (sym own) ∙ first_below id_of item items up place d (le_of_suc-le-suc inside) in
      ap (λ b. if b then Some item else item_of id_of id items) (has_id_is id_of id item Less less)
      ∙ item_of-found id items place d (tail_ascends id_of item items up) (le_of_suc-le-suc inside) own

  -- there is none where no item has the id
  pub item_of-none : (id : List ℕ) (items : List V) → All (λ item. has_id id_of id item ≡ false) items → item_of id_of id items ≡ None
  item_of-none id [] h = refl
  item_of-none id (item ∷ items) h =
      ap (λ b. if b then Some item else item_of id_of id items) (All-head (λ x. has_id id_of id x ≡ false) item items h)
      ∙ item_of-none id items (All-tail (λ x. has_id id_of id x ≡ false) item items h)

-- ---- the order is kept

module _ {V : Type 0} (id_of : V → List ℕ) where
  map_filter : (test : List ℕ → Bool) (items : List V) → map id_of (filter (λ item. test (id_of item)) items) ≡ filter test (map id_of items)
  map_filter test [] = refl
  map_filter test (item ∷ items) =
      let kept = filter (λ x. test (id_of x)) items in
      elim (test (id_of item)) as (λ b. map id_of (if b then item ∷ kept else kept) ≡ (if b then id_of item ∷ filter test (map id_of items) else filter test (map id_of items))) [
        | true ↦ ap (λ ids. id_of item ∷ ids) (map_filter test items)
        | false ↦ map_filter test items
      ]

  AscendBy-filter : (test : List ℕ → Bool) (items : List V) → AscendBy id_of items → AscendBy id_of (filter (λ item. test (id_of item)) items)
  AscendBy-filter test items up = subst (IsStrictlySortedBy order) (sym (map_filter test items)) (IsStrictlySortedBy-filter order test (map id_of items) up)

  pub AscendBy-without_id : (id : List ℕ) (items : List V) → AscendBy id_of items → AscendBy id_of (without_id id_of id items)
  AscendBy-without_id id items up = AscendBy-filter (λ k. not (bytes_eq k id)) items up

  all_ids : (P : List ℕ → Type 0) (items : List V) → All (λ item. P (id_of item)) items → AllByRecursion P (map id_of items)
  all_ids P [] h = tt
  all_ids P (item ∷ items) h = (All-head (λ x. P (id_of x)) item items h, all_ids P items (All-tail (λ x. P (id_of x)) item items h))

  pub AscendBy-nil : AscendBy id_of []
  unfolding IsStrictlySortedBy
  AscendBy-nil = tt

  pub AscendBy-empty : (items : List V) → items ≡ [] → AscendBy id_of items
  AscendBy-empty items h = subst (AscendBy id_of) (sym h) AscendBy-nil

  pub AscendBy-cons : (item : V) (items : List V) → All (λ other. order (id_of item) (id_of other) ≡ Less) items → AscendBy id_of items → AscendBy id_of (item ∷ items)
  unfolding IsStrictlySortedBy
  AscendBy-cons item items h up = (all_ids (λ k. order (id_of item) k ≡ Less) items h, up)

  -- a list below an item, the item, and a list above it
  AscendBy-join : (item : V) (front back : List V) → All (λ x. order (id_of x) (id_of item) ≡ Less) front → All (λ x. order (id_of x) (id_of item) ≡ Greater) back
      → AscendBy id_of front → AscendBy id_of back → AscendBy id_of (front ++ item ∷ back)
  AscendBy-join item [] back below above up up' = AscendBy-cons item back (λ k d h. order_greater_flips (id_of (slice_index_or back k d)) (id_of item) (above k d h)) up'
  AscendBy-join item (first ∷ front) back below above up up' =
      let less : order (id_of first) (id_of item) ≡ Less = All-head (λ x. order (id_of x) (id_of item) ≡ Less) first front below in
      AscendBy-cons first (front ++ item ∷ back)
      (All-append (λ x. order (id_of first) (id_of x) ≡ Less) front (item ∷ back) (first_below id_of first front up)
      (All-cons (λ x. order (id_of first) (id_of x) ≡ Less) item back less
      (λ k d h. nat_list_cmp_total.trans (id_of first) (id_of item) (id_of (slice_index_or back k d)) less
      (order_greater_flips (id_of (slice_index_or back k d)) (id_of item) (above k d h)))))
      (AscendBy-join item front back (All-tail (λ x. order (id_of x) (id_of item) ≡ Less) first front below) above (tail_ascends id_of first front up) up')

  pub AscendBy-with_item : (item : V) (items : List V) → AscendBy id_of items → AscendBy id_of (with_item id_of item items)
  AscendBy-with_item item items up =
      let id = id_of item in
      AscendBy-join item (filter (is_below id_of id) items) (filter (is_above id_of id) items)
      (λ k d h. less_from_test _ (filter_passes (is_below id_of id) items k d h))
      (λ k d h. greater_from_test _ (filter_passes (is_above id_of id) items k d h))
      (AscendBy-filter (λ k. is_lt (order k id)) items up) (AscendBy-filter (λ k. is_gt (order k id)) items up)

-- ---- the item of an id

-- it is in the list, and has the id
pub item_found : {V : Type 0} (key : V → List ℕ) (id : List ℕ) (xs : List V) (x : V) → item_of key id xs ≡ Some x → Contains xs x × (key x ≡ id)
item_found key id [] x h = cc
item_found key id (y ∷ xs) x h = elim (cases_Bool (has_id key id y)) [
  | inl has ↦ (let found : Some y ≡ Some x = rw has at h in
      let same : y ≡ x = cc in
      ((0, omega arith, same), ap key (sym same) ∙ (bytes_eq-Decides (key y) id).0 has))
  | inr lacks ↦ (let rest = item_found key id xs x (rw lacks at h) in ((suc rest.0.0, omega (arith, rest.0.1), rest.0.2), rest.1))
]
