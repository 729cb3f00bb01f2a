-- Lists that ascend, as the items before one, it, and those behind it: what is found, set and taken out there.
use Rattle.std.proofs.Common.{◌≡◌, ℕ, Bool, true, false, not, if◌then◌else◌, List, [], ◌∷◌, ◌++◌, All, Some, Ordering, Less, Equal, Greater, refl, sym, ap, ◌∙◌, append_assoc}
use Rattle.std.proofs.lemmas.Cmp.{nat_list_cmp_total}
use Rattle.std.proofs.lemmas.List.{append-nil}
use Rattle.std.proofs.lemmas.List.Elements.{All-nil, All-cons, All-head, All-tail, filter-append}
use Rattle.std.specs.List.{filter, slice_index_or}
use Rattle.std.specs.Ordering.{is_lt, is_eq, is_gt}
use Rattle.edr_base.specs.Names.{order}
use Rattle.edr_ids.specs.Ids.{AscendBy, has_id, is_below, is_above, item_of, with_item, without_id}
use Rattle.edr_ids.specs.ListLaws.{order_itself, order_same, order_less_flips, order_greater_flips, has_id_is, first_below, tail_ascends, filter_keeps_all, filter_keeps_none, item_of-none, AscendBy-nil, AscendBy-cons}

-- ---- what holds of all holds of each side

module _ {V : Type 0} (P : V → Type 0) where
  All-before : (front back : List V) → All P (front ++ back) → All P front
  All-before [] back h = All-nil P
  All-before (x ∷ front) back h = All-cons P x front (All-head P x (front ++ back) h) (All-before front back (All-tail P x (front ++ back) h))

  All-behind : (front back : List V) → All P (front ++ back) → All P back
  All-behind [] back h = h
  All-behind (x ∷ front) back h = All-behind front back (All-tail P x (front ++ back) h)

-- ---- filters of two sides

module _ {V : Type 0} (test : V → Bool) where
  filter_back_none : (front back : List V) → All (λ x. test x ≡ false) back → filter test (front ++ back) ≡ filter test front
  filter_back_none front back none =
      filter-append test front back ∙ ap (λ kept. filter test front ++ kept) (filter_keeps_none test back none) ∙ append-nil (filter test front)

  filter_back_all : (front back : List V) → All (λ x. test x ≡ true) back → filter test (front ++ back) ≡ filter test front ++ back
  filter_back_all front back all =
      filter-append test front back ∙ ap (λ kept. filter test front ++ kept) (filter_keeps_all test back all)

  filter_front_none : (front back : List V) → All (λ x. test x ≡ false) front → filter test (front ++ back) ≡ filter test back
  filter_front_none front back none =
      filter-append test front back ∙ ap (λ kept. kept ++ filter test back) (filter_keeps_none test front none)

  filter_front_all : (front back : List V) → All (λ x. test x ≡ true) front → filter test (front ++ back) ≡ front ++ filter test back
  filter_front_all front back all =
      filter-append test front back ∙ ap (λ kept. kept ++ filter test back) (filter_keeps_all test front all)

  filter_first : (item : V) (items : List V) → test item ≡ true → filter test (item ∷ items) ≡ item ∷ filter test items
  filter_first item items h = ap (λ b. if b then item ∷ filter test items else filter test items) h

  filter_not_first : (item : V) (items : List V) → test item ≡ false → filter test (item ∷ items) ≡ filter test items
  filter_not_first item items h = ap (λ b. if b then item ∷ filter test items else filter test items) h

module _ {V : Type 0} (key : V → List ℕ) where
  -- ---- the parts of a list that ascends

  pub record Parts (before : List V) (item : V) (behind : List V) : Type 0 where
    pub low : AscendBy key before
    pub high : AscendBy key behind
    pub below : All (λ x. order (key x) (key item) ≡ Less) before
    pub above : All (λ x. order (key item) (key x) ≡ Less) behind

  pub parts_ascend : (before : List V) (item : V) (behind : List V) → AscendBy key (before ++ item ∷ behind) → Parts before item behind
  parts_ascend [] item behind up =
      record { low = AscendBy-nil key; high = tail_ascends key item behind up; below = All-nil (λ x. order (key x) (key item) ≡ Less); above = first_below key item behind up }
  parts_ascend (x ∷ before) item behind up =
      let rest = parts_ascend before item behind (tail_ascends key x (before ++ item ∷ behind) up) in
      let later : All (λ other. order (key x) (key other) ≡ Less) (before ++ item ∷ behind) = first_below key x (before ++ item ∷ behind) up in
      let less : order (key x) (key item) ≡ Less =
      All-head (λ other. order (key x) (key other) ≡ Less) item behind (All-behind (λ other. order (key x) (key other) ≡ Less) before (item ∷ behind) later) in
      record {
        low = AscendBy-cons key x before (All-before (λ other. order (key x) (key other) ≡ Less) before (item ∷ behind) later) rest.low;
        high = rest.high;
        below = All-cons (λ y. order (key y) (key item) ≡ Less) x before less rest.below;
        above = rest.above;
      }

  -- ---- where an id is below that of the item, it is below all behind; where it is above, it is above all before

  module _ (id : List ℕ) (before : List V) (item : V) (behind : List V) (parts : Parts before item behind) where
    all_above : order id (key item) ≡ Less → All (λ x. order (key x) id ≡ Greater) (item ∷ behind)
    all_above less = All-cons (λ x. order (key x) id ≡ Greater) item behind (order_less_flips id (key item) less)
        (λ k d h. order_less_flips id (key (slice_index_or behind k d)) (nat_list_cmp_total.trans id (key item) (key (slice_index_or behind k d)) less (parts.above k d h)))

    all_below : order id (key item) ≡ Greater → All (λ x. order (key x) id ≡ Less) before
    all_below more k d h =
        nat_list_cmp_total.trans (key (slice_index_or before k d)) (key item) id (parts.below k d h) (order_greater_flips id (key item) more)

    same_below : order id (key item) ≡ Equal → All (λ x. order (key x) id ≡ Less) before
    same_below same k d h = ap (order (key (slice_index_or before k d))) (order_same id (key item) same) ∙ parts.below k d h

    same_above : order id (key item) ≡ Equal → All (λ x. order (key x) id ≡ Greater) behind
    same_above same k d h =
        ap (order (key (slice_index_or behind k d))) (order_same id (key item) same) ∙ order_less_flips (key item) (key (slice_index_or behind k d)) (parts.above k d h)

    same_item : order id (key item) ≡ Equal → order (key item) id ≡ Equal
    same_item same = ap (order (key item)) (order_same id (key item) same) ∙ order_itself (key item)

    -- ---- finding

    item_of-front : (front back : List V) → All (λ x. has_id key id x ≡ false) back → item_of key id (front ++ back) ≡ item_of key id front
    item_of-front [] back none = item_of-none key id back none
    item_of-front (x ∷ front) back none = ap (λ found. if has_id key id x then Some x else found) (item_of-front front back none)

    item_of-back : (front back : List V) → All (λ x. has_id key id x ≡ false) front → item_of key id (front ++ back) ≡ item_of key id back
    item_of-back [] back none = refl
    item_of-back (x ∷ front) back none =
        ap (λ b. if b then Some x else item_of key id (front ++ back)) (All-head (λ y. has_id key id y ≡ false) x front none)
        ∙ item_of-back front back (All-tail (λ y. has_id key id y ≡ false) x front none)

    pub item_of-less : order id (key item) ≡ Less → item_of key id (before ++ item ∷ behind) ≡ item_of key id before
    item_of-less less = item_of-front before (item ∷ behind) (λ k d h. has_id_is key id (slice_index_or (item ∷ behind) k d) Greater (all_above less k d h))

    pub item_of-greater : order id (key item) ≡ Greater → item_of key id (before ++ item ∷ behind) ≡ item_of key id behind
    item_of-greater more =
        item_of-back before (item ∷ behind) (λ k d h. has_id_is key id (slice_index_or before k d) Less (all_below more k d h))
        ∙ ap (λ b. if b then Some item else item_of key id behind) (has_id_is key id item Less (order_greater_flips id (key item) more))

    pub item_of-equal : order id (key item) ≡ Equal → item_of key id (before ++ item ∷ behind) ≡ Some item
    item_of-equal same =
        item_of-back before (item ∷ behind) (λ k d h. has_id_is key id (slice_index_or before k d) Less (same_below same k d h))
        ∙ ap (λ b. if b then Some item else item_of key id behind) (has_id_is key id item Equal (same_item same))

    -- ---- taking out

    kept : (x : V) (o : Ordering) → order (key x) id ≡ o → not (has_id key id x) ≡ not (is_eq o)
    kept x o is = ap not (has_id_is key id x o is)

    pub without_id-less : order id (key item) ≡ Less → without_id key id (before ++ item ∷ behind) ≡ without_id key id before ++ item ∷ behind
    without_id-less less =
        filter_back_all (λ x. not (has_id key id x)) before (item ∷ behind) (λ k d h. kept (slice_index_or (item ∷ behind) k d) Greater (all_above less k d h))

    pub without_id-greater : order id (key item) ≡ Greater → without_id key id (before ++ item ∷ behind) ≡ before ++ item ∷ without_id key id behind
    without_id-greater more =
        filter_front_all (λ x. not (has_id key id x)) before (item ∷ behind) (λ k d h. kept (slice_index_or before k d) Less (all_below more k d h))
        ∙ ap (λ list. before ++ list) (filter_first (λ x. not (has_id key id x)) item behind (kept item Less (order_greater_flips id (key item) more)))

    pub without_id-equal : order id (key item) ≡ Equal → without_id key id (before ++ item ∷ behind) ≡ before ++ behind
    without_id-equal same =
        filter_front_all (λ x. not (has_id key id x)) before (item ∷ behind) (λ k d h. kept (slice_index_or before k d) Less (same_below same k d h))
        ∙ ap (λ list. before ++ list) (filter_not_first (λ x. not (has_id key id x)) item behind (kept item Equal (same_item same))
        ∙ filter_keeps_all (λ x. not (has_id key id x)) behind (λ k d h. kept (slice_index_or behind k d) Greater (same_above same k d h)))

  -- ---- setting

  module _ (new : V) (before : List V) (item : V) (behind : List V) (parts : Parts before item behind) where
    abbrev low : List V → List V
    low items = filter (is_below key (key new)) items

    abbrev high : List V → List V
    high items = filter (is_above key (key new)) items

    -- the items of lower ids, the new one, and those of higher ids
    set_between : (items front back : List V) → low items ≡ front → high items ≡ back → with_item key new items ≡ front ++ new ∷ back
    set_between items front back lows highs = ap (λ list. list ++ new ∷ high items) lows ∙ ap (λ list. front ++ new ∷ list) highs

    pub with_item-less : order (key new) (key item) ≡ Less → with_item key new (before ++ item ∷ behind) ≡ with_item key new before ++ item ∷ behind
    with_item-less less =
        let above = all_above (key new) before item behind parts less in
        set_between (before ++ item ∷ behind) (low before) (high before ++ item ∷ behind)
        (filter_back_none (is_below key (key new)) before (item ∷ behind) (λ k d h. ap is_lt (above k d h)))
        (filter_back_all (is_above key (key new)) before (item ∷ behind) (λ k d h. ap is_gt (above k d h)))
        ∙ sym (append_assoc (low before) (new ∷ high before) (item ∷ behind))

    pub with_item-greater : order (key new) (key item) ≡ Greater → with_item key new (before ++ item ∷ behind) ≡ before ++ item ∷ with_item key new behind
    with_item-greater more =
        let below = all_below (key new) before item behind parts more in
        let lower : order (key item) (key new) ≡ Less = order_greater_flips (key new) (key item) more in
        set_between (before ++ item ∷ behind) (before ++ item ∷ low behind) (high behind)
        (filter_front_all (is_below key (key new)) before (item ∷ behind) (λ k d h. ap is_lt (below k d h))
        ∙ ap (λ list. before ++ list) (filter_first (is_below key (key new)) item behind (ap is_lt lower)))
        (filter_front_none (is_above key (key new)) before (item ∷ behind) (λ k d h. ap is_gt (below k d h))
        ∙ filter_not_first (is_above key (key new)) item behind (ap is_gt lower))
        ∙ append_assoc before (item ∷ low behind) (new ∷ high behind)

    pub with_item-equal : order (key new) (key item) ≡ Equal → with_item key new (before ++ item ∷ behind) ≡ before ++ new ∷ behind
    with_item-equal same =
        let below = same_below (key new) before item behind parts same in
        let above = same_above (key new) before item behind parts same in
        let equal : order (key item) (key new) ≡ Equal = same_item (key new) before item behind parts same in
        set_between (before ++ item ∷ behind) before behind
        (filter_front_all (is_below key (key new)) before (item ∷ behind) (λ k d h. ap is_lt (below k d h))
        ∙ ap (λ list. before ++ list) (filter_not_first (is_below key (key new)) item behind (ap is_lt equal)
        ∙ filter_keeps_none (is_below key (key new)) behind (λ k d h. ap is_lt (above k d h)))
        ∙ append-nil before)
        (filter_front_none (is_above key (key new)) before (item ∷ behind) (λ k d h. ap is_gt (below k d h))
        ∙ filter_not_first (is_above key (key new)) item behind (ap is_gt equal)
        ∙ filter_keeps_all (is_above key (key new)) behind (λ k d h. ap is_gt (above k d h)))
