-- Stations in the order of their ids, by the place of an id.
use Rattle.std.proofs.Common.{◌≡◌, ℕ, suc, ◌+◌, ◌<◌, ◌≤◌, ◌++◌, ◌∷◌, Bool, not, List, [], inl, inr, length, take, drop, get_or, All, Some, None, Ordering, Less, Equal, Greater, sym, ap, ◌∙◌, arith}
use Rattle.std.specs.Prelude.{Option}
use Rattle.std.specs.List.{filter}
use Rattle.std.specs.Ordering.{is_lt, is_eq, is_gt}
use Rattle.std.specs.Option.{option_to_list}
use Rattle.std.proofs.Math.Nat.{eq-or-lt_of_le}
use Rattle.std.proofs.Math.Seq.{drop-cons}
use Rattle.std.proofs.lemmas.Bool.{cases_lt}
use Rattle.std.proofs.lemmas.Cmp.{nat_list_cmp_total}
use Rattle.std.proofs.lemmas.List.{append-nil, get_or-take, get_or-drop, length-take, length-drop, take-append-drop}
use Rattle.std.proofs.lemmas.List.Elements.{All-nil, All-cons, All-append, All-take, All-drop, filter-append}
use Rattle.edr_base.specs.Names.{order}
use Rattle.edr_ids.specs.Ids.{AscendBy, has_id, is_below, is_above, item_of, with_item, without_id}
use Rattle.edr_ids.specs.ListLaws.{order_itself, order_same, order_less_flips, order_greater_flips, less_from_test, greater_from_test, keys_ascend, has_id_is, filter_keeps_all, filter_keeps_none, item_of-found, item_of-none}
use Rattle.edr_station.specs.Stations.{StationValue, station_id, nowhere, station_at}
use Rattle.edr_station.specs.Shelves.{splice}
use Rattle.edr_station.specs.Places.{AreBelow, AreAbove}

-- ---- how the search narrows

module _ (id : List ℕ) (stations : List StationValue) (up : AscendBy station_id stations) (place : ℕ) (s : StationValue) (inside : place < length stations)
    (is : (d : StationValue) → s ≡ get_or stations place d) where
  pub below_to : order s.id id ≡ Less → AreBelow id stations (place + 1)
  below_to less at d below =
      let le : at ≤ place = omega arith in
      let here : order (get_or stations place d).id id ≡ Less = ap (λ (x : StationValue). order x.id id) (sym (is d)) ∙ less in
      elim (eq-or-lt_of_le le) [
        | inl same ↦ ap is_lt (ap (λ n. order (get_or stations n d).id id) same ∙ here)
        | inr lower ↦ ap is_lt (nat_list_cmp_total.trans (get_or stations at d).id (get_or stations place d).id id (keys_ascend station_id stations up at place d lower inside) here)
      ]

  pub above_from : order s.id id ≡ Greater → AreAbove id stations place
  above_from more at d le below =
      let here : order (get_or stations place d).id id ≡ Greater = ap (λ (x : StationValue). order x.id id) (sym (is d)) ∙ more in
      elim (eq-or-lt_of_le le) [
        | inl same ↦ ap is_gt (ap (λ n. order (get_or stations n d).id id) (sym same) ∙ here)
        | inr higher ↦ ap is_gt (order_less_flips id (get_or stations at d).id
            (nat_list_cmp_total.trans id (get_or stations place d).id (get_or stations at d).id (order_greater_flips (get_or stations place d).id id here) (keys_ascend station_id stations up place at d higher below)))
      ]

  pub found_at : order s.id id ≡ Equal → (d : StationValue) → (get_or stations place d).id ≡ id
  found_at same d = ap (λ (x : StationValue). x.id) (sym (is d)) ∙ order_same s.id id same

-- ---- what stands before an id, and what behind it

module _ (id : List ℕ) where
  abbrev pub Lower : StationValue → Type 0
  Lower x = order x.id id ≡ Less

  abbrev pub Equals : StationValue → Type 0
  Equals x = order x.id id ≡ Equal

  abbrev pub Higher : StationValue → Type 0
  Higher x = order x.id id ≡ Greater

  module _ (front middle back : List StationValue) (low : All Lower front) (same : All Equals middle) (high : All Higher back) where
    three : (test : StationValue → Bool) (kept_front kept_middle kept_back : List StationValue) → filter test front ≡ kept_front → filter test middle ≡ kept_middle → filter test back ≡ kept_back
        → filter test (front ++ (middle ++ back)) ≡ kept_front ++ (kept_middle ++ kept_back)
    three test kept_front kept_middle kept_back f m b =
        filter-append test front (middle ++ back)
        ∙ (ap (λ (l : List StationValue). l ++ filter test (middle ++ back)) f
        ∙ ap (λ (l : List StationValue). kept_front ++ l) (filter-append test middle back ∙ (ap (λ (l : List StationValue). l ++ filter test back) m ∙ ap (λ (l : List StationValue). kept_middle ++ l) b)))

    below_kept : filter (is_below station_id id) (front ++ (middle ++ back)) ≡ front
    below_kept =
        let test = is_below station_id id in
        three test front [] [] (filter_keeps_all test front (λ k d h. ap is_lt (low k d h))) (filter_keeps_none test middle (λ k d h. ap is_lt (same k d h)))
        (filter_keeps_none test back (λ k d h. ap is_lt (high k d h)))
        ∙ append-nil front

    above_kept : filter (is_above station_id id) (front ++ (middle ++ back)) ≡ back
    above_kept =
        let test = is_above station_id id in
        three test [] [] back (filter_keeps_none test front (λ k d h. ap is_gt (low k d h))) (filter_keeps_none test middle (λ k d h. ap is_gt (same k d h)))
        (filter_keeps_all test back (λ k d h. ap is_gt (high k d h)))

    other : (x : StationValue) (o : Ordering) → order x.id id ≡ o → not (has_id station_id id x) ≡ not (is_eq o)
    other x o is = ap not (has_id_is station_id id x o is)

    pub left_kept : without_id station_id id (front ++ (middle ++ back)) ≡ front ++ back
    left_kept =
        let test = λ (x : StationValue). not (has_id station_id id x) in
        three test front [] back (filter_keeps_all test front (λ k d h. other (get_or front k d) Less (low k d h))) (filter_keeps_none test middle (λ k d h. other (get_or middle k d) Equal (same k d h)))
        (filter_keeps_all test back (λ k d h. other (get_or back k d) Greater (high k d h)))

  pub set_between : (new : StationValue) → new.id ≡ id → (front middle back : List StationValue) → All Lower front → All Equals middle → All Higher back
      → with_item station_id new (front ++ (middle ++ back)) ≡ front ++ new ∷ back
  set_between new own front middle back low same high =
      let all = front ++ (middle ++ back) in
      ap (λ k. filter (is_below station_id k) all ++ new ∷ filter (is_above station_id k) all) own
      ∙ (ap (λ (l : List StationValue). l ++ new ∷ filter (is_above station_id id) all) (below_kept front middle back low same high)
      ∙ ap (λ (l : List StationValue). front ++ new ∷ l) (above_kept front middle back low same high))

  module _ (stations : List StationValue) where
    front_low : (place : ℕ) → AreBelow id stations place → All Lower (take place stations)
    front_low place below k d h =
        let lower : k < place = omega (arith, h, length-take place stations) in
        ap (λ (x : StationValue). order x.id id) (get_or-take place stations k d lower) ∙ less_from_test (order (get_or stations k d).id id) (below k d lower)

    back_high : (place : ℕ) → AreAbove id stations place → All Higher (drop place stations)
    back_high place above k d h =
        let inside : place + k < length stations = omega (arith, h, length-drop place stations) in
        ap (λ (x : StationValue). order x.id id) (get_or-drop place stations k d)
        ∙ greater_from_test (order (get_or stations (place + k) d).id id) (above (place + k) d (omega arith) inside)

    -- ---- where there is no station of the id

    module _ (place : ℕ) (below : AreBelow id stations place) (above : AreAbove id stations place) where
      parted : stations ≡ take place stations ++ ([] ++ drop place stations)
      parted = sym (take-append-drop place stations)

      pub set_new : (new : StationValue) → new.id ≡ id → with_item station_id new stations ≡ splice place place (Some new) stations
      set_new new own =
          ap (with_item station_id new) parted
          ∙ set_between new own (take place stations) [] (drop place stations) (front_low place below) (All-nil Equals) (back_high place above)

      pub none_found : item_of station_id id stations ≡ None
      none_found = item_of-none station_id id stations (λ k d h. elim (cases_lt k place) [
        | inl lower ↦ has_id_is station_id id (get_or stations k d) Less (less_from_test (order (get_or stations k d).id id) (below k d lower))
        | inr higher ↦ has_id_is station_id id (get_or stations k d) Greater (greater_from_test (order (get_or stations k d).id id) (above k d higher h))
      ])

    -- ---- where there is one

    module _ (up : AscendBy station_id stations) (place : ℕ) (inside : place < length stations) (has : (d : StationValue) → (get_or stations place d).id ≡ id) where
      parted_one : stations ≡ take place stations ++ ((station_at stations place ∷ []) ++ drop (place + 1) stations)
      parted_one =
          let next : suc place ≡ place + 1 = omega arith in
          sym (take-append-drop place stations)
          ∙ ap (λ (l : List StationValue). take place stations ++ l)
          (drop-cons stations place nowhere inside ∙ ap (λ n. station_at stations place ∷ drop n stations) next)

      lower_one : AreBelow id stations place
      lower_one at d h = ap is_lt (ap (λ k. order (get_or stations at d).id k) (sym (has d)) ∙ keys_ascend station_id stations up at place d h inside)

      higher_one : AreAbove id stations (place + 1)
      higher_one at d le h =
          ap is_gt (order_less_flips id (get_or stations at d).id
          (ap (λ k. order k (get_or stations at d).id) (sym (has d)) ∙ keys_ascend station_id stations up place at d (omega arith) h))

      same_one : All Equals (station_at stations place ∷ [])
      same_one = All-cons Equals (station_at stations place) [] (ap (λ k. order k id) (has nowhere) ∙ order_itself id) (All-nil Equals)

      pub set_one : (new : StationValue) → new.id ≡ id → with_item station_id new stations ≡ splice place (place + 1) (Some new) stations
      set_one new own =
          ap (with_item station_id new) parted_one
          ∙ set_between new own (take place stations) (station_at stations place ∷ []) (drop (place + 1) stations)
          (front_low place lower_one) same_one (back_high (place + 1) higher_one)

      pub left_one : without_id station_id id stations ≡ splice place (place + 1) None stations
      left_one =
          ap (without_id station_id id) parted_one
          ∙ left_kept (take place stations) (station_at stations place ∷ []) (drop (place + 1) stations)
          (front_low place lower_one) same_one (back_high (place + 1) higher_one)

      pub one_found : item_of station_id id stations ≡ Some (station_at stations place)
      one_found = item_of-found station_id id stations place nowhere up inside (has nowhere)

-- what holds of all stations, and of one that is put in, holds of all afterwards
pub spliced_all : (P : StationValue → Type 0) (place end : ℕ) (put : Option StationValue) (stations : List StationValue) → All P stations → All P (option_to_list put)
    → All P (splice place end put stations)
spliced_all P place end put stations all given =
    All-append P (take place stations) (option_to_list put ++ drop end stations) (All-take P place stations all)
    (All-append P (option_to_list put) (drop end stations) given (All-drop P end stations all))
