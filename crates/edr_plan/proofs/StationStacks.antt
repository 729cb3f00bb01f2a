-- What a corridor takes of a station as of a grid of one row and one column: its times, its levels and its truth values.
use Rattle.std.proofs.Common.{Bool, Contains, List, None, Some, ap, ap₂, arith, false, length, map, refl, subst, suc, sym, true, zero, ℕ, ℤ, ◌*◌, ◌+◌, ◌-◌, ◌<◌, ◌^◌, ◌||◌, ◌∙◌, ◌≡◌, ◌≤◌}
use Rattle.std.specs.List.{filter, flat_map, list_any, range_with_len, slice_index_or}
use Rattle.std.specs.Prelude.{◌&&◌}
use Rattle.std.specs.declared.option.Option.{Option}
use Rattle.std.proofs.lemmas.Bool.{false_from_ne_true, false≢true}
use Rattle.std.proofs.lemmas.List.Folds.{flat_map-map}
use Rattle.edr_axes.specs.Axes.{axis_length, value_at}
use Rattle.edr_base.specs.declared.places.Spot.{Spot}
use Rattle.edr_corridor.specs.BoxLaws.{CorridorsAreCut, is_about}
use Rattle.edr_corridor.specs.Boxes.{level_at, wants_node}
use Rattle.edr_corridor.specs.Values.{SegmentsValue}
use Rattle.edr_lines.specs.Bits.{IsSmall}
use Rattle.edr_lines.specs.Corridors.{IsCorridorOf}
use Rattle.edr_lines.specs.Taken.{AreSidesOf, Counts, HasBits, NodeTest, NoneTaken, bit_number, counts_of, some_at_level, some_at_time}
use Rattle.edr_query.specs.Values.{QueryValue}
use Rattle.edr_select.specs.KeptLaws.{all_below, kept_agree}
use Rattle.edr_select.specs.Limits.{value_limit}
use Rattle.edr_select.specs.Lines.{segments_of}
use Rattle.edr_select.specs.ListLaws.{all_member, any_range, both, map-map, map_agree_in, passes_at}
use Rattle.edr_select.specs.Stacks.{SidesValue, StackValue, plane_size}
use Rattle.edr_select.specs.Wanted.{takes_level, takes_time}
use Rattle.edr_station.specs.Stations.{StationValue}
use Rattle.edr_plan.specs.CorridorPlans.{CorridorValue, IsFull, axes_of, bit_at, cells_in, choice_in, takes_along}
use Rattle.edr_plan.specs.StationPlaces.{ChoiceValue, cell_if, cell_of, cells_by, choice_by, has_level, has_some, has_time}
use Rattle.edr_plan.specs.StationPlans.{IsChoiceOf, value_count}
use Rattle.edr_plan.proofs.StationCells.{flat_map_agree_in, passes_chosen, some_taken_at, taken_at}
use Rattle.edr_plan.proofs.StationHeads.{read_from}
use Rattle.edr_corridor.specs.Segments as segments
use Rattle.edr_lines.specs.Corridors as lines

-- ---- lists and truth values

turn_round : (w m l : Bool) → ((w && m) && l) ≡ ((m && l) && w)
turn_round true true true = refl
turn_round true true false = refl
turn_round true false l = refl
turn_round false true true = refl
turn_round false true false = refl
turn_round false false l = refl

or_none : (b : Bool) → (b || false) ≡ b
or_none true = refl
or_none false = refl

any_below : (f g : ℕ → Bool) (n : ℕ) → ((k : ℕ) → k < n → f k ≡ g k) → list_any f (range_with_len 0 n) ≡ list_any g (range_with_len 0 n)
any_below f g n same =
    both (list_any f (range_with_len 0 n)) (list_any g (range_with_len 0 n))
    (λ h. let p = passes_at f 0 n h in any_range g 0 n p.place (omega arith) (omega (arith, p.high)) (sym (same p.place (omega (arith, p.high))) ∙ p.passes))
    (λ h. let p = passes_at g 0 n h in any_range f 0 n p.place (omega arith) (omega (arith, p.high)) (same p.place (omega (arith, p.high)) ∙ p.passes))

-- a list, number by number
numbers_read : (xs : List ℕ) → map (λ k. slice_index_or xs k 0) (range_with_len 0 (length xs)) ≡ xs
numbers_read xs = read_from 0 xs 0 xs (λ k h. ap (λ n. slice_index_or xs n 0) (none k))
  where
    none : (k : ℕ) → 0 + k ≡ k
    none k = omega arith

map_read : {Y : Type 0} (g : ℕ → Y) (xs : List ℕ) → map (λ k. g (slice_index_or xs k 0)) (range_with_len 0 (length xs)) ≡ map g xs
map_read g xs = sym (map-map g (λ k. slice_index_or xs k 0) (range_with_len 0 (length xs))) ∙ ap (map g) (numbers_read xs)

flat_read : {Y : Type 0} (g : ℕ → List Y) (xs : List ℕ) → flat_map (λ k. g (slice_index_or xs k 0)) (range_with_len 0 (length xs)) ≡ flat_map g xs
flat_read g xs = sym (flat_map-map g (λ k. slice_index_or xs k 0) (range_with_len 0 (length xs))) ∙ ap (flat_map g) (numbers_read xs)

number_below : (n k : ℕ) → Contains (range_with_len 0 n) k → k < n
number_below n k m = all_member (λ k. k < n) (range_with_len 0 n) k (all_below n) m

same_count : (zs : Option (List ℤ)) → axis_length zs ≡ axis_length zs
same_count None = refl
same_count (Some values) = refl

-- ---- what is taken

module _ (cut : CorridorsAreCut) (q : QueryValue) (c : CorridorValue) (s : StationValue) (corridor : lines.CorridorValue)
    (of : IsCorridorOf q c.line c.width c.height (axes_of s) corridor) where
  abbrev test : NodeTest
  test = lines.takes corridor (axes_of s)

  abbrev n : Counts
  n = counts_of (axes_of s)

  takes_is : (t z : ℕ) → t < length s.ts → z < axis_length s.zs → test t z 0 0 ≡ takes_along q c s t z
  takes_is t z ht hz =
      sym (cut (segments_of q c.line c.width c.height) time level (value_at s.ts t) (level_at s.zs z) spot
      ∙ (ap (λ (v : SegmentsValue). (segments.wants v (value_at s.ts t) (level_at s.zs z) spot && (v.has_m || time)) && (is_about v || level)) (sym of.segments)
      ∙ (ap₂ (λ m l. (wants_node corridor.segments (axes_of s) t z 0 0 && m) && l) (sym (of.times t ht)) (sym (of.levels z (omega (arith, hz, same_count s.zs))))
      ∙ turn_round (wants_node corridor.segments (axes_of s) t z 0 0) (slice_index_or corridor.times t false) (slice_index_or corridor.levels z false))))
    where
      time : Bool
      time = takes_time q.times (Some (value_at s.ts t))

      level : Bool
      level = takes_level q.levels (level_at s.zs z)

      spot : Spot
      spot = record { x = s.x; y = s.y }

  one_node : (t z : ℕ) → t < length s.ts → z < axis_length s.zs → ((test t z 0 0 || false) || false) ≡ takes_along q c s t z
  one_node t z ht hz = or_none (test t z 0 0 || false) ∙ (or_none (test t z 0 0) ∙ takes_is t z ht hz)

  time_is : (t : ℕ) → t < length s.ts → some_at_time n test t ≡ has_time s (takes_along q c s) t
  time_is t ht =
      ap (λ m. list_any (λ z. (test t z 0 0 || false) || false) (range_with_len 0 m)) (same_count s.zs)
      ∙ any_below (λ z. (test t z 0 0 || false) || false) (takes_along q c s t) (axis_length s.zs) (λ z hz. one_node t z ht hz)

  level_is : (z : ℕ) → z < axis_length s.zs → some_at_level n test z ≡ has_level s (takes_along q c s) z
  level_is z hz = any_below (λ t. (test t z 0 0 || false) || false) (λ t. takes_along q c s t z) (length s.ts) (λ t ht. one_node t z ht hz)

  -- where no node is taken nothing is taken of the station
  pub none_taken : NoneTaken n test → has_some s (takes_along q c s) ≡ false
  none_taken none =
      false_from_ne_true (has_some s (takes_along q c s)) (λ h.
      let at = taken_at s (takes_along q c s) h in
      absurd (false≢true (sym (none at.time at.level 0 0 at.time_in (omega (arith, at.level_in, same_count s.zs)) (omega arith) (omega arith))
      ∙ (takes_is at.time at.level at.time_in at.level_in ∙ at.taken))))

  module _ (sides : SidesValue) (are : AreSidesOf n test sides) where
    -- there is one row and one column
    record IsOne : Type 0 where
      row : sides.row ≡ 0
      rows : sides.rows ≡ 1
      column : sides.column ≡ 0
      columns : sides.columns ≡ 1

    one : IsOne
    one =
        let rows = are.rows in
        let columns = are.columns in
        record {
          row = omega (arith, rows.some, rows.inside);
          rows = omega (arith, rows.some, rows.inside);
          column = omega (arith, columns.some, columns.inside);
          columns = omega (arith, columns.some, columns.inside);
        }

    -- something is taken
    pub some_taken : has_some s (takes_along q c s) ≡ true
    some_taken =
        let row : list_any (λ t. list_any (λ z. test t z 0 0 || false) (range_with_len 0 n.levels)) (range_with_len 0 n.times) ≡ true =
        subst (λ (y : ℕ). list_any (λ t. list_any (λ z. list_any (λ x. test t z y x) (range_with_len 0 n.columns)) (range_with_len 0 n.levels)) (range_with_len 0 n.times) ≡ true)
        one.row are.rows.first_passes in
        let ft = passes_at (λ (t : ℕ). list_any (λ z. test t z 0 0 || false) (range_with_len 0 n.levels)) 0 n.times row in
        let fz = passes_at (λ (z : ℕ). test ft.place z 0 0 || false) 0 n.levels ft.passes in
        let ht : ft.place < length s.ts = omega (arith, ft.high) in
        let hz : fz.place < axis_length s.zs = omega (arith, fz.high, same_count s.zs) in
        some_taken_at s (takes_along q c s) ft.place fz.place ht hz (sym (takes_is ft.place fz.place ht hz) ∙ (sym (or_none (test ft.place fz.place 0 0)) ∙ fz.passes))

    -- the times and the levels are those that occur
    pub choice_is : choice_in sides ≡ choice_by s (takes_along q c s)
    choice_is =
        ap₂ (λ (times levels : List ℕ). record { times = times; levels = levels })
        (are.times ∙ kept_agree (some_at_time n test) (has_time s (takes_along q c s)) 0 (length s.ts) (λ t low high. time_is t (omega (arith, high))))
        (are.levels
        ∙ (ap (λ m. filter (some_at_level n test) (range_with_len 0 m)) (same_count s.zs)
        ∙ kept_agree (some_at_level n test) (has_level s (takes_along q c s)) 0 (axis_length s.zs) (λ z low high. level_is z (omega (arith, high)))))

    pub sides_chosen : IsChoiceOf s (choice_in sides)
    sides_chosen = subst (IsChoiceOf s) (sym choice_is) (passes_chosen s (takes_along q c s) some_taken)

    -- few values stand in a small stack
    pub is_small : (parameters : ℕ) → 1 ≤ parameters → value_count parameters (length sides.times) (length sides.levels) ≤ value_limit → IsSmall sides
    is_small parameters some few = record {
      planes = small (length sides.times * length sides.levels) (plane_size sides) parameters size some few;
      rows = omega (arith, one.row, one.rows);
      columns = omega (arith, one.column, one.columns);
    }
      where
        size : plane_size sides ≡ 1
        size = ap₂ (λ a b. a * b) one.rows one.columns

        small : (nodes size parameters : ℕ) → size ≡ 1 → 1 ≤ parameters → parameters * nodes ≤ value_limit → nodes * size < 2 ^ 63
        small nodes size zero is some few = absurd (omega arith)
        small nodes size (suc parameters) is some few = rw is (omega (arith, few))

    module _ (stack : StackValue) (same : stack.sides ≡ sides) (has : HasBits test stack) where
      pub is_full : IsFull stack
      is_full =
          has.full
          ∙ (ap (λ (sides : SidesValue). length stack.sides.times * length stack.sides.levels * (sides.rows * sides.columns)) same
          ∙ (ap₂ (λ a b. length stack.sides.times * length stack.sides.levels * (a * b)) one.rows one.columns ∙ once (length stack.sides.times * length stack.sides.levels)))
        where
          once : (nodes : ℕ) → nodes * (1 * 1) ≡ nodes
          once nodes = omega arith

      abbrev time_of : ℕ → ℕ
      time_of i = slice_index_or stack.sides.times i 0

      abbrev level_of : ℕ → ℕ
      level_of j = slice_index_or stack.sides.levels j 0

      chosen : IsChoiceOf s (choice_in stack.sides)
      chosen = subst (λ (sides : SidesValue). IsChoiceOf s (choice_in sides)) (sym same) sides_chosen

      -- where the truth value of a node stands
      number_is : (i j : ℕ) → bit_number stack.sides i j 0 0 ≡ i * length stack.sides.levels + j
      number_is i j =
          ap (λ (sides : SidesValue). (i * length stack.sides.levels + j) * (sides.rows * sides.columns) + ((0 - sides.row) * sides.columns + (0 - sides.column))) same
          ∙ (ap₂ (λ a b. (i * length stack.sides.levels + j) * (a * b) + ((0 - sides.row) * b + (0 - sides.column))) one.rows one.columns
          ∙ (ap₂ (λ a b. (i * length stack.sides.levels + j) * (1 * 1) + ((0 - a) * 1 + (0 - b))) one.row one.column ∙ once (i * length stack.sides.levels + j)))
        where
          once : (node : ℕ) → node * (1 * 1) + ((0 - 0) * 1 + (0 - 0)) ≡ node
          once node = omega arith

      -- it says whether the corridor takes its time and level
      bit_is : (i j : ℕ) → i < length stack.sides.times → j < length stack.sides.levels → bit_at stack i j ≡ takes_along q c s (time_of i) (level_of j)
      bit_is i j hi hj =
          let row : stack.sides.row ≡ 0 = ap (λ (sides : SidesValue). sides.row) same ∙ one.row in
          let rows : stack.sides.rows ≡ 1 = ap (λ (sides : SidesValue). sides.rows) same ∙ one.rows in
          let column : stack.sides.column ≡ 0 = ap (λ (sides : SidesValue). sides.column) same ∙ one.column in
          let columns : stack.sides.columns ≡ 1 = ap (λ (sides : SidesValue). sides.columns) same ∙ one.columns in
          ap (λ k. slice_index_or stack.mask k false) (sym (number_is i j))
          ∙ (has.bits i j 0 0 hi hj (omega (arith, row)) (omega (arith, row, rows)) (omega (arith, column)) (omega (arith, column, columns))
          ∙ takes_is (time_of i) (level_of j) (chosen.times_in i 0 hi) (chosen.levels_in j 0 hj))

      -- its places are those of what is taken
      pub cells_are : cells_in s stack ≡ cells_by s (takes_along q c s)
      cells_are =
          let along : ℕ → ℕ → Option ℕ = λ t z. cell_if (takes_along q c s t z) (cell_of s t z) in
          flat_map_agree_in (λ i. map (λ j. cell_if (bit_at stack i j) (cell_of s (time_of i) (level_of j))) (range_with_len 0 (length stack.sides.levels)))
          (λ i. map (along (time_of i)) stack.sides.levels) (range_with_len 0 (length stack.sides.times))
          (λ i mi. map_agree_in (λ j. cell_if (bit_at stack i j) (cell_of s (time_of i) (level_of j))) (λ j. along (time_of i) (level_of j)) (range_with_len 0 (length stack.sides.levels))
          (λ j mj. ap (λ b. cell_if b (cell_of s (time_of i) (level_of j))) (bit_is i j (number_below (length stack.sides.times) i mi) (number_below (length stack.sides.levels) j mj)))
          ∙ map_read (along (time_of i)) stack.sides.levels)
          ∙ (flat_read (λ t. map (along t) stack.sides.levels) stack.sides.times
          ∙ (ap (λ (sides : SidesValue). flat_map (λ t. map (along t) sides.levels) sides.times) same
          ∙ ap (λ (choice : ChoiceValue). flat_map (λ t. map (along t) choice.levels) choice.times) choice_is))
