-- The truth values of a stack are those of what the first segments of a corridor take.
use Rattle.std.proofs.Common.{◌≡◌, ℕ, ◌+◌, ◌-◌, ◌*◌, ◌<◌, ◌≤◌, ◌^◌, Bool, true, false, List, [], length, get_or, replicate, ap, ap₂, sym, ◌∙◌, subst, arith, inl, inr, Contains}
use Rattle.std.specs.Prelude.{◌&&◌, ◌||◌}
use Rattle.std.specs.List.{filter, range_with_len}
use Rattle.std.proofs.Math.Nat.{mul-le-mul_left}
use Rattle.std.proofs.lemmas.Bool.{cases_lt, and_parts}
use Rattle.std.proofs.lemmas.List.{get_or-replicate, length-replicate, get_or_past, get_or_default}
use Rattle.std.proofs.lemmas.List.Folds.{Any-from_list_any, list_any_at}
use Rattle.edr_geometry.specs.Ranges.{lies_in}
use Rattle.edr_corridor.specs.declared.boxes.Rectangle.{Rectangle}
use Rattle.edr_corridor.specs.declared.boxes.SegmentBox.{SegmentBox}
use Rattle.edr_corridor.specs.Boxes.{AddsNothing, GridAxes, LiesOn, TakesNodes, takes_node, wants_node, box_takes, has_place}
use Rattle.edr_corridor.specs.Segments.{at_segment}
use Rattle.edr_select.specs.Listings.{NumbersRise}
use Rattle.edr_select.specs.RiseLaws.{numbers_rise}
use Rattle.edr_select.specs.KeptLaws.{kept_below, kept_passes}
use Rattle.edr_select.specs.ListLaws.{passes_at, any_range}
use Rattle.edr_select.specs.Stacks.{SidesValue, StackValue, plane_size, stack_count, time_at, level_at}
use Rattle.edr_lines.specs.Taken.{Counts, counts_of, AreSidesOf, HasBits, some_at_time, some_at_level, some_in_row, some_in_column, bit_number}
use Rattle.edr_lines.specs.Corridors.{CorridorValue, is_asked, takes, takes_first}
use Rattle.edr_lines.specs.Boxes.{box_passes, has_node}
use Rattle.edr_lines.specs.Bits.{DoRise, IsSmall, TimesFit, TimesSet, InBox, node_number}
use Rattle.edr_lines.proofs.Tests.{some_of, pair_at, some_pair}
use Rattle.edr_lines.proofs.Firsts.{first_more, first_same, all_first, none_first}
use Rattle.edr_lines.proofs.RectangleNodes.{is_in, has_this}

same_place : (i many j size k : ℕ) → (i * many + j) * size + k ≡ i * (many * size) + (j * size + k)
same_place i many j size k = omega arith

all_false : (count k : ℕ) → get_or (replicate count false) k false ≡ false
all_false count k = elim (cases_lt k count) [
  | inl lt ↦ get_or-replicate count k false false lt
  | inr ge ↦ get_or_past (replicate count false) k false (omega (arith, length-replicate count false, ge))
]

-- ---- nodes of a box lie on the axes

module _ (axes : GridAxes) (box : SegmentBox) (on : LiesOn axes box) where
  pub node_on : (y x : ℕ) → has_node box y x ≡ true → (y < length axes.ys) × (x < length axes.xs)
  node_on y x h =
      let some = Any-from_list_any (λ r. has_place r y x) box.rectangles.items h in
      of_one some.0 some.1 some.2 (ap (λ r. has_place r y x) some.3 ∙ some.4)
    where
      of_one : (k : ℕ) (d : Rectangle) → k < length box.rectangles.items → has_place (get_or box.rectangles.items k d) y x ≡ true → (y < length axes.ys) × (x < length axes.xs)
      of_one k d inside passes =
          let rectangle = get_or box.rectangles.items k d in
          let within = on.rectangles k d inside in
          let at = is_in rectangle y x passes in
          (omega (arith, at.high, within.rows.1), omega (arith, at.right, within.columns.1))

-- ---- sides

module _ (corridor : CorridorValue) (axes : GridAxes) (sides : SidesValue) (s : AreSidesOf (counts_of axes) (takes corridor axes) sides) where
  abbrev n : Counts
  n = counts_of axes

  among_times : (i : ℕ) → i < length sides.times → Contains (filter (some_at_time n (takes corridor axes)) (range_with_len 0 n.times)) (time_at sides i)
  among_times i inside = subst (λ (ts : List ℕ). Contains ts (time_at sides i)) s.times (i, inside, get_or_default sides.times i (time_at sides i) 0 inside)

  among_levels : (j : ℕ) → j < length sides.levels → Contains (filter (some_at_level n (takes corridor axes)) (range_with_len 0 n.levels)) (level_at sides j)
  among_levels j inside = subst (λ (zs : List ℕ). Contains zs (level_at sides j)) s.levels (j, inside, get_or_default sides.levels j (level_at sides j) 0 inside)

  time_on : (i : ℕ) → i < length sides.times → time_at sides i < n.times
  time_on i inside = kept_below (some_at_time n (takes corridor axes)) n.times (time_at sides i) (among_times i inside)

  level_on : (j : ℕ) → j < length sides.levels → level_at sides j < n.levels
  level_on j inside = kept_below (some_at_level n (takes corridor axes)) n.levels (level_at sides j) (among_levels j inside)

  is_taken : (t z y x : ℕ) → takes corridor axes t z y x ≡ true → is_asked corridor t z ≡ true
  is_taken t z y x h = (and_parts (is_asked corridor t z) (wants_node corridor.segments axes t z y x) h).0

  -- a time and a level of the sides are asked
  time_asked : (i : ℕ) → i < length sides.times → get_or corridor.times (time_at sides i) false ≡ true
  time_asked i inside =
      let t = time_at sides i in
      let z = passes_at (λ z. some_of (takes corridor axes t z) n.rows n.columns) 0 n.levels (kept_passes (some_at_time n (takes corridor axes)) n.times t (among_times i inside)) in
      let p = pair_at (takes corridor axes t z.place) n.rows n.columns z.passes in
      (and_parts (get_or corridor.times t false) (get_or corridor.levels z.place false) (is_taken t z.place p.one p.other p.passes)).0

  level_asked : (j : ℕ) → j < length sides.levels → get_or corridor.levels (level_at sides j) false ≡ true
  level_asked j inside =
      let z = level_at sides j in
      let t = passes_at (λ t. some_of (takes corridor axes t z) n.rows n.columns) 0 n.times (kept_passes (some_at_level n (takes corridor axes)) n.levels z (among_levels j inside)) in
      let p = pair_at (takes corridor axes t.place z) n.rows n.columns t.passes in
      (and_parts (get_or corridor.times t.place false) (get_or corridor.levels z false) (is_taken t.place z p.one p.other p.passes)).1

  pub sides_rise : DoRise sides
  sides_rise = record {
    times = subst (λ (l : List ℕ). NumbersRise l) (sym s.times) (numbers_rise (some_at_time n (takes corridor axes)) 0 n.times);
    levels = subst (λ (l : List ℕ). NumbersRise l) (sym s.levels) (numbers_rise (some_at_level n (takes corridor axes)) 0 n.levels);
  }

  -- there are no more planes than truth values
  pub planes_few : IsSmall sides → length sides.times * length sides.levels < 2 ^ 63
  planes_few small = few (length sides.times * length sides.levels) sides.rows sides.columns s.rows.some s.columns.some small.planes
    where
      few : (a b c : ℕ) → 1 ≤ b → 1 ≤ c → a * (b * c) < 2 ^ 63 → a < 2 ^ 63
      few a b c hb hc h =
          let one : b * 1 ≤ b * c = mul-le-mul_left b hc in
          let some : 1 ≤ b * c = omega (arith, one, hb) in
          let more : a * 1 ≤ a * (b * c) = mul-le-mul_left a some in
          omega (arith, more, h)

  -- ---- the box of a segment

  module _ (number : ℕ) (box : SegmentBox) (taken : TakesNodes corridor.segments number axes box) where
    -- where its ranges have a time and a level of the sides, its nodes lie in these
    nodes_fit : number + 1 < length corridor.segments.line → LiesOn axes box → (i j : ℕ) → i < length sides.times → j < length sides.levels → lies_in box.times (time_at sides i) ≡ true
        → lies_in box.levels (level_at sides j) ≡ true → (y x : ℕ) → has_node box y x ≡ true
        → ((sides.row ≤ y) × (y < sides.row + sides.rows)) × ((sides.column ≤ x) × (x < sides.column + sides.columns))
    nodes_fit inside on i j at among lies_t lies_z y x has =
        let t = time_at sides i in let z = level_at sides j in
        let on_axes = node_on axes box on y x has in
        let segment : at_segment (takes_node corridor.segments axes t z y x) corridor.segments.line number ≡ true =
        sym (taken t z y x (record { t_in = time_on i at; z_in = level_on j among; y_in = on_axes.0; x_in = on_axes.1 }))
        ∙ ap₂ (λ a b. a && b) lies_t (ap₂ (λ a b. a && b) lies_z has) in
        let count : ℕ = length corridor.segments.line - 1 in
        let first : takes_first corridor axes count t z y x ≡ true =
        ap₂ (λ a b. a && b) (ap₂ (λ a b. a && b) (time_asked i at) (level_asked j among))
        (any_range (at_segment (takes_node corridor.segments axes t z y x) corridor.segments.line) 0 count number (omega arith) (omega (arith, inside)) segment) in
        let passes : takes corridor axes t z y x ≡ true = sym (all_first corridor axes count (omega (arith, inside)) t z y x) ∙ first in
        let in_row : some_in_row n (takes corridor axes) y ≡ true =
        any_range (λ t. some_of (λ z x. takes corridor axes t z y x) n.levels n.columns) 0 n.times t (omega arith) (omega (arith, time_on i at))
        (some_pair (λ z x. takes corridor axes t z y x) n.levels n.columns z x (level_on j among) on_axes.1 passes) in
        let in_column : some_in_column n (takes corridor axes) x ≡ true =
        any_range (λ t. some_of (λ z y. takes corridor axes t z y x) n.levels n.rows) 0 n.times t (omega arith) (omega (arith, time_on i at))
        (some_pair (λ z y. takes corridor axes t z y x) n.levels n.rows z y (level_on j among) on_axes.0 passes) in
        ((s.rows.low y on_axes.0 in_row, s.rows.high y on_axes.0 in_row), (s.columns.low x on_axes.1 in_column, s.columns.high x on_axes.1 in_column))

    -- and so do its rectangles
    pub box_fits : number + 1 < length corridor.segments.line → LiesOn axes box → TimesFit sides box
    box_fits inside on i j at among lies_t lies_z = λ k d here.
        let r = get_or box.rectangles.items k d in
        let w = on.rectangles k d here in
        let fits = nodes_fit inside on i j at among lies_t lies_z in
        let has = λ (y x : ℕ). list_any_at (λ rectangle. has_place rectangle y x) box.rectangles.items k d here in
        let low = fits r.rows.0 r.columns.0 (has r.rows.0 r.columns.0 (has_this r r.rows.0 r.columns.0 (omega arith) w.rows.0 (omega arith) w.columns.0)) in
        let high = fits (r.rows.1 - 1) (r.columns.1 - 1) (has (r.rows.1 - 1) (r.columns.1 - 1)
        (has_this r (r.rows.1 - 1) (r.columns.1 - 1) (omega (arith, w.rows.0)) (omega (arith, w.rows.0)) (omega (arith, w.columns.0)) (omega (arith, w.columns.0)))) in
        record {
          low = low.0.0;
          ordered = omega (arith, w.rows.0);
          high = omega (arith, w.rows.0, high.0.1);
          columns = record { left = low.1.0; ordered = omega (arith, w.columns.0); right = omega (arith, w.columns.0, high.1.1) };
        }

    -- with what it takes
    pub bits_more : (old new : List Bool) → HasBits (takes_first corridor axes number) (record { sides = sides; mask = old }) → TimesSet sides (box_takes box) old new
        → HasBits (takes_first corridor axes (number + 1)) (record { sides = sides; mask = new })
    bits_more old new h set = record {
      full = set.full ∙ h.full;
      bits = λ i j y x at among low high left right.
          let t = time_at sides i in let z = level_at sides j in
          let place = same_place i (length sides.levels) j (plane_size sides) (node_number sides y x) in
          let inside : InBox sides y x = record { low = low; high = high; left = left; right = right } in
          let passes : box_takes box t z y x ≡ box_passes corridor box t z y x = sym (ap₂ (λ a b. (a && b) && box_takes box t z y x) (time_asked i at) (level_asked j among)) in
          ap (λ k. get_or new k false) place ∙ set.set i j y x at among inside
          ∙ ap₂ (λ a b. a || b) (ap (λ k. get_or old k false) (sym place) ∙ h.bits i j y x at among low high left right) passes
          ∙ first_more corridor axes number box taken t z y x (time_on i at) (level_on j among) (omega (arith, high, s.rows.inside)) (omega (arith, right, s.columns.inside));
    }

  -- with a segment that adds nothing
  pub bits_same : (number : ℕ) → AddsNothing corridor.segments number axes.ys axes.xs → (mask : List Bool) → HasBits (takes_first corridor axes number) (record { sides = sides; mask = mask })
      → HasBits (takes_first corridor axes (number + 1)) (record { sides = sides; mask = mask })
  bits_same number nothing mask h = record {
    full = h.full;
    bits = λ i j y x at among low high left right.
        h.bits i j y x at among low high left right
        ∙ first_same corridor axes number nothing (time_at sides i) (level_at sides j) y x (time_on i at) (level_on j among) (omega (arith, high, s.rows.inside)) (omega (arith, right, s.columns.inside));
  }

  -- of no segment
  pub no_bits : (mask : List Bool) → mask ≡ replicate (stack_count sides) false → HasBits (takes_first corridor axes 0) (record { sides = sides; mask = mask })
  no_bits mask is = record {
    full = ap (λ (l : List Bool). length l) is ∙ length-replicate (stack_count sides) false;
    bits = λ i j y x at among low high left right.
        ap (λ (l : List Bool). get_or l (bit_number sides i j y x) false) is ∙ all_false (stack_count sides) (bit_number sides i j y x)
        ∙ none_first corridor axes (time_at sides i) (level_at sides j) y x (time_on i at) (level_on j among) (omega (arith, high, s.rows.inside)) (omega (arith, right, s.columns.inside));
  }

-- of all segments
pub all_bits : (corridor : CorridorValue) (axes : GridAxes) (count : ℕ) → count + 1 ≡ length corridor.segments.line → (stack : StackValue) → HasBits (takes_first corridor axes count) stack → HasBits (takes corridor axes) stack
all_bits corridor axes count all stack h = record {
  full = h.full;
  bits = λ i j y x at among low high left right. h.bits i j y x at among low high left right ∙ all_first corridor axes count all (time_at stack.sides i) (level_at stack.sides j) y x;
}
