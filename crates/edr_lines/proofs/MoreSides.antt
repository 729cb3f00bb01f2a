-- The sides of what is taken so far, and of all that is taken: these have no fewer values.
use Rattle.std.proofs.Common.{mul-le-mul, ◌≡◌, ℕ, zero, suc, ◌+◌, ◌-◌, ◌*◌, ◌<◌, ◌≤◌, Bool, true, false, cond, List, [], ◌∷◌, length, get_or, inl, inr, refl, ap, ap₂, sym, ◌∙◌, subst, arith}
use Rattle.std.specs.Prelude.{◌&&◌, nat_lt, Option, None, Some, IfSome, MatchOption}
use Rattle.std.specs.List.{filter, list_any, range_with_len}
use Rattle.std.proofs.lemmas.Bool.{and_parts, cases_lt, false_from_ne_true, false≢true}
use Rattle.std.proofs.lemmas.List.{get_or_past}
use Rattle.std.proofs.lemmas.Bool.Decides.{nat_tests}
use Rattle.edr_corridor.proofs.Lines.{some_passes}
use Rattle.edr_corridor.specs.Segments.{at_segment}
use Rattle.edr_corridor.specs.Boxes.{GridAxes, takes_node, wants_node}
use Rattle.edr_lines.specs.Boxes.{some_asked}
use Rattle.edr_lines.proofs.AskedPlaces.{asked_here}
use Rattle.edr_select.specs.ListLaws.{passes_at}
use Rattle.edr_select.specs.Limits.{value_limit}
use Rattle.edr_select.specs.Stacks.{SidesValue, stack_count}
use Rattle.edr_lines.specs.Plans.{stacked_count, AreSidesOrMore, HasNodes}
use Rattle.edr_lines.specs.Corridors.{CorridorValue, is_asked, takes, takes_first}
use Rattle.edr_lines.specs.Taken.{Counts, counts_of, NodeTest, NoneTaken, AreSidesOf, some_at_time, some_at_level, some_in_row, some_in_column}
use Rattle.edr_lines.proofs.PassingNodes.{PassesAt, at_time, at_level, at_row, at_column, time_some, level_some, row_some, column_some}
use Rattle.edr_lines.proofs.FoundSides.{HasSides, sides_there}
use Rattle.edr_lines.proofs.StackSides.{one, has_nodes}

-- ---- fewer numbers pass the stronger test

fewer_kept : (p q : ℕ → Bool) (a n : ℕ) → ((k : ℕ) → a ≤ k → k < a + n → p k ≡ true → q k ≡ true) → length (filter p (range_with_len a n)) ≤ length (filter q (range_with_len a n))
fewer_kept p q a zero more = omega arith
fewer_kept p q a (suc n) more = here (p a) (q a) (more a (omega arith) (omega arith)) (fewer_kept p q (a + 1) n (λ k low high. more k (omega (arith, low)) (omega (arith, high))))
  where
    here : (b c : Bool) → (b ≡ true → c ≡ true) → length (filter p (range_with_len (a + 1) n)) ≤ length (filter q (range_with_len (a + 1) n))
        → length (cond {A = List ℕ} b (a ∷ filter p (range_with_len (a + 1) n)) (filter p (range_with_len (a + 1) n)))
        ≤ length (cond {A = List ℕ} c (a ∷ filter q (range_with_len (a + 1) n)) (filter q (range_with_len (a + 1) n)))
    here true true h rest = omega (arith, rest)
    here true false h rest = absurd (false≢true (h refl))
    here false true h rest = omega (arith, rest)
    here false false h rest = rest

-- ---- sides of a test and of a weaker one

module _ (n : Counts) (t u : NodeTest) (more : (i z y x : ℕ) → t i z y x ≡ true → u i z y x ≡ true) (some all : SidesValue) (some_are : AreSidesOf n t some) (all_are : AreSidesOf n u all) where
  times_more : length some.times ≤ length all.times
  times_more =
      let kept = fewer_kept (some_at_time n t) (some_at_time n u) 0 n.times
      (λ i low inside h. let p = at_time n t i h in time_some n u i p.z p.y p.x (omega (arith, inside)) p.z_in p.y_in p.x_in (more i p.z p.y p.x p.passes)) in
      omega (arith, ap (λ (l : List ℕ). length l) some_are.times, ap (λ (l : List ℕ). length l) all_are.times, kept)

  levels_more : length some.levels ≤ length all.levels
  levels_more =
      let kept = fewer_kept (some_at_level n t) (some_at_level n u) 0 n.levels
      (λ z low inside h. let p = at_level n t z h in level_some n u p.t z p.y p.x p.t_in (omega (arith, inside)) p.y_in p.x_in (more p.t z p.y p.x p.passes)) in
      omega (arith, ap (λ (l : List ℕ). length l) some_are.levels, ap (λ (l : List ℕ). length l) all_are.levels, kept)

  row_passes : (y : ℕ) → y < n.rows → some_in_row n t y ≡ true → some_in_row n u y ≡ true
  row_passes y inside h = let p = at_row n t y h in row_some n u p.t p.z y p.x p.t_in p.z_in inside p.x_in (more p.t p.z y p.x p.passes)

  column_passes : (x : ℕ) → x < n.columns → some_in_column n t x ≡ true → some_in_column n u x ≡ true
  column_passes x inside h = let p = at_column n t x h in column_some n u p.t p.z p.y x p.t_in p.z_in p.y_in inside (more p.t p.z p.y x p.passes)

  rows_more : some.rows ≤ all.rows
  rows_more =
      let r = some_are.rows in let s = all_are.rows in
      let first_in : some.row < n.rows = omega (arith, r.some, r.inside) in
      let last_in : some.row + some.rows - 1 < n.rows = omega (arith, r.some, r.inside) in
      let first = s.low some.row first_in (row_passes some.row first_in r.first_passes) in
      let last = s.high (some.row + some.rows - 1) last_in (row_passes (some.row + some.rows - 1) last_in r.last_passes) in
      omega (arith, first, last, r.some)

  columns_more : some.columns ≤ all.columns
  columns_more =
      let r = some_are.columns in let s = all_are.columns in
      let first_in : some.column < n.columns = omega (arith, r.some, r.inside) in
      let last_in : some.column + some.columns - 1 < n.columns = omega (arith, r.some, r.inside) in
      let first = s.low some.column first_in (column_passes some.column first_in r.first_passes) in
      let last = s.high (some.column + some.columns - 1) last_in (column_passes (some.column + some.columns - 1) last_in r.last_passes) in
      omega (arith, first, last, r.some)

  count_more : (parameters : List ℕ) → stacked_count parameters some ≤ stacked_count parameters all
  count_more parameters = mul-le-mul (omega arith) (mul-le-mul (mul-le-mul times_more levels_more) (mul-le-mul rows_more columns_more))

  pub over_more : (parameters : List ℕ) → nat_lt value_limit (stacked_count parameters some) ≡ true → nat_lt value_limit (stacked_count parameters all) ≡ true
  over_more parameters over = larger (stacked_count parameters some) (stacked_count parameters all) over (count_more parameters)
    where
      larger : (m k : ℕ) → nat_lt value_limit m ≡ true → m ≤ k → nat_lt value_limit k ≡ true
      larger m k h less = grind (arith, nat_tests)

-- ---- of the first segments of a corridor, and of all of them

first_taken : (c : CorridorValue) (axes : GridAxes) (count t z y x : ℕ) → takes_first c axes count t z y x ≡ true → takes c axes t z y x ≡ true
first_taken c axes count t z y x h =
    let parts = and_parts (is_asked c t z) (list_any (at_segment (takes_node c.segments axes t z y x) c.segments.line) (range_with_len 0 count)) h in
    let p = passes_at (at_segment (takes_node c.segments axes t z y x) c.segments.line) 0 count parts.1 in
    ap₂ (λ a b. a && b) parts.0 (some_passes (takes_node c.segments axes t z y x) c.segments.line p.place p.passes)

module _ (parameters : List ℕ) (c : CorridorValue) (axes : GridAxes) (sides : SidesValue) where
  -- sides of all segments
  pub whole_sides : AreSidesOf (counts_of axes) (takes c axes) sides → AreSidesOrMore parameters (counts_of axes) (takes c axes) sides
  whole_sides are = record { nodes = has_nodes (counts_of axes) (takes c axes) sides are; whole = λ fits. are; more = λ over. (sides, are, over) }

  -- sides of the first ones, which have too many values already
  pub first_sides : (count : ℕ) → AreSidesOf (counts_of axes) (takes_first c axes count) sides → nat_lt value_limit (stacked_count parameters sides) ≡ true
      → AreSidesOrMore parameters (counts_of axes) (takes c axes) sides
  first_sides count are over =
      let n = counts_of axes in
      let p = one n (takes_first c axes count) sides are in
      let all = sides_there n (takes c axes) (record { t = p.t; z = p.z; y = p.y; x = p.x; t_in = p.t_in; z_in = p.z_in; y_in = p.y_in; x_in = p.x_in; passes = first_taken c axes count p.t p.z p.y p.x p.passes }) in
      record {
        nodes = has_nodes n (takes_first c axes count) sides are;
        whole = λ fits. absurd (false≢true (sym fits ∙ over));
        more = λ is. (all.sides, all.are, over_more n (takes_first c axes count) (takes c axes) (first_taken c axes count) sides all.sides are all.are parameters over);
      }

-- ---- nothing is asked

-- no place is asked
pub none_asked : (asked : List Bool) → some_asked asked (0, length asked) ≡ false → (k : ℕ) → get_or asked k false ≡ false
none_asked asked none k = elim (cases_lt k (length asked)) [
  | inr ge ↦ get_or_past asked k false ge
  | inl lt ↦ false_from_ne_true (get_or asked k false) (λ h. false≢true (sym none ∙ asked_here asked 0 (length asked) k (omega arith) lt lt h))
]

pub nothing_taken : (c : CorridorValue) (axes : GridAxes) → ((t z : ℕ) → is_asked c t z ≡ false) → NoneTaken (counts_of axes) (takes c axes)
nothing_taken c axes none t z y x at level row column = ap (λ b. b && wants_node c.segments axes t z y x) (none t z)

-- ---- what is found

module _ (n : Counts) (t : NodeTest) where
  pub nodes_where : (found : Option SidesValue) → MatchOption found (NoneTaken n t) (AreSidesOf n t) → IfSome found HasNodes
  nodes_where None h = tt
  nodes_where (Some sides) h = has_nodes n t sides h

module _ (parameters : List ℕ) (c : CorridorValue) (axes : GridAxes) where
  pub whole_found : (found : Option SidesValue) → MatchOption found (NoneTaken (counts_of axes) (takes c axes)) (AreSidesOf (counts_of axes) (takes c axes))
      → MatchOption found (NoneTaken (counts_of axes) (takes c axes)) (AreSidesOrMore parameters (counts_of axes) (takes c axes))
  whole_found None h = h
  whole_found (Some sides) h = whole_sides parameters c axes sides h

  pub first_found : (count : ℕ) (found : Option SidesValue) (above : Bool) → MatchOption found (NoneTaken (counts_of axes) (takes_first c axes count)) (AreSidesOf (counts_of axes) (takes_first c axes count))
      → MatchOption found (above ≡ false) (λ sides. above ≡ nat_lt value_limit (stacked_count parameters sides)) → above ≡ true
      → MatchOption found (NoneTaken (counts_of axes) (takes c axes)) (AreSidesOrMore parameters (counts_of axes) (takes c axes))
  first_found count None above h told is = absurd (false≢true (sym told ∙ is))
  first_found count (Some sides) above h told is = first_sides parameters c axes sides count h (sym told ∙ is)
