-- How many values and coverages the document of a trajectory has.
use Rattle.std.proofs.Common.{◌≡◌, ℕ, suc, ◌+◌, ◌*◌, false, List, [], ◌∷◌, length, ap, ap₂, sym, ◌∙◌, arith, mul_comm, mul_assoc, sum_by}
use Rattle.std.specs.Prelude.{map, ◌||◌, nat_lt}
use Rattle.std.proofs.lemmas.List.{length-map}
use Rattle.std.proofs.lemmas.List.Sums.{sum_by-cons}
use Rattle.edr_wkt.specs.declared.geometry.Geometry.{Geometry}
use Rattle.covjson_value.specs.declared.coverages.NdArray.{NdArray}
use Rattle.covjson_value.specs.declared.coverages.Coverage.{Coverage}
use Rattle.edr_chunk.specs.Grids as chunk
use Rattle.edr_edition.specs.Values.{InstanceValue}
use Rattle.edr_edition.specs.Instances.{HasGrid}
use Rattle.edr_edition.specs.Stores.{of_grid, Subject}
use Rattle.edr_query.specs.declared.shapes.Shape.TheVariants as at
use Rattle.edr_query.specs.Values.{QueryValue}
use Rattle.edr_select.specs.declared.plans.GridNode.{GridNode}
use Rattle.edr_select.specs.Choices.{parameter_places}
use Rattle.edr_select.specs.Documents.{document, values_in}
use Rattle.covjson_value.specs.Coverages.{coverages_in}
use Rattle.edr_select.specs.Limits.{value_limit, coverage_limit}
use Rattle.edr_select.specs.ListLaws.{Each, each-map_in, each-flat_map_in}
use Rattle.edr_select.specs.Listings.{PlannedValue, place_at, range_over, coverage_of}
use Rattle.edr_select.specs.Steps.{lacks_levels}
use Rattle.edr_lines.specs.Routes.{RouteValue, route_at, HasTurns, turned, planned_turn, planned_turns, turn_count, value_count}
use Rattle.edr_lines.proofs.LineGrids.{length-flat_map}
use Rattle.edr_lines.proofs.TrajectoryDocuments.{coverages_are}

abbrev range_length : NdArray → ℕ
range_length range = length range.values

abbrev coverage_length : Coverage → ℕ
coverage_length coverage = sum_by range_length coverage.ranges

count_ranges : (grid : chunk.Values) (cells : List GridNode) (ps : List ℕ) → sum_by range_length (map (range_over grid cells) ps) ≡ length ps * length cells
count_ranges grid cells [] = omega arith
count_ranges grid cells (p ∷ ps) =
    omega (
      arith,
      sum_by-cons range_length (range_over grid cells p) (map (range_over grid cells) ps),
      length-map cells (λ (cell : GridNode). chunk.value grid (place_at p cell)),
      count_ranges grid cells ps,
    )

-- planned coverages of as many cells each
count_each : (grid : chunk.Values) (ps : List ℕ) (n : ℕ) (all : List PlannedValue) → Each (λ (p : PlannedValue). length p.cells ≡ n) all
    → sum_by coverage_length (map (coverage_of grid ps) all) ≡ length all * (length ps * n)
count_each grid ps n [] each = omega arith
count_each grid ps n (p ∷ all) each =
    sum_by-cons coverage_length (coverage_of grid ps p) (map (coverage_of grid ps) all)
    ∙ (ap₂ (λ a b. a + b) (count_ranges grid p.cells ps ∙ ap (λ k. length ps * k) each.0) (count_each grid ps n all each.1) ∙ more (length all) (length ps * n))
  where
    more : (m k : ℕ) → k + m * k ≡ suc m * k
    more m k = omega arith

turned_round : (a p n : ℕ) → a * (p * n) ≡ p * (a * n)
turned_round a p n = sym (mul_assoc a p n) ∙ (ap (λ k. k * n) (mul_comm a p) ∙ mul_assoc p a n)

module _ (s : Subject) (q : QueryValue) (i : InstanceValue) (line : Geometry) (held : s.held ≡ of_grid i) (shape : q.shape ≡ at.Trajectory line) (h : HasGrid i)
    (levels : lacks_levels q i ≡ false) (has : HasTurns (route_at i q line)) where
  abbrev r : RouteValue
  r = route_at i q line

  abbrev asked : List ℕ
  asked = parameter_places q.parameters i.parameters

  abbrev planned : ℕ → ℕ → PlannedValue
  planned t z = planned_turn s.collection.referencing i asked r t z

  abbrev all_planned : List PlannedValue
  all_planned = planned_turns s.collection.referencing i asked r

  all_count : length all_planned ≡ turn_count r
  all_count = length-flat_map planned r.times r.levels

  cells_count : Each (λ (p : PlannedValue). length p.cells ≡ length r.steps) all_planned
  cells_count =
      each-flat_map_in (λ (p : PlannedValue). length p.cells ≡ length r.steps) (λ t. map (planned t) r.levels) r.times (λ t mt.
      each-map_in (λ (p : PlannedValue). length p.cells ≡ length r.steps) (planned t) r.levels (λ z mz. length-map r.steps (turned r t z)))

  values_are : values_in (document s q) ≡ value_count asked r
  values_are =
      ap (sum_by coverage_length) (coverages_are s q i line held shape h levels has)
      ∙ (count_each i.grid asked (length r.steps) all_planned cells_count
      ∙ (ap (λ n. n * (length asked * length r.steps)) all_count ∙ turned_round (turn_count r) (length asked) (length r.steps)))

  coverages_count : length (coverages_in (document s q)) ≡ turn_count r
  coverages_count =
      ap (λ (all : List Coverage). length all) (coverages_are s q i line held shape h levels has) ∙ (length-map all_planned (coverage_of i.grid asked) ∙ all_count)

  -- the test of its size is that of the counts
  pub size_is : (nat_lt value_limit (values_in (document s q)) || nat_lt coverage_limit (length (coverages_in (document s q)))) ≡ (nat_lt value_limit (value_count asked r) || nat_lt coverage_limit (turn_count r))
  size_is = ap₂ (λ values all. nat_lt value_limit values || nat_lt coverage_limit all) values_are coverages_count
