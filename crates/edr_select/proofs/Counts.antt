-- How many values and coverages the document of a position has.
use Rattle.std.proofs.Common.{◌≡◌, ℕ, suc, ◌+◌, ◌*◌, Bool, true, false, List, [], ◌∷◌, length, length-append, ap, ap₂, sym, ◌∙◌, arith, add-zero, mul_comm, mul_assoc, mul-one, ℤ, sum_by}
use Rattle.std.specs.Prelude.{map}
use Rattle.std.specs.List.{flat_map}
use Rattle.std.proofs.lemmas.List.{length-map}
use Rattle.std.proofs.lemmas.List.Sums.{sum_by-cons}
use Rattle.edr_base.specs.declared.places.Position.{Position}
use Rattle.edr_wkt.specs.declared.geometry.Geometry.{Geometry}
use Rattle.edr_wkt.specs.declared.geometry.Geometry.TheVariants.{Points}
use Rattle.covjson_value.specs.declared.coverages.NdArray.{NdArray}
use Rattle.covjson_value.specs.declared.coverages.Coverage.{Coverage}
use Rattle.covjson_value.specs.declared.coverages.Document.{Document}
use Rattle.covjson_value.specs.declared.coverages.Document.TheVariants.{One}
use Rattle.edr_chunk.specs.Grids as chunk
use Rattle.edr_edition.specs.Values.{InstanceValue}
use Rattle.edr_edition.specs.Stores.{of_grid, Subject}
use Rattle.edr_query.specs.declared.shapes.Shape.TheVariants as at
use Rattle.edr_query.specs.Values.{QueryValue}
use Rattle.edr_select.specs.declared.plans.GridNode.{GridNode}
use Rattle.edr_select.specs.Documents.{document, values_in}
use Rattle.covjson_value.specs.Coverages.{coverages_in}
use Rattle.edr_select.specs.Choices.{Chosen, chosen, IsSome, node_of}
use Rattle.edr_select.specs.Listings.{PlannedValue, place_at, range_over, coverage_of}
use Rattle.edr_select.specs.GridLaws.{IsGrid}
use Rattle.edr_select.proofs.Coverages.{planned_at, planned_along}
use Rattle.edr_select.proofs.PlanDocuments.{document_at_point, document_along, document_apart}

abbrev range_length : NdArray → ℕ
range_length range = length range.values

abbrev coverage_length : Coverage → ℕ
coverage_length coverage = sum_by range_length coverage.ranges

count_ranges : (grid : chunk.Values) (cells : List GridNode) (ps : List ℕ) → sum_by range_length (map (range_over grid cells) ps) ≡ length ps * length cells
count_ranges grid cells [] = omega arith
count_ranges grid cells (p ∷ ps) =
    omega (
      arith,
      sum_by-cons range_length (range_over grid cells p) (map (range_over grid cells) ps),
      length-map cells (λ (cell : GridNode). chunk.value grid (place_at p cell)),
      count_ranges grid cells ps,
    )

-- the values of one planned coverage
pub count_coverage : (grid : chunk.Values) (ps : List ℕ) (planned : PlannedValue) → coverage_length (coverage_of grid ps planned) ≡ length ps * length planned.cells
count_coverage grid ps planned = count_ranges grid planned.cells ps

pub count_cells_at : (xs : List ℤ) (spot : ℕ) (times levels : List ℕ) → length (flat_map (λ t. map (node_of xs spot t) levels) times) ≡ length times * length levels
count_cells_at xs spot [] levels = omega arith
count_cells_at xs spot (t ∷ times) levels =
    omega (arith, length-append (map (node_of xs spot t) levels) (flat_map (λ t. map (node_of xs spot t) levels) times), length-map levels (node_of xs spot t), count_cells_at xs spot times levels)

-- planned coverages of as many cells each
count_coverages : (grid : chunk.Values) (ps : List ℕ) (planned : ℕ → PlannedValue) (n : ℕ) → ((spot : ℕ) → length (planned spot).cells ≡ n) → (spots : List ℕ)
    → sum_by coverage_length (map (coverage_of grid ps) (map planned spots)) ≡ length spots * (length ps * n)
count_coverages grid ps planned n each [] = omega arith
count_coverages grid ps planned n each (spot ∷ spots) =
    sum_by-cons coverage_length (coverage_of grid ps (planned spot)) (map (coverage_of grid ps) (map planned spots))
    ∙ (ap₂ (λ a b. a + b) (count_coverage grid ps (planned spot) ∙ ap (λ k. length ps * k) (each spot)) (count_coverages grid ps planned n each spots)
    ∙ more (length spots) (length ps * n))
  where
    more : (m k : ℕ) → k + m * k ≡ suc m * k
    more m k = omega arith

count_one : (coverage : Coverage) → values_in (One coverage) ≡ coverage_length coverage
count_one coverage = sum_by-cons coverage_length coverage [] ∙ add-zero (coverage_length coverage)

turned : (s p t z : ℕ) → s * (p * (t * z)) ≡ p * (t * (z * s))
turned s p t z = mul_comm s (p * (t * z)) ∙ (mul_assoc p (t * z) s ∙ ap (λ n. p * n) (mul_assoc t z s))

module _ (s : Subject) (q : QueryValue) (i : InstanceValue) (geometry : Geometry) (held : s.held ≡ of_grid i) (shape : q.shape ≡ at.Position geometry) (g : IsGrid i)
    (some : IsSome (chosen i q)) where
  abbrev c : Chosen
  c = chosen i q

  abbrev planned_coverage : PlannedValue → Coverage
  planned_coverage = coverage_of i.grid c.parameters

  -- how many values there are
  abbrev pub value_count : ℕ
  value_count = length c.parameters * (length c.times * (length c.levels * length c.spots))

  pub values_at_point : (has_z has_m : Bool) (positions : List Position) → geometry ≡ Points false has_z has_m positions → (spot : ℕ) → c.spots ≡ spot ∷ []
      → values_in (document s q) ≡ value_count
  values_at_point has_z has_m positions points spot spot_is =
      ap values_in (document_at_point s q i geometry held shape g some has_z has_m positions points spot spot_is)
      ∙ (count_one (planned_coverage (planned_at s i c spot))
      ∙ (count_coverage i.grid c.parameters (planned_at s i c spot)
      ∙ (ap (λ n. length c.parameters * n) (count_cells_at i.xs spot c.times c.levels)
      ∙ ap (λ n. length c.parameters * (length c.times * n)) (sym (mul-one (length c.levels)) ∙ ap (λ (spots : List ℕ). length c.levels * length spots) (sym spot_is)))))

  pub coverages_at_point : (has_z has_m : Bool) (positions : List Position) → geometry ≡ Points false has_z has_m positions → (spot : ℕ) → c.spots ≡ spot ∷ []
      → length (coverages_in (document s q)) ≡ 1
  coverages_at_point has_z has_m positions points spot spot_is =
      ap (λ (d : Document). length (coverages_in d)) (document_at_point s q i geometry held shape g some has_z has_m positions points spot spot_is)

  pub values_along : (has_z has_m : Bool) (positions : List Position) → geometry ≡ Points true has_z has_m positions → (t z : ℕ) → c.times ≡ t ∷ []
      → c.levels ≡ z ∷ []
      → values_in (document s q) ≡ value_count
  values_along has_z has_m positions points t z time_is level_is =
      ap values_in (document_along s q i geometry held shape g some has_z has_m positions points t z time_is level_is)
      ∙ (count_one (planned_coverage (planned_along s i c t z))
      ∙ (count_coverage i.grid c.parameters (planned_along s i c t z)
      ∙ (ap (λ n. length c.parameters * n) (length-map c.spots (λ spot. node_of i.xs spot t z) ∙ once (length c.spots))
      ∙ ap₂ (λ (ts zs : List ℕ). length c.parameters * (length ts * (length zs * length c.spots))) (sym time_is) (sym level_is))))
    where
      once : (n : ℕ) → n ≡ 1 * (1 * n)
      once n = omega arith

  pub coverages_along : (has_z has_m : Bool) (positions : List Position) → geometry ≡ Points true has_z has_m positions → (t z : ℕ) → c.times ≡ t ∷ []
      → c.levels ≡ z ∷ []
      → length (coverages_in (document s q)) ≡ 1
  coverages_along has_z has_m positions points t z time_is level_is =
      ap (λ (d : Document). length (coverages_in d)) (document_along s q i geometry held shape g some has_z has_m positions points t z time_is level_is)

  pub values_apart : (has_z has_m : Bool) (positions : List Position) → geometry ≡ Points true has_z has_m positions
      → ¬ ((length c.times ≡ 1) × (length c.levels ≡ 1))
      → values_in (document s q) ≡ value_count
  values_apart has_z has_m positions points several =
      ap values_in (document_apart s q i geometry held shape g some has_z has_m positions points several)
      ∙ (count_coverages i.grid c.parameters (planned_at s i c) (length c.times * length c.levels) (λ spot. count_cells_at i.xs spot c.times c.levels) c.spots
      ∙ turned (length c.spots) (length c.parameters) (length c.times) (length c.levels))

  pub coverages_apart : (has_z has_m : Bool) (positions : List Position) → geometry ≡ Points true has_z has_m positions
      → ¬ ((length c.times ≡ 1) × (length c.levels ≡ 1))
      → length (coverages_in (document s q)) ≡ length c.spots
  coverages_apart has_z has_m positions points several =
      ap (λ (d : Document). length (coverages_in d)) (document_apart s q i geometry held shape g some has_z has_m positions points several)
      ∙ (length-map (map (planned_at s i c) c.spots) planned_coverage ∙ length-map c.spots (planned_at s i c))
