-- Coverages over a grid, by the cells that are chosen.
use Rattle.std.proofs.Common.{◌≡◌, ℕ, List, [], ap, ◌∙◌, None, ℤ, Contains}
use Rattle.std.specs.declared.option.Option.{Option}
use Rattle.std.specs.Prelude.{map}
use Rattle.edr_axes.specs.Axes.{value_at}
use Rattle.covjson_value.specs.declared.domains.Domain.{Domain}
use Rattle.covjson_value.specs.declared.coverages.Parameter.{Parameter}
use Rattle.covjson_value.specs.declared.coverages.NdArray.{NdArray}
use Rattle.covjson_value.specs.declared.coverages.Coverage.{Coverage}
use Rattle.covjson_value.specs.Samples.{Node, nodes_of}
use Rattle.edr_chunk.specs.Grids.{value}
use Rattle.edr_edition.specs.Values.{InstanceValue}
use Rattle.edr_edition.specs.Stores.{of_grid, Subject}
use Rattle.edr_query.specs.Values.{QueryValue}
use Rattle.edr_select.specs.declared.plans.GridNode.{GridNode}
use Rattle.edr_select.specs.Samples.{Stored, id_at, node_at}
use Rattle.edr_select.specs.Wanted.{levels_asked}
use Rattle.edr_select.specs.Selections.{picked}
use Rattle.edr_select.specs.Heads.{without_id, domain_at}
use Rattle.edr_select.specs.Documents.{coverage_over, value_in}
use Rattle.edr_select.specs.Choices.{TakesEach, Chosen, chosen, IsSome, node_of, cells_at, cells_along, times_of, levels_of, spot_of}
use Rattle.edr_corridor.specs.Boxes.{level_at}
use Rattle.edr_select.specs.Listings.{PlannedValue, place_at, range_over, coverage_of}
use Rattle.edr_select.specs.ListLaws.{Each, map-map, map_agree_in, map_agree_each, each-map_in, each-flat_map_in}
use Rattle.edr_select.specs.GridLaws.{IsGrid}
use Rattle.edr_select.proofs.Picks.{picks_at, picked_is}
use Rattle.edr_select.proofs.ChosenLaws as laws
use Rattle.edr_select.specs.NodeLaws.{one_level, nodes_at_spot, nodes_along_spots}
use Rattle.edr_select.specs.Planned.{points_domain}
use Rattle.edr_select.specs.HeadLaws.{coverage_with}
use Rattle.edr_select.specs.ParameterLaws.{parameter_at, same_id, parameters_are}

-- the parameters that are chosen
abbrev pub chosen_parameters : InstanceValue → Chosen → List Parameter
chosen_parameters i c = map (parameter_at i.parameters) c.parameters

-- the head of a coverage over a domain: it has no ranges
abbrev pub head_over : Subject → InstanceValue → Chosen → Domain → Coverage
head_over s i c domain = coverage_with s domain (chosen_parameters i c) []

-- what is planned for one spot, at each time and level
abbrev pub planned_at : Subject → InstanceValue → Chosen → ℕ → PlannedValue
planned_at s i c spot = record { head = head_over s i c (domain_at (times_of i c) (levels_of i c) (spot_of i spot)); cells = cells_at i.xs c spot }

-- the domain of all spots at one time and at most one level
abbrev pub domain_along : InstanceValue → Chosen → ℕ → ℕ → Domain
domain_along i c t z = points_domain (value_at i.ts t) (level_at i.zs z) (map (spot_of i) c.spots)

-- what is planned for them
abbrev pub planned_along : Subject → InstanceValue → Chosen → ℕ → ℕ → PlannedValue
planned_along s i c t z = record { head = head_over s i c (domain_along i c t z); cells = cells_along i.xs c t z }

abbrev range_with : List (Option ℤ) → NdArray
range_with values = record { values = values }

module _ (s : Subject) (q : QueryValue) (i : InstanceValue) (held : s.held ≡ of_grid i) (each : TakesEach q.shape) (g : IsGrid i) where
  abbrev c : Chosen
  c = chosen i q

  abbrev found : ℕ → Node → Option ℤ
  found p = value_in (picks_at i q) None (id_at i.parameters p)

  abbrev cell_node : GridNode → Node
  cell_node cell = node_at i (place_at 0 cell)

  -- the value of a parameter that is found at a cell is the grid's
  abbrev pub IsFound : ℕ → GridNode → Type 0
  IsFound p cell = found p (cell_node cell) ≡ value i.grid (place_at p cell)

  abbrev range_of : Domain → Parameter → NdArray
  range_of domain p = range_with (map (value_in (picks_at i q) None p.id) (nodes_of domain))

  one_range : (domain : Domain) (cells : List GridNode) → nodes_of domain ≡ map cell_node cells → (p : ℕ) → Each (IsFound p) cells
      → range_of domain (parameter_at i.parameters p) ≡ range_over i.grid cells p
  one_range domain cells nodes p values =
      ap range_with
      (ap (λ (id : List ℕ). map (value_in (picks_at i q) None id) (nodes_of domain)) (same_id i.parameters p)
      ∙ (ap (map (found p)) nodes
      ∙ (map-map (found p) cell_node cells
      ∙ map_agree_each (λ cell. found p (cell_node cell)) (λ cell. value i.grid (place_at p cell)) cells values)))

  -- a planned coverage is that of its domain, where its cells are the domain's nodes and have their values
  pub coverage_is : (domain : Domain) (cells : List GridNode) → nodes_of domain ≡ map cell_node cells → ((p : ℕ) → Contains c.parameters p → Each (IsFound p) cells)
      → coverage_over s q (picked s q) (without_id domain) ≡ coverage_of i.grid c.parameters (record { head = head_over s i c domain; cells = cells })
  coverage_is domain cells nodes values =
      ap (λ (picks : List Stored). coverage_over s q picks (without_id domain)) (picked_is s q i held each)
      ∙ (ap (λ (ps : List Parameter). coverage_with s domain ps (map (range_of domain) ps)) (parameters_are s q i held)
      ∙ ap (coverage_with s domain (chosen_parameters i c))
      (map-map (range_of domain) (parameter_at i.parameters) c.parameters
      ∙ map_agree_in (λ p. range_of domain (parameter_at i.parameters p)) (range_over i.grid cells) c.parameters (λ p m. one_range domain cells nodes p (values p m))))

  -- ---- one spot

  values_at_spot : (spot : ℕ) → Contains c.spots spot → (p : ℕ) → Contains c.parameters p → Each (IsFound p) (cells_at i.xs c spot)
  values_at_spot spot ms p mp =
      each-flat_map_in (IsFound p) (λ t. map (node_of i.xs spot t) c.levels) c.times (λ t mt. each-map_in (IsFound p) (node_of i.xs spot t) c.levels (λ z mz.
      laws.value_at_cell i q each g p t z spot mp mt mz ms))

  pub coverage_at_spot : IsSome c → (spot : ℕ) → Contains c.spots spot
      → coverage_over s q (picked s q) (without_id (domain_at (times_of i c) (levels_of i c) (spot_of i spot))) ≡ coverage_of i.grid c.parameters (planned_at s i c spot)
  coverage_at_spot some spot ms =
      coverage_is (domain_at (times_of i c) (levels_of i c) (spot_of i spot)) (cells_at i.xs c spot)
      (nodes_at_spot i c spot (λ none. one_level (levels_asked q) i.zs none some.levels)) (values_at_spot spot ms)

  -- ---- all spots at one time and at most one level

  values_along : (t z : ℕ) → Contains c.times t → Contains c.levels z → (p : ℕ) → Contains c.parameters p → Each (IsFound p) (cells_along i.xs c t z)
  values_along t z mt mz p mp = each-map_in (IsFound p) (λ spot. node_of i.xs spot t z) c.spots (λ spot ms. laws.value_at_cell i q each g p t z spot mp mt mz ms)

  pub coverage_along : (t z : ℕ) → Contains c.times t → Contains c.levels z
      → coverage_over s q (picked s q) (without_id (domain_along i c t z)) ≡ coverage_of i.grid c.parameters (planned_along s i c t z)
  coverage_along t z mt mz = coverage_is (domain_along i c t z) (cells_along i.xs c t z) (nodes_along_spots i c t z) (values_along t z mt mz)
