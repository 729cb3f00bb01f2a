-- The document of a trajectory is that of a listing over the turns of its route.
use Rattle.std.proofs.Common.{◌≡◌, ℕ, Bool, true, false, List, [], ◌∷◌, length, refl, ap, sym, ◌∙◌, arith, Some, None, ℤ, Contains}
use Rattle.std.specs.declared.option.Option.{Option}
use Rattle.std.specs.Prelude.{map}
use Rattle.std.proofs.lemmas.Bool.{false≢true}
use Rattle.edr_wkt.specs.declared.geometry.Geometry.{Geometry}
use Rattle.covjson_value.specs.declared.domains.Domain.{Domain}
use Rattle.covjson_value.specs.declared.coverages.Parameter.{Parameter}
use Rattle.covjson_value.specs.declared.coverages.NdArray.{NdArray}
use Rattle.covjson_value.specs.declared.coverages.Coverage.{Coverage}
use Rattle.covjson_value.specs.Samples.{Node, nodes_of}
use Rattle.edr_chunk.specs.Grids.{value}
use Rattle.edr_edition.specs.Values.{InstanceValue}
use Rattle.edr_edition.specs.Instances.{HasGrid}
use Rattle.edr_edition.specs.Stores.{Held, of_grid, Subject}
use Rattle.edr_query.specs.declared.shapes.Shape.{Shape}
use Rattle.edr_query.specs.declared.shapes.Shape.TheVariants as at
use Rattle.edr_query.specs.Values.{QueryValue}
use Rattle.edr_select.specs.declared.plans.GridNode.{GridNode}
use Rattle.edr_select.specs.Choices.{parameter_places}
use Rattle.edr_select.specs.Documents.{value_in, coverage_over, document, document_over}
use Rattle.covjson_value.specs.Coverages.{coverages_in}
use Rattle.edr_select.specs.HeadLaws.{coverage_with}
use Rattle.edr_select.specs.Heads.{Head, without_id, trajectory_of, heads_of_route, heads_on_grid, heads_of}
use Rattle.edr_select.specs.ListLaws.{Each, map-map, map-flat_map, map_agree_in, map_agree_each, each-map_in}
use Rattle.edr_select.specs.Listings.{PlannedValue, ListingValue, place_at, range_over, coverage_of, document_of, listing_document}
use Rattle.edr_select.specs.ParameterLaws.{parameter_at, same_id, parameters_are}
use Rattle.edr_select.specs.Samples.{id_at, node_at}
use Rattle.edr_select.specs.Selections.{picked}
use Rattle.edr_select.specs.Steps.{lacks_levels}
use Rattle.edr_lines.specs.Routes.{RouteValue, route_at, HasTurns, turned, nodes_of_turn, nodes_on, lists_on, planned_turn, planned_turns}
use Rattle.edr_lines.proofs.LineGrids.{flat_map_agree_in}
use Rattle.edr_lines.proofs.RouteLists.{is_route_over, levels_there}
use Rattle.edr_lines.proofs.TrajectoryPicks.{value_on}
use Rattle.edr_lines.proofs.TurnDomains.{nodes_again}

-- ---- one list alone, or several together

abbrev heads_over : Bool → List (List Node) → List Head
heads_over has_z lists = map (λ steps. without_id (trajectory_of has_z steps)) lists

one_or_many : (cover : Head → Coverage) (has_z : Bool) (lists : List (List Node)) (many : Bool) → (many ≡ false → length lists ≡ 1) → (length lists ≡ 1 → many ≡ false)
    → document_of many (map cover (heads_over has_z lists)) ≡ Some (document_over cover (heads_of_route has_z lists))
one_or_many cover has_z [] true one alone = refl
one_or_many cover has_z [] false one alone = absurd (omega (arith, one refl))
one_or_many cover has_z (a ∷ []) true one alone = absurd (false≢true (sym (alone refl)))
one_or_many cover has_z (a ∷ []) false one alone = refl
one_or_many cover has_z (a ∷ (b ∷ lists)) true one alone = refl
one_or_many cover has_z (a ∷ (b ∷ lists)) false one alone = absurd (omega (arith, one refl))

all_covered : (cover : Head → Coverage) (has_z : Bool) (lists : List (List Node)) → coverages_in (document_over cover (heads_of_route has_z lists)) ≡ map cover (heads_over has_z lists)
all_covered cover has_z [] = refl
all_covered cover has_z (a ∷ []) = refl
all_covered cover has_z (a ∷ (b ∷ lists)) = refl

abbrev range_with : List (Option ℤ) → NdArray
range_with values = record { values = values }

module _ (s : Subject) (q : QueryValue) (i : InstanceValue) (line : Geometry) (held : s.held ≡ of_grid i) (shape : q.shape ≡ at.Trajectory line) (h : HasGrid i)
    (levels : lacks_levels q i ≡ false) (has : HasTurns (route_at i q line)) where
  abbrev r : RouteValue
  r = route_at i q line

  abbrev asked : List ℕ
  asked = parameter_places q.parameters i.parameters

  abbrev planned : ℕ → ℕ → PlannedValue
  planned t z = planned_turn s.collection.referencing i asked r t z

  abbrev pub all_planned : List PlannedValue
  all_planned = planned_turns s.collection.referencing i asked r

  abbrev cover : Head → Coverage
  cover = coverage_over s q (picked s q)

  abbrev covered : PlannedValue → Coverage
  covered = coverage_of i.grid asked

  -- ---- a turn

  abbrev found : ℕ → Node → Option ℤ
  found p = value_in (picked s q) None (id_at i.parameters p)

  abbrev cell_node : GridNode → Node
  cell_node n = node_at i (place_at 0 n)

  abbrev IsFound : ℕ → GridNode → Type 0
  IsFound p n = found p (cell_node n) ≡ value i.grid (place_at p n)

  abbrev range_of : Domain → Parameter → NdArray
  range_of domain p = range_with (map (value_in (picked s q) None p.id) (nodes_of domain))

  abbrev domain_in : ℕ → ℕ → Domain
  domain_in t z = trajectory_of r.has_z (nodes_on i r t z)

  one_range : (t z p : ℕ) → Each (IsFound p) (nodes_of_turn r t z) → range_of (domain_in t z) (parameter_at i.parameters p) ≡ range_over i.grid (nodes_of_turn r t z) p
  one_range t z p values =
      ap range_with
      (ap (λ (id : List ℕ). map (value_in (picked s q) None id) (nodes_of (domain_in t z))) (same_id i.parameters p)
      ∙ (ap (map (found p)) (nodes_again i r t z has.steps (levels_there q i line shape levels))
      ∙ (map-map (found p) cell_node (nodes_of_turn r t z)
      ∙ map_agree_each (λ n. found p (cell_node n)) (λ n. value i.grid (place_at p n)) (nodes_of_turn r t z) values)))

  values_in_turn : (t z p : ℕ) → Contains r.times t → Contains r.levels z → Contains asked p → Each (IsFound p) (nodes_of_turn r t z)
  values_in_turn t z p mt mz mp =
      each-map_in (IsFound p) (turned r t z) r.steps (λ n mn. value_on s q i line held shape h levels has p t z n mp mt mz mn)

  turn_covered : (t z : ℕ) → Contains r.times t → Contains r.levels z → cover (without_id (domain_in t z)) ≡ covered (planned t z)
  turn_covered t z mt mz =
      ap (λ (ps : List Parameter). coverage_with s (domain_in t z) ps (map (range_of (domain_in t z)) ps)) (parameters_are s q i held)
      ∙ ap (coverage_with s (domain_in t z) (map (parameter_at i.parameters) asked))
      (map-map (range_of (domain_in t z)) (parameter_at i.parameters) asked
      ∙ map_agree_in (λ p. range_of (domain_in t z) (parameter_at i.parameters p)) (range_over i.grid (nodes_of_turn r t z)) asked
      (λ p mp. one_range t z p (values_in_turn t z p mt mz mp)))

  -- ---- all turns

  abbrev over_list : List Node → Coverage
  over_list steps = cover (without_id (trajectory_of r.has_z steps))

  all_turns : map cover (heads_over r.has_z (lists_on i r)) ≡ map covered all_planned
  all_turns =
      map-map cover (λ (steps : List Node). without_id (trajectory_of r.has_z steps)) (lists_on i r)
      ∙ (map-flat_map over_list (λ t. map (nodes_on i r t) r.levels) r.times
      ∙ (flat_map_agree_in (λ t. map over_list (map (nodes_on i r t) r.levels)) (λ t. map covered (map (planned t) r.levels)) r.times
      (λ t mt. map-map over_list (nodes_on i r t) r.levels
      ∙ (map_agree_in (λ z. over_list (nodes_on i r t z)) (λ z. covered (planned t z)) r.levels (λ z mz. turn_covered t z mt mz)
      ∙ sym (map-map covered (planned t) r.levels)))
      ∙ sym (map-flat_map covered (λ t. map (planned t) r.levels) r.times)))

  document_is : document s q ≡ document_over cover (heads_of_route r.has_z (lists_on i r))
  document_is =
      ap (λ (k : Held). document_over cover (heads_of k q (picked s q))) held
      ∙ (ap (λ (k : Shape). document_over cover (heads_on_grid i q k (picked s q))) shape
      ∙ ap (λ (lists : List (List Node)). document_over cover (heads_of_route r.has_z lists)) ((is_route_over q i line h shape levels).some has))

  -- the coverages of the document are those that are planned
  pub coverages_are : coverages_in (document s q) ≡ map covered all_planned
  coverages_are = ap coverages_in document_is ∙ (all_covered cover r.has_z (lists_on i r) ∙ all_turns)

  -- and so many are they: one alone, or several together
  pub document_planned : (many : Bool) → (many ≡ false → length (lists_on i r) ≡ 1) → (length (lists_on i r) ≡ 1 → many ≡ false) → document_of many (map covered all_planned) ≡ Some (document s q)
  document_planned many one alone =
      ap (document_of many) (sym all_turns) ∙ (one_or_many cover r.has_z (lists_on i r) many one alone ∙ ap Some (sym document_is))

  -- ---- a listing

  pub listing_is : (plan : ListingValue) → plan.parameters ≡ asked → plan.coverages ≡ all_planned → (plan.many ≡ false → length (lists_on i r) ≡ 1) → (length (lists_on i r) ≡ 1 → plan.many ≡ false)
      → listing_document i.grid plan ≡ Some (document s q)
  listing_is plan parameters coverages one alone =
      ap (λ (ps : List ℕ). document_of plan.many (map (coverage_of i.grid ps) plan.coverages)) parameters
      ∙ (ap (λ (all : List PlannedValue). document_of plan.many (map covered all)) coverages ∙ document_planned plan.many one alone)
