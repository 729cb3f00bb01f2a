-- A trajectory selects by a test of nodes: those of its route.
use Rattle.std.proofs.Common.{◌≡◌, ℕ, ◌<◌, Bool, true, false, List, refl, ap, sym, ◌∙◌, subst, length, None, Contains}
use Rattle.std.specs.Prelude.{map, ◌&&◌}
use Rattle.std.specs.List.{list_any}
use Rattle.std.proofs.lemmas.Bool.{and_from}
use Rattle.std.proofs.lemmas.Slice.Eq.{bytes_eq-Decides}
use Rattle.edr_wkt.specs.declared.geometry.Geometry.{Geometry}
use Rattle.edr_wkt.specs.Geometries.{line_of}
use Rattle.edr_wkt.specs.Wkt.{has_z_of, has_m_of}
use Rattle.covjson_value.specs.Samples.{Node, same_node}
use Rattle.edr_chunk.specs.AllPlaces.{at}
use Rattle.edr_chunk.specs.declared.shapes.GridPlace.{GridPlace}
use Rattle.edr_chunk.specs.Places.{Within}
use Rattle.edr_chunk.specs.Grids.{value}
use Rattle.edr_edition.specs.Values.{InstanceValue}
use Rattle.edr_edition.specs.Instances.{HasGrid}
use Rattle.edr_edition.specs.Stores.{Held, of_grid, Subject}
use Rattle.edr_query.specs.declared.shapes.Shape.{Shape}
use Rattle.edr_query.specs.declared.shapes.Shape.TheVariants as shapes
use Rattle.edr_query.specs.Values.{QueryValue}
use Rattle.edr_select.specs.declared.plans.GridNode.{GridNode}
use Rattle.edr_select.specs.Choices.{parameter_places}
use Rattle.edr_select.specs.Documents.{value_in}
use Rattle.edr_select.specs.GridLaws.{IsGrid, same_stored}
use Rattle.edr_select.specs.KeptLaws.{kept_below, kept_passes}
use Rattle.edr_select.specs.Lines.{route_in, route_over}
use Rattle.edr_select.specs.ListLaws.{any-map, any-flat_map, any_agree, any_member, passing}
use Rattle.edr_select.specs.Listings.{place_at}
use Rattle.edr_select.specs.Samples.{id_at, node_at, stored_at}
use Rattle.edr_select.specs.Selections.{is_asked, takes, picked}
use Rattle.edr_select.specs.Steps.{lacks_levels}
use Rattle.edr_lines.specs.Routes.{RouteValue, route_at, HasTurns, nodes_on, lists_on, turned, IsRouteOver}
use Rattle.edr_lines.specs.Taken.{NodeTest}
use Rattle.edr_lines.proofs.LineGrids.{grid_from}
use Rattle.edr_lines.proofs.RouteLists.{time_below, level_below, step_is, is_route_over}
use Rattle.edr_lines.proofs.RouteSteps.{shown, shown_itself, step_in, turned_within}
use Rattle.edr_lines.proofs.TestedPicks.{SelectsBy, Taken, value_at_place}

-- a node of some lists, by its turn and its step
any_listed : (i : InstanceValue) (r : RouteValue) (u : Node → Bool)
    → list_any (list_any u) (lists_on i r) ≡ list_any (λ t. list_any (λ z. list_any (λ n. u (node_at i (place_at 0 (turned r t z n)))) r.steps) r.levels) r.times
any_listed i r u =
    any-flat_map (list_any u) (λ t. map (nodes_on i r t) r.levels) r.times
    ∙ any_agree (λ t. list_any (list_any u) (map (nodes_on i r t) r.levels)) (λ t. list_any (λ z. list_any (λ n. u (node_at i (place_at 0 (turned r t z n)))) r.steps) r.levels)
    (λ t. any-map (list_any u) (nodes_on i r t) r.levels
    ∙ any_agree (λ z. list_any u (nodes_on i r t z)) (λ z. list_any (λ n. u (node_at i (place_at 0 (turned r t z n)))) r.steps)
    (λ z. any-map u (λ n. node_at i (place_at 0 n)) (map (turned r t z) r.steps) ∙ any-map (λ n. u (node_at i (place_at 0 n))) (turned r t z) r.steps) r.levels)
    r.times

-- a place is that of a step in a turn
pub record OnTurn (r : RouteValue) (a : GridPlace) : Type 0 where
  pub t : ℕ
  pub z : ℕ
  pub n : GridNode
  pub t_in : Contains r.times t
  pub z_in : Contains r.levels z
  pub n_in : Contains r.steps n
  pub is : a ≡ place_at a.parameter (turned r t z n)

module _ (s : Subject) (q : QueryValue) (i : InstanceValue) (line : Geometry) (held : s.held ≡ of_grid i) (shape : q.shape ≡ shapes.Trajectory line) (h : HasGrid i)
    (levels : lacks_levels q i ≡ false) where
  abbrev r : RouteValue
  r = route_at i q line

  abbrev route : List (List Node)
  route = route_over i q (has_z_of line) (has_m_of line) (line_of line)

  g : IsGrid i
  g = grid_from i h

  over : IsRouteOver i q line r
  over = is_route_over q i line h shape levels

  abbrev pub on_route : NodeTest
  on_route t z y x = list_any (list_any (same_node (node_at i (at 0 t z y x)))) route

  pub selects : SelectsBy s q i on_route
  selects a within =
      ap (λ (k : Shape). is_asked q.parameters (id_at i.parameters a.parameter) && takes s q k (stored_at i a)) shape
      ∙ ap (λ (k : Held). is_asked q.parameters (id_at i.parameters a.parameter) && list_any (list_any (same_node (node_at i a))) (route_in k q line)) held

  -- without a node none is on the route
  pub none_on : (¬ (HasTurns r)) → (t z y x : ℕ) → on_route t z y x ≡ false
  none_on none t z y x = ap (λ (lists : List (List Node)). list_any (list_any (same_node (node_at i (at 0 t z y x)))) lists) (over.none none)

  module _ (has : HasTurns r) where
    on_turn : (u : Node → Bool) → list_any (list_any u) route ≡ list_any (λ t. list_any (λ z. list_any (λ n. u (shown i h r t z n)) r.steps) r.levels) r.times
    on_turn u = ap (list_any (list_any u)) (over.some has) ∙ any_listed i r u

    pub step_within : (t z : ℕ) (n : GridNode) → Contains r.times t → Contains r.levels z → Contains r.steps n → Within i.grid.shape (place_at 0 (turned r t z n))
    step_within t z n mt mz mn = turned_within i h r t z n (time_below q i line h t mt) (level_below q i line h z mz) (step_in i h r n (step_is q i line h n mn))

    -- a place that is shown as a step in a turn is that of the step
    on_step : (a : GridPlace) → Within i.grid.shape a → (t z : ℕ) (n : GridNode) → Contains r.times t → Contains r.levels z → Contains r.steps n
        → same_node (node_at i (at 0 a.t a.z a.y a.x)) (shown i h r t z n) ≡ true → OnTurn r a
    on_step a within t z n mt mz mn e =
        let there : Within i.grid.shape (place_at 0 (turned r t z n)) = step_within t z n mt mz mn in
        let same : at 0 a.t a.z a.y a.x ≡ place_at 0 (turned r t z n) =
        same_stored i g (place_at 0 (turned r t z n)) (at 0 a.t a.z a.y a.x) there
        (record { parameter = there.parameter; t = within.t; z = within.z; y = within.y; x = within.x }) (and_from _ _ ((bytes_eq-Decides (id_at i.parameters 0) (id_at i.parameters 0)).1 refl) e) in
        record { t = t; z = z; n = n; t_in = mt; z_in = mz; n_in = mn; is = ap (λ (b : GridPlace). at a.parameter b.t b.z b.y b.x) same }

    -- each node on the route is a step in a turn
    pub turn_of : (a : GridPlace) → Within i.grid.shape a → on_route a.t a.z a.y a.x ≡ true → OnTurn r a
    turn_of a within on =
        let u : Node → Bool = same_node (node_at i (at 0 a.t a.z a.y a.x)) in
        let t = passing (λ t. list_any (λ z. list_any (λ n. u (shown i h r t z n)) r.steps) r.levels) r.times (sym (on_turn u) ∙ on) in
        let z = passing (λ z. list_any (λ n. u (shown i h r t.item z n)) r.steps) r.levels t.passes in
        let n = passing (λ n. u (shown i h r t.item z.item n)) r.steps z.passes in
        on_step a within t.item z.item n.item t.among z.among n.among n.passes

    -- and each step in a turn is on the route
    pub is_on : (t z : ℕ) (n : GridNode) → Contains r.times t → Contains r.levels z → Contains r.steps n
        → on_route (turned r t z n).t (turned r t z n).z (turned r t z n).y (turned r t z n).x ≡ true
    is_on t z n mt mz mn =
        let u : Node → Bool = same_node (shown i h r t z n) in
        on_turn u
        ∙ any_member (λ t. list_any (λ z. list_any (λ n. u (shown i h r t z n)) r.steps) r.levels) r.times t mt
        (any_member (λ z. list_any (λ n. u (shown i h r t z n)) r.steps) r.levels z mz
        (any_member (λ n. u (shown i h r t z n)) r.steps n mn (shown_itself i h r t z n)))

    -- ---- of a parameter that is asked

    abbrev asked : List ℕ
    asked = parameter_places q.parameters i.parameters

    pub parameter_within : (p t z : ℕ) (n : GridNode) → Contains asked p → Contains r.times t → Contains r.levels z → Contains r.steps n
        → Within i.grid.shape (place_at p (turned r t z n))
    parameter_within p t z n mp mt mz mn =
        let there = step_within t z n mt mz mn in
        record {
          parameter = subst (λ many. p < many) (sym g.parameters) (kept_below (λ p. is_asked q.parameters (id_at i.parameters p)) (length i.parameters) p mp);
          t = there.t;
          z = there.z;
          y = there.y;
          x = there.x;
        }

    pub taken : (p t z : ℕ) (n : GridNode) → Contains asked p → Contains r.times t → Contains r.levels z → Contains r.steps n
        → Taken q i on_route (place_at p (turned r t z n))
    taken p t z n mp mt mz mn = record {
      asked = kept_passes (λ p. is_asked q.parameters (id_at i.parameters p)) (length i.parameters) p mp;
      node = is_on t z n mt mz mn;
    }

    -- its value is found at each step
    pub value_on : (p t z : ℕ) (n : GridNode) → Contains asked p → Contains r.times t → Contains r.levels z → Contains r.steps n
        → value_in (picked s q) None (id_at i.parameters p) (shown i h r t z n) ≡ value i.grid (place_at p (turned r t z n))
    value_on p t z n mp mt mz mn =
        value_at_place s q i held g on_route selects (place_at p (turned r t z n)) (parameter_within p t z n mp mt mz mn) (taken p t z n mp mt mz mn)
