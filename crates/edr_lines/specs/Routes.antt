-- The route of a trajectory by places: the nodes nearest to its vertices, and the turns of time and level; for private clauses.
use Rattle.std.specs.Prelude.{◌≡◌, ◌≢◌, ℕ, ◌*◌, ◌<◌, All, Bool, if◌then◌else◌, List, [], ◌∷◌, length, map}
use Rattle.std.specs.List.{flat_map}
use Rattle.edr_wkt.specs.declared.geometry.Geometry.{Geometry}
use Rattle.edr_wkt.specs.Geometries.{line_of}
use Rattle.edr_wkt.specs.Wkt.{has_z_of, has_m_of}
use Rattle.edr_chunk.specs.Places.{Within}
use Rattle.edr_axes.specs.Axes.{axis_length}
use Rattle.covjson_value.specs.declared.coverages.Referencing.{Referencing}
use Rattle.covjson_value.specs.Samples.{Node}
use Rattle.edr_edition.specs.Values.{InstanceValue}
use Rattle.edr_query.specs.Values.{QueryValue}
use Rattle.edr_select.specs.declared.plans.GridNode.{GridNode}
use Rattle.edr_select.specs.Samples.{node_at}
use Rattle.edr_select.specs.Lines.{route_over}
use Rattle.edr_select.specs.Choices.{time_places, level_places}
use Rattle.edr_select.specs.Wanted.{levels_asked}
use Rattle.edr_select.specs.Heads.{trajectory_of}
use Rattle.edr_select.specs.Listings.{PlannedValue, place_at}
use Rattle.edr_select.specs.Planned.{head_of, parameters_at}
use Rattle.edr_lines.specs.Plans.{axes_of}
use Rattle.edr_lines.specs.Vertices.{steps_of}

-- the nodes nearest to the vertices, and the places of the turns; a node has the place 0 of a time and a level that the vertices
-- don't have
pub record RouteValue : Type 0 where
  pub has_z : Bool
  pub has_m : Bool
  pub steps : List GridNode
  pub times : List ℕ
  pub levels : List ℕ

-- a node in a turn of time and level
abbrev pub turned : RouteValue → ℕ → ℕ → GridNode → GridNode
turned r t z n = record { t = if r.has_m then n.t else t; z = if r.has_z then n.z else z; y = n.y; x = n.x }

abbrev pub nodes_of_turn : RouteValue → ℕ → ℕ → List GridNode
nodes_of_turn r t z = map (turned r t z) r.steps

-- the route of a query
abbrev pub route_at : InstanceValue → QueryValue → Geometry → RouteValue
route_at i q line = record {
  has_z = has_z_of line;
  has_m = has_m_of line;
  steps = steps_of (axes_of i) (has_z_of line) (has_m_of line) (line_of line);
  times = if has_m_of line then 0 ∷ [] else time_places q.times i.ts;
  levels = if has_z_of line then 0 ∷ [] else level_places (levels_asked q) i.zs;
}

-- it has a node
pub record HasTurns (r : RouteValue) : Type 0 where
  pub steps : r.steps ≢ []
  pub times : r.times ≢ []
  pub levels : r.levels ≢ []

-- its nodes and its turns are those of a grid
pub record LiesOn (i : InstanceValue) (r : RouteValue) : Type 0 where
  pub times : All (λ t. t < length i.ts) r.times
  pub levels : All (λ z. z < axis_length i.zs) r.levels
  pub steps : All (λ n. Within i.grid.shape (place_at 0 n)) r.steps

-- ---- laws that are wanted of it

-- the nodes of a turn, as the definition of routes has them
abbrev pub nodes_on : InstanceValue → RouteValue → ℕ → ℕ → List Node
nodes_on i r t z = map (λ n. node_at i (place_at 0 n)) (nodes_of_turn r t z)

-- the lists of nodes of all turns, time first and then level
abbrev pub lists_on : InstanceValue → RouteValue → List (List Node)
lists_on i r = flat_map (λ t. map (nodes_on i r t) r.levels) r.times

-- where there are nodes they are the route of the query, and where there are none that is empty
pub record IsRouteOver (i : InstanceValue) (q : QueryValue) (line : Geometry) (r : RouteValue) : Type 0 where
  pub some : HasTurns r → route_over i q (has_z_of line) (has_m_of line) (line_of line) ≡ lists_on i r
  pub none : ¬ (HasTurns r) → route_over i q (has_z_of line) (has_m_of line) (line_of line) ≡ []

-- ---- coverages

-- what is planned for a turn
abbrev pub planned_turn : Referencing → InstanceValue → List ℕ → RouteValue → ℕ → ℕ → PlannedValue
planned_turn referencing i parameters r t z = record {
  head = head_of referencing (parameters_at i.parameters parameters) (trajectory_of r.has_z (map (λ n. node_at i (place_at 0 n)) (nodes_of_turn r t z)));
  cells = nodes_of_turn r t z;
}

-- for each turn, time first and then level
abbrev pub planned_turns : Referencing → InstanceValue → List ℕ → RouteValue → List PlannedValue
planned_turns referencing i parameters r = flat_map (λ t. map (planned_turn referencing i parameters r t) r.levels) r.times

-- how many coverages there are, and how many values
abbrev pub turn_count : RouteValue → ℕ
turn_count r = length r.times * length r.levels

abbrev pub value_count : List ℕ → RouteValue → ℕ
value_count parameters r = length parameters * (turn_count r * length r.steps)
