-- The places on the axes of a grid that a query takes, of the kinds that take each time, level and place by itself; for the calls that plan, and private clauses.
use Rattle.std.specs.Prelude.{⊤, ◌≢◌, ℕ, ◌*◌, ◌==◌, ℤ, Bool, false, ◌&&◌, List, [], length, map, Option, None, Some, option_map}
use Rattle.std.specs.List.{filter, flat_map, list_any, range_with_len}
use Rattle.edr_base.specs.declared.places.Position.{Position}
use Rattle.edr_base.specs.declared.places.Spot.{Spot}
use Rattle.edr_base.specs.Boxes.{in_box}
use Rattle.edr_axes.specs.declared.times.Times.{Times}
use Rattle.edr_axes.specs.declared.levels.Levels.{Levels}
use Rattle.edr_axes.specs.Axes.{value_at, axis_length}
use Rattle.edr_wkt.specs.declared.geometry.Geometry.{Geometry}
use Rattle.edr_wkt.specs.declared.geometry.Geometry.TheVariants.{Points, Line, Polygons}
use Rattle.edr_wkt.specs.Geometries.{positions_of}
use Rattle.edr_geometry.specs.Planar as plane
use Rattle.edr_geometry.specs.Planar.{in_disc}
use Rattle.covjson_value.specs.declared.coverages.Parameter.{Parameter}
use Rattle.edr_edition.specs.Values.{InstanceValue}
use Rattle.edr_query.specs.declared.shapes.Shape.{Shape}
use Rattle.edr_query.specs.declared.shapes.Shape.TheVariants as at
use Rattle.edr_query.specs.Values.{QueryValue}
use Rattle.edr_corridor.specs.Boxes.{level_at}
use Rattle.edr_select.specs.declared.plans.GridNode.{GridNode}
use Rattle.edr_select.specs.Samples.{id_at}
use Rattle.edr_select.specs.Wanted.{takes_time, takes_level, levels_asked, is_along, is_nearest, in_areas}
use Rattle.edr_select.specs.Selections.{is_asked}
use Rattle.edr_chunk.specs.RowMajor.{row_of_number, place_of_number}

-- the places of the parameters, the times and the levels that are taken
abbrev pub parameter_places : Option (List (List ℕ)) → List Parameter → List ℕ
parameter_places names parameters = filter (λ p. is_asked names (id_at parameters p)) (range_with_len 0 (length parameters))

abbrev pub time_places : Option Times → List ℤ → List ℕ
time_places asked ts = filter (λ t. takes_time asked (Some (value_at ts t))) (range_with_len 0 (length ts))

abbrev pub level_places : Option Levels → Option (List ℤ) → List ℕ
level_places asked zs = filter (λ z. takes_level asked (level_at zs z)) (range_with_len 0 (axis_length zs))

-- the shape takes each time, level and place by itself
abbrev pub TakesEach : Shape → Type 0
TakesEach (at.Position geometry) = ⊤
TakesEach (at.Radius geometry within) = ⊤
TakesEach (at.Area geometry) = ⊤
TakesEach (at.Cube lo hi levels) = ⊤
TakesEach (at.Trajectory geometry) = ⊥
TakesEach (at.Corridor geometry width height) = ⊥
TakesEach (at.Location id) = ⊥

-- ---- for private clauses

-- the row and the column are the nearest to a point inside the box of the axes
abbrev pub is_nearest_place : List ℤ → List ℤ → ℕ → ℕ → Position → Bool
is_nearest_place ys xs y x p = is_along ys p.y && is_along xs p.x && is_nearest ys p.y (value_at ys y) && is_nearest xs p.x (value_at xs x)

-- the nodes of a plane are numbered row by row
abbrev pub row_of : List ℤ → ℕ → ℕ
row_of xs spot = row_of_number (length xs) spot

abbrev pub column_of : List ℤ → ℕ → ℕ
column_of xs spot = place_of_number (length xs) spot

-- the numbers of the nodes that are nearest to some points
abbrev pub spot_places : List ℤ → List ℤ → List Position → List ℕ
spot_places ys xs points = filter (λ spot. list_any (is_nearest_place ys xs (row_of xs spot) (column_of xs spot)) points) (range_with_len 0 (length ys * length xs))

-- where the node of a row and a column is
abbrev pub spot_at : InstanceValue → ℕ → ℕ → Spot
spot_at i y x = record { x = value_at i.xs x; y = value_at i.ys y }

-- the node is taken
abbrev pub takes_node : InstanceValue → Shape → ℕ → ℕ → Bool
takes_node i (at.Position geometry) y x = list_any (is_nearest_place i.ys i.xs y x) (positions_of geometry)
takes_node i (at.Radius geometry within) y x = list_any (λ p. in_disc (spot_at i y x) (plane.spot_of p) within) (positions_of geometry)
takes_node i (at.Area geometry) y x = in_areas geometry (spot_at i y x)
takes_node i (at.Cube lo hi levels) y x = in_box (spot_at i y x) lo hi
takes_node i other y x = false

-- the numbers of the nodes that are taken
abbrev pub spots_in : InstanceValue → Shape → List ℕ
spots_in i shape = filter (λ spot. takes_node i shape (row_of i.xs spot) (column_of i.xs spot)) (range_with_len 0 (length i.ys * length i.xs))

-- a number that was found is this one
abbrev pub is_number : Option ℕ → ℕ → Bool
is_number None other = false
is_number (Some number) other = number == other

-- the geometry of a position
abbrev pub IsPoints : Geometry → Type 0
IsPoints (Points multi has_z has_m positions) = ⊤
IsPoints (Line has_z has_m positions) = ⊥
IsPoints (Polygons multi has_z has_m polygons) = ⊥

-- what a query takes of an instance
pub record Chosen : Type 0 where
  pub parameters : List ℕ
  pub times : List ℕ
  pub levels : List ℕ
  pub spots : List ℕ

abbrev pub chosen : InstanceValue → QueryValue → Chosen
chosen i q = record {
  parameters = parameter_places q.parameters i.parameters;
  times = time_places q.times i.ts;
  levels = level_places (levels_asked q) i.zs;
  spots = spots_in i q.shape;
}

-- something of each is taken
pub record IsSome (c : Chosen) : Type 0 where
  pub parameters : c.parameters ≢ []
  pub times : c.times ≢ []
  pub levels : c.levels ≢ []
  pub spots : c.spots ≢ []

-- ---- the nodes of what is taken

abbrev pub node_of : List ℤ → ℕ → ℕ → ℕ → GridNode
node_of xs spot t z = record { t = t; z = z; y = row_of xs spot; x = column_of xs spot }

-- at one spot, each time and level in turn
abbrev pub cells_at : List ℤ → Chosen → ℕ → List GridNode
cells_at xs c spot = flat_map (λ t. map (node_of xs spot t) c.levels) c.times

-- at one time and level, each spot in turn
abbrev pub cells_along : List ℤ → Chosen → ℕ → ℕ → List GridNode
cells_along xs c t z = map (λ spot. node_of xs spot t z) c.spots

-- ---- their values

abbrev pub times_of : InstanceValue → Chosen → List ℤ
times_of i c = map (value_at i.ts) c.times

abbrev pub levels_of : InstanceValue → Chosen → Option (List ℤ)
levels_of i c = option_map (λ zs. map (value_at zs) c.levels) i.zs

-- y and x of a spot
abbrev pub spot_of : InstanceValue → ℕ → ℤ × ℤ
spot_of i spot = (value_at i.ys (row_of i.xs spot), value_at i.xs (column_of i.xs spot))
