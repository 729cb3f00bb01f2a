-- What a line selects: along a corridor, and at the vertices of a trajectory (OGC 19-086r6, section 8).
use Rattle.std.specs.Prelude.{ℤ, Bool, true, false, ◌&&◌, if◌then◌else◌, List, [], ◌∷◌, map, Option, None, Some, unwrap_or}
use Rattle.std.specs.List.{filter, find, flat_map}
use Rattle.edr_base.specs.declared.places.Position.{Position}
use Rattle.edr_axes.specs.declared.levels.Levels.{Levels}
use Rattle.edr_axes.specs.declared.levels.Levels.TheVariants as levels
use Rattle.edr_wkt.specs.declared.geometry.Geometry.{Geometry}
use Rattle.edr_wkt.specs.Geometries.{line_of}
use Rattle.edr_wkt.specs.Wkt.{has_z_of, has_m_of}
use Rattle.edr_corridor.specs.Values.{SegmentsValue}
use Rattle.edr_corridor.specs.Segments as segments
use Rattle.edr_edition.specs.Values.{InstanceValue}
use Rattle.edr_edition.specs.Stores.{Held, of_grid, of_stations}
use Rattle.covjson_value.specs.Samples.{Node, node, same_node}
use Rattle.edr_query.specs.Values.{QueryValue}
use Rattle.edr_select.specs.Wanted.{takes_time, takes_level, is_along, is_nearest, spot_at}

-- ---- corridors: one and the same segment takes time, level and place

-- the single level that is asked, where a height goes about it
abbrev pub single_level : Option Levels → Option ℤ → Option ℤ
single_level (Some (levels.At only)) (Some height) = Some only
single_level asked height = None

-- the segments of the line, and what is asked of each of them
abbrev pub segments_of : QueryValue → Geometry → ℤ → Option ℤ → SegmentsValue
segments_of q line width height = record {
  line = line_of line;
  has_z = has_z_of line;
  has_m = has_m_of line;
  width = width;
  level = single_level q.levels height;
  height = height;
}

abbrev pub in_corridor : QueryValue → Geometry → ℤ → Option ℤ → Node → Bool
in_corridor q line width height n =
    segments.in_corridor (segments_of q line width height) (takes_time q.times n.t) (takes_level q.levels n.z) n.t n.z (spot_at n)

-- ---- trajectories: lists of nodes

-- the nearest value of an axis
abbrev pub nearest : List ℤ → ℤ → ℤ
nearest values c = unwrap_or (find (is_nearest values c) values) c

-- where a vertex has the coordinate, it lies along the axis
abbrev pub is_along_if : Bool → Option (List ℤ) → ℤ → Bool
is_along_if false axis c = true
is_along_if true None c = false
is_along_if true (Some values) c = is_along values c

-- where a vertex has the coordinate, the nearest value to it, and else that of the turn
abbrev pub nearest_if : Bool → Option (List ℤ) → ℤ → Option ℤ → Option ℤ
nearest_if true (Some values) c turn = Some (nearest values c)
nearest_if true None c turn = turn
nearest_if false axis c turn = turn

-- the vertex is inside the axes
abbrev pub is_inside : InstanceValue → Bool → Bool → Position → Bool
is_inside i has_z has_m v = is_along i.ys v.y && (is_along i.xs v.x && (is_along_if has_m (Some i.ts) v.m && is_along_if has_z i.zs v.z))

-- the node of a vertex, in a turn of time and level
abbrev pub step_of : InstanceValue → Bool → Bool → Option ℤ → Option ℤ → Position → Node
step_of i has_z has_m t z v = node (nearest_if has_m (Some i.ts) v.m t) (nearest_if has_z i.zs v.z z) (nearest i.ys v.y) (nearest i.xs v.x)

-- of equal neighbours one
abbrev pub without_repeats : List Node → List Node
without_repeats [] = []
without_repeats (n ∷ []) = n ∷ []
without_repeats (n ∷ (m ∷ nodes)) = if same_node n m then without_repeats (m ∷ nodes) else n ∷ without_repeats (m ∷ nodes)

-- the turns: one where each vertex has the coordinate or there is no axis, else one for each value that is taken
abbrev pub turns : Bool → Option (List ℤ) → (ℤ → Bool) → List (Option ℤ)
turns true axis taken = None ∷ []
turns false None taken = None ∷ []
turns false (Some values) taken = map Some (filter taken values)

abbrev pub is_some_node : List Node → Bool
is_some_node [] = false
is_some_node (n ∷ nodes) = true

-- the list of nodes of each turn, time first and then level, without empty lists
abbrev pub route_over : InstanceValue → QueryValue → Bool → Bool → List Position → List (List Node)
route_over i q has_z has_m vertices =
    filter is_some_node
    (flat_map (λ t. map (λ z. without_repeats (map (step_of i has_z has_m t z) (filter (is_inside i has_z has_m) vertices)))
    (turns has_z i.zs (λ l. takes_level q.levels (Some l))))
    (turns has_m (Some i.ts) (λ t. takes_time q.times (Some t))))

abbrev pub route_in : Held → QueryValue → Geometry → List (List Node)
route_in (of_grid i) q line = route_over i q (has_z_of line) (has_m_of line) (line_of line)
route_in (of_stations parameters stations) q line = []
