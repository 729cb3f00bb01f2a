-- The domains that a selection gets (OGC 21-069r2, Domain objects): one coverage, or a collection of them.
use Rattle.std.specs.Prelude.{ℕ, ℤ, pos, int_le, Bool, true, false, ◌&&◌, if◌then◌else◌, List, [], ◌∷◌, map, Option, None, Some, option_map, unwrap_or}
use Rattle.std.specs.Ordering.{int_eq}
use Rattle.std.specs.List.{filter, list_any, flat_map}
use Rattle.edr_base.specs.declared.places.Position.{Position}
use Rattle.edr_wkt.specs.declared.geometry.Geometry.{Geometry}
use Rattle.edr_wkt.specs.declared.geometry.Geometry.TheVariants.{Points, Line, Polygons}
use Rattle.edr_wkt.specs.Wkt.{has_z_of}
use Rattle.covjson_value.specs.declared.domains.Domain.{Domain}
use Rattle.covjson_value.specs.declared.domains.Domain.TheVariants.{Grid, Point, PointSeries, VerticalProfile, MultiPoint, Trajectory}
use Rattle.covjson_value.specs.Samples.{Node, same_where_given}
use Rattle.edr_station.specs.Stations.{StationValue}
use Rattle.edr_edition.specs.Values.{InstanceValue}
use Rattle.edr_edition.specs.Stores.{Held, of_grid, of_stations}
use Rattle.edr_query.specs.declared.shapes.Shape.{Shape}
use Rattle.edr_query.specs.declared.shapes.Shape.TheVariants as at
use Rattle.edr_query.specs.Values.{QueryValue}
use Rattle.edr_select.specs.Samples.{Stored}
use Rattle.edr_select.specs.Wanted.{is_station}
use Rattle.edr_select.specs.Lines.{route_in}

-- a coverage without values: the station's id, where it is of a station, and the domain
pub record Head : Type 0 where
  pub id : Option (List ℕ)
  pub domain : Domain

-- one coverage, or a collection
pub data Heads : Type 0 where
  alone : Head → Heads
  together : List Head → Heads

abbrev pub without_id : Domain → Head
without_id domain = record { id = None; domain = domain }

-- ---- the values of an axis that occur in a selection

abbrev pub times_in : List Stored → List ℤ → List ℤ
times_in picks ts = filter (λ t. list_any (λ (s : Stored). same_where_given s.sample.at.t (Some t)) picks) ts

abbrev pub levels_in : List Stored → List ℤ → List ℤ
levels_in picks zs = filter (λ z. list_any (λ (s : Stored). same_where_given s.sample.at.z (Some z)) picks) zs

-- from the least to the greatest that occurs
abbrev pub spanned : (Stored → ℤ) → List Stored → List ℤ → List ℤ
spanned along picks values = filter (λ v. list_any (λ (s : Stored). int_le (along s) v) picks && list_any (λ (s : Stored). int_le v (along s)) picks) values

-- ---- places

-- y and x
abbrev pub Spot : Type 0
Spot = ℤ × ℤ

abbrev pub stands_at : Spot → Stored → Bool
stands_at spot s = int_eq s.sample.at.y spot.0 && int_eq s.sample.at.x spot.1

-- the places that occur, by ascending y, then x
abbrev pub spots_in : List Stored → List ℤ → List ℤ → List Spot
spots_in picks ys xs = filter (λ spot. list_any (stands_at spot) picks) (flat_map (λ y. map (λ x. (y, x)) xs) ys)

-- the domain of one place, by how many times and levels there are
abbrev pub domain_at : List ℤ → Option (List ℤ) → Spot → Domain
domain_at (t ∷ []) None spot = Point (Some t) None spot.0 spot.1
domain_at (t ∷ []) (Some (z ∷ [])) spot = Point (Some t) (Some z) spot.0 spot.1
domain_at (t ∷ []) (Some zs) spot = VerticalProfile (Some t) zs spot.0 spot.1
domain_at ts None spot = PointSeries ts None spot.0 spot.1
domain_at ts (Some (z ∷ [])) spot = PointSeries ts (Some z) spot.0 spot.1
domain_at ts (Some zs) spot = Grid (Some ts) (Some zs) (spot.0 ∷ []) (spot.1 ∷ [])

abbrev pub position_at : ℤ → Spot → Position
position_at z spot = record { x = spot.1; y = spot.0; z = z; m = pos 0 }

-- at one point there is one place
abbrev pub heads_at_point : List ℤ → Option (List ℤ) → List Spot → Heads
heads_at_point ts zs (spot ∷ []) = alone (without_id (domain_at ts zs spot))
heads_at_point ts zs spots = together []

-- at several points: one domain where each place has one value, else one domain for each place
abbrev pub heads_at_points : List ℤ → Option (List ℤ) → List Spot → Heads
heads_at_points (t ∷ []) None spots = alone (without_id (MultiPoint (Some t) false (map (position_at (pos 0)) spots)))
heads_at_points (t ∷ []) (Some (z ∷ [])) spots = alone (without_id (MultiPoint (Some t) true (map (position_at z) spots)))
heads_at_points ts zs spots = together (map (λ spot. without_id (domain_at ts zs spot)) spots)

abbrev pub heads_of_points : List ℤ → Option (List ℤ) → Geometry → List Spot → Heads
heads_of_points ts zs (Points false has_z has_m positions) spots = heads_at_point ts zs spots
heads_of_points ts zs (Points true has_z has_m positions) spots = heads_at_points ts zs spots
heads_of_points ts zs (Line has_z has_m positions) spots = together []
heads_of_points ts zs (Polygons multi has_z has_m polygons) spots = together []

-- ---- frames

-- all nodes between those that are selected, at the times and levels that occur
abbrev pub frame_of : InstanceValue → List Stored → Domain
frame_of i picks =
    Grid (Some (times_in picks i.ts)) (option_map (levels_in picks) i.zs) (spanned (λ s. s.sample.at.y) picks i.ys) (spanned (λ s. s.sample.at.x) picks i.xs)

-- ---- routes

-- a step at its time; one level for all of them, unless each has its own
abbrev pub step_at : Bool → Node → Position
step_at has_z n = record { x = n.x; y = n.y; z = if has_z then unwrap_or n.z (pos 0) else pos 0; m = unwrap_or n.t (pos 0) }

abbrev pub level_along : List Node → Option ℤ
level_along [] = None
level_along (n ∷ nodes) = n.z

abbrev pub trajectory_of : Bool → List Node → Domain
trajectory_of has_z steps = Trajectory (if has_z then None else level_along steps) has_z (map (step_at has_z) steps)

abbrev pub heads_of_route : Bool → List (List Node) → Heads
heads_of_route has_z (steps ∷ []) = alone (without_id (trajectory_of has_z steps))
heads_of_route has_z lists = together (map (λ steps. without_id (trajectory_of has_z steps)) lists)

-- ---- stations

-- the selected samples of a station
abbrev pub of_station : List ℕ → List Stored → List Stored
of_station id picks = filter (λ (s : Stored). is_station id s.station) picks

abbrev pub head_of_station : List Stored → StationValue → Head
head_of_station picks station = record {
  id = Some station.id;
  domain = domain_at (times_in (of_station station.id picks) station.ts) (option_map (levels_in (of_station station.id picks)) station.zs) (station.y, station.x);
}

abbrev pub is_some_stored : List Stored → Bool
is_some_stored [] = false
is_some_stored (s ∷ picks) = true

-- the stations with a selected sample, by their ids
abbrev pub heads_of_stations : List StationValue → List Stored → List Head
heads_of_stations stations picks = map (head_of_station picks) (filter (λ (station : StationValue). is_some_stored (of_station station.id picks)) stations)

abbrev pub first_alone : List Head → Heads
first_alone (head ∷ []) = alone head
first_alone heads = together heads

-- ---- by the kind of query

abbrev pub heads_on_grid : InstanceValue → QueryValue → Shape → List Stored → Heads
heads_on_grid i q (at.Position geometry) picks = heads_of_points (times_in picks i.ts) (option_map (levels_in picks) i.zs) geometry (spots_in picks i.ys i.xs)
heads_on_grid i q (at.Radius geometry within) picks = alone (without_id (frame_of i picks))
heads_on_grid i q (at.Area geometry) picks = alone (without_id (frame_of i picks))
heads_on_grid i q (at.Cube lo hi levels) picks = alone (without_id (frame_of i picks))
heads_on_grid i q (at.Trajectory line) picks = heads_of_route (has_z_of line) (route_in (of_grid i) q line)
heads_on_grid i q (at.Corridor line width height) picks = alone (without_id (frame_of i picks))
heads_on_grid i q (at.Location id) picks = together []

abbrev pub heads_on_stations : List StationValue → Shape → List Stored → Heads
heads_on_stations stations (at.Location id) picks = first_alone (heads_of_stations stations picks)
heads_on_stations stations other picks = together (heads_of_stations stations picks)

-- the heads of the reply to a query, by what it selects
abbrev pub heads_of : Held → QueryValue → List Stored → Heads
heads_of (of_grid i) q picks = heads_on_grid i q q.shape picks
heads_of (of_stations parameters stations) q picks = heads_on_stations stations q.shape picks
