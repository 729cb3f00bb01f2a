-- Which times, levels and places a query selects (OGC 19-086r6, section 8).
use Rattle.std.specs.Prelude.{ℕ, ℤ, pos, negsuc, ◌+ℤ◌, ◌*ℤ◌, int_lt, int_le, nat_lt, nat_le, Bool, true, false, not, ◌&&◌, ◌||◌, bytes_eq, List, ◌∷◌, Option, None, Some}
use Rattle.std.specs.Ordering.{int_eq}
use Rattle.std.specs.List.{list_any, list_all, range_with_len}
use Rattle.std.specs.Option.{option_or}
use Rattle.edr_base.specs.declared.places.Position.{Position}
use Rattle.edr_base.specs.declared.places.Spot.{Spot}
use Rattle.edr_base.specs.Boxes.{is_between, in_box}
use Rattle.edr_axes.specs.declared.times.Times.{Times}
use Rattle.edr_axes.specs.declared.times.Times.TheVariants as times
use Rattle.edr_axes.specs.declared.levels.Levels.{Levels}
use Rattle.edr_axes.specs.declared.levels.Levels.TheVariants as levels
use Rattle.edr_axes.specs.Axes.{distance}
use Rattle.edr_wkt.specs.declared.geometry.Geometry.{Geometry}
use Rattle.edr_wkt.specs.declared.geometry.Geometry.TheVariants.{Points, Line, Polygons}
use Rattle.edr_wkt.specs.Geometries.{positions_of}
use Rattle.edr_wkt.specs.Wkt.{has_z_of}
use Rattle.edr_geometry.specs.Planar.{spot_of, in_polygons, in_disc}
use Rattle.covjson_value.specs.Samples.{Node}
use Rattle.edr_edition.specs.Stores.{Held, of_grid, of_stations}
use Rattle.edr_query.specs.declared.shapes.Shape.{Shape}
use Rattle.edr_query.specs.declared.shapes.Shape.TheVariants as at
use Rattle.edr_query.specs.Values.{QueryValue}
use Rattle.edr_select.specs.Samples.{Stored}

-- ---- times

abbrev pub is_from : Option ℤ → ℤ → Bool
is_from None time = true
is_from (Some first) time = int_le first time

abbrev pub is_until : Option ℤ → ℤ → Bool
is_until None time = true
is_until (Some last) time = int_le time last

abbrev pub has_time : Times → ℤ → Bool
has_time times.All time = true
has_time (times.At only) time = int_eq time only
has_time (times.Between first last) time = is_from first time && is_until last time

-- a time is taken where no times are asked, or those have it
abbrev pub takes_time : Option Times → Option ℤ → Bool
takes_time None time = true
takes_time (Some asked) None = false
takes_time (Some asked) (Some time) = has_time asked time

-- ---- levels

-- a number as a count: none where it is negative
abbrev pub count_of : ℤ → ℕ
count_of (pos n) = n
count_of (negsuc n) = 0

abbrev pub has_level : Levels → ℤ → Bool
has_level levels.All level = true
has_level (levels.At only) level = int_eq level only
has_level (levels.Between low high) level = is_between low high level
has_level (levels.List these) level = list_any (int_eq level) these
has_level (levels.Series n first step) level = list_any (λ k. int_eq level (first +ℤ pos k *ℤ step)) (range_with_len 0 (count_of n))

-- a level is taken where no levels are asked, or those have it
abbrev pub takes_level : Option Levels → Option ℤ → Bool
takes_level None level = true
takes_level (Some asked) None = false
takes_level (Some asked) (Some level) = has_level asked level

-- the single level of a point with z
abbrev pub level_of : Bool → List Position → Option Levels
level_of true (position ∷ positions) = Some (levels.At position.z)
level_of has_z positions = None

-- the levels that a shape asks for: a point's z, or those of a box
abbrev pub levels_of : Shape → Option Levels
levels_of (at.Position geometry) = level_of (has_z_of geometry) (positions_of geometry)
levels_of (at.Radius geometry within) = level_of (has_z_of geometry) (positions_of geometry)
levels_of (at.Cube lo hi (Some (low, high))) = Some (levels.Between low high)
levels_of other = None

-- the levels that a query asks for, by `z` or by its shape; no query asks in both ways
abbrev pub levels_asked : QueryValue → Option Levels
levels_asked q = option_or q.levels (levels_of q.shape)

-- ---- places

-- the sample is of the station of an id
abbrev pub is_station : List ℕ → Option (List ℕ) → Bool
is_station id None = false
is_station id (Some other) = bytes_eq id other

-- from the least to the greatest value of an axis, both included
abbrev pub is_along : List ℤ → ℤ → Bool
is_along values c = list_any (λ v. int_le v c) values && list_any (λ v. int_le c v) values

-- no value is less far from c, and no lower value is equally far
abbrev pub is_nearest : List ℤ → ℤ → ℤ → Bool
is_nearest values c value =
    list_all (λ other. nat_le (distance value c) (distance other c) && (not (int_lt other value) || nat_lt (distance value c) (distance other c))) values

-- the node is the nearest to a point inside the box of the axes
abbrev pub is_nearest_node : List ℤ → List ℤ → Node → Position → Bool
is_nearest_node ys xs n p = is_along ys p.y && is_along xs p.x && is_nearest ys p.y n.y && is_nearest xs p.x n.x

abbrev pub in_areas : Geometry → Spot → Bool
in_areas (Points multi has_z has_m positions) spot = false
in_areas (Line has_z has_m positions) spot = false
in_areas (Polygons multi has_z has_m polygons) spot = in_polygons spot polygons

abbrev pub spot_at : Node → Spot
spot_at n = record { x = n.x; y = n.y }

-- a shape takes the place of a sample; a line takes times, levels and places together, and has its own rules
abbrev pub takes_place : Held → Shape → Stored → Bool
takes_place (of_grid i) (at.Position geometry) s = list_any (is_nearest_node i.ys i.xs s.sample.at) (positions_of geometry)
takes_place (of_stations parameters stations) (at.Position geometry) s = false
takes_place held (at.Radius geometry within) s = list_any (λ p. in_disc (spot_at s.sample.at) (spot_of p) within) (positions_of geometry)
takes_place held (at.Area geometry) s = in_areas geometry (spot_at s.sample.at)
takes_place held (at.Cube lo hi levels) s = in_box (spot_at s.sample.at) lo hi
takes_place held (at.Trajectory geometry) s = false
takes_place held (at.Corridor geometry width height) s = false
takes_place held (at.Location id) s = is_station id s.station
