-- Which refusal an edition gives, and in which order.
use Rattle.std.proofs.Common.{◌≡◌, ℕ, pos, codes, List, [], ◌∷◌, refl, Some, None}
use Rattle.edr_base.specs.declared.refusals.Refusal.TheVariants.{UnknownCollection, UnknownInstance, UnknownLocation, QueryNotOffered, UnknownParameterName, BadCrs, NoLevels}
use Rattle.edr_chunk.specs.AllPlaces.{places}
use Rattle.edr_station.specs.Stations.{StationValue}
use Rattle.edr_edition.specs.Values.{InstanceValue, CollectionValue, EditionValue}
use Rattle.edr_edition.specs.Stores.{of_grid, of_stations, subject_of}
use Rattle.edr_query.specs.declared.pages.Page.TheVariants.{Locations, Instances, Ask}
use Rattle.edr_query.specs.declared.shapes.Shape.TheVariants as shape
use Rattle.edr_query.specs.Values.{QueryValue}
use Rattle.edr_select.specs.Refusals.{refused}
use Rattle.edr_select.specs.Checks.{refused_query}
use Rattle.edr_select.proofs.RowData.{has, t0, at, spot, point, line, temp, grids, sites, edition, flat, asking, ask}

abbrev alpha : StationValue
alpha = record { id = codes "A"; label = codes "Alpha"; x = pos 0; y = pos 0; ts = t0 ∷ []; zs = None; series = (has 1 ∷ []) ∷ [] }

-- a collection of grids and one of stations
abbrev full : EditionValue
full = edition (grids (flat ∷ []) ∷ sites (alpha ∷ []) ∷ [])

-- the same collections without data
abbrev bare : EditionValue
bare = edition (grids [] ∷ sites [] ∷ [])

abbrev at_station : List ℕ → List ℕ → QueryValue
at_station collection id = asking collection (shape.Location id) None None

abbrev at_point : List ℕ → QueryValue
at_point collection = asking collection (shape.Position (point (at 0 0))) None None

abbrev with_instance : QueryValue → QueryValue
with_instance q = record q { instance = Some (codes "2") }

abbrev with_crs : QueryValue → QueryValue
with_crs q = record q { crs = Some (codes "other") }

abbrev with_name : QueryValue → QueryValue
with_name q = record q { parameters = Some (codes "temp" ∷ codes "wind" ∷ []) }

-- ---- what isn't there

unknown_collection : refused full (Ask (at_point (codes "none"))) ≡ Some UnknownCollection
unknown_collection = refl

unknown_instance : refused full (Ask (with_instance (at_point (codes "grid")))) ≡ Some UnknownInstance
unknown_instance = refl

no_instance : refused bare (Ask (at_point (codes "grid"))) ≡ Some UnknownInstance
no_instance = refl

unknown_station : refused full (Ask (at_station (codes "sites") (codes "C"))) ≡ Some UnknownLocation
unknown_station = refl

no_station : refused bare (Ask (at_station (codes "sites") (codes "A"))) ≡ Some UnknownLocation
no_station = refl

-- ---- what a kind of collection doesn't offer

station_of_a_grid : refused full (Ask (at_station (codes "grid") (codes "A"))) ≡ Some QueryNotOffered
station_of_a_grid = refl

-- a grid without instances lacks the instance first
station_of_no_grid : refused bare (Ask (at_station (codes "grid") (codes "A"))) ≡ Some UnknownInstance
station_of_no_grid = refl

page_of_stations : refused full (Locations (codes "grid")) ≡ Some QueryNotOffered
page_of_stations = refl

position_of_stations : refused full (Ask (at_point (codes "sites"))) ≡ Some QueryNotOffered
position_of_stations = refl

trajectory_of_stations : refused full (Ask (asking (codes "sites") (shape.Trajectory (line (at 0 0 ∷ at 0 0 ∷ []))) None None)) ≡ Some QueryNotOffered
trajectory_of_stations = refl

instance_of_stations : refused full (Ask (with_instance (at_station (codes "sites") (codes "A")))) ≡ Some QueryNotOffered
instance_of_stations = refl

-- a station that isn't there comes before an instance that isn't offered
station_before_instance : refused full (Ask (with_instance (at_station (codes "sites") (codes "C")))) ≡ Some UnknownLocation
station_before_instance = refl

instances_of_stations : refused full (Instances (codes "sites")) ≡ Some QueryNotOffered
instances_of_stations = refl

-- ---- names, systems and data, in this order

name_before_system : refused full (Ask (with_crs (with_name (at_point (codes "grid"))))) ≡ Some UnknownParameterName
name_before_system = refl

system_of_a_position : refused full (Ask (with_crs (at_point (codes "grid")))) ≡ Some BadCrs
system_of_a_position = refl

position_is_answered : refused full (Ask (at_point (codes "grid"))) ≡ None
unfolding places
position_is_answered = refl

trajectory_is_answered : refused full (Ask (asking (codes "grid") (shape.Trajectory (line (at 0 0 ∷ at 0 0 ∷ []))) None None)) ≡ None
unfolding places
trajectory_is_answered = refl

-- LINESTRING(0 0,0 0), of no width
abbrev along_no_way : List ℕ → QueryValue
along_no_way collection = asking collection (shape.Corridor (line (at 0 0 ∷ at 0 0 ∷ [])) (pos 0) None) None None

corridor_is_answered : refused full (Ask (along_no_way (codes "grid"))) ≡ None
unfolding places
corridor_is_answered = refl

corridor_of_stations_is_answered : refused full (Ask (along_no_way (codes "sites"))) ≡ None
corridor_of_stations_is_answered = refl

-- ---- the same of data, once a query is offered

unknown_name : refused_query (sites (alpha ∷ [])) (with_crs (with_name (at_station (codes "sites") (codes "A")))) ≡ Some UnknownParameterName
unknown_name = refl

other_system : refused_query (sites (alpha ∷ [])) (with_crs (at_station (codes "sites") (codes "A"))) ≡ Some BadCrs
other_system = refl

name_of_no_station : refused_query (sites []) (with_name (asking (codes "sites") (shape.Radius (point (at 0 0)) (pos 0)) None None)) ≡ Some UnknownParameterName
name_of_no_station = refl

system_before_levels : refused_query (grids (flat ∷ [])) (with_crs (ask (shape.Cube (spot 1 1) (spot 2 2) (Some (pos 0, pos 0))) None None)) ≡ Some BadCrs
system_before_levels = refl

levels_before_samples : refused_query (grids (flat ∷ [])) (ask (shape.Cube (spot 1 1) (spot 2 2) (Some (pos 0, pos 0))) None None) ≡ Some NoLevels
unfolding places
levels_before_samples = refl

none_applies : refused_query (sites (alpha ∷ [])) (at_station (codes "sites") (codes "A")) ≡ None
none_applies = refl

-- ---- what is found

-- a later instance of the same collection
abbrev later : InstanceValue
later = record flat { id = codes "2" }

abbrev both : CollectionValue
both = grids (flat ∷ later ∷ [])

newest_instance : subject_of (edition (both ∷ [])) (codes "grid") None ≡ Some (record { collection = both; held = of_grid later })
newest_instance = refl

named_instance : subject_of (edition (both ∷ [])) (codes "grid") (Some (codes "1")) ≡ Some (record { collection = both; held = of_grid flat })
named_instance = refl

stations : subject_of full (codes "sites") None ≡ Some (record { collection = sites (alpha ∷ []); held = of_stations (temp ∷ []) (alpha ∷ []) })
stations = refl
