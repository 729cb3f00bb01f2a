-- For private clauses: the samples of stations by their places: of a station, a parameter, a time and a level; and what a query takes of a station.
use Rattle.std.specs.Prelude.{⊤, ◌≡◌, ℕ, ◌<◌, ◌/◌, Bool, true, false, bytes_eq, ◌&&◌, if◌then◌else◌, List, length, map, All, Contains, Option, None, Some}
use Rattle.std.specs.List.{filter, flat_map, list_any, range_with_len, slice_index_or}
use Rattle.edr_base.specs.declared.places.Spot.{Spot}
use Rattle.edr_axes.specs.Axes.{value_at, axis_length}
use Rattle.covjson_value.specs.declared.coverages.Parameter.{Parameter}
use Rattle.covjson_value.specs.Samples.{node}
use Rattle.edr_station.specs.Stations.{StationValue, station_at}
use Rattle.edr_station.specs.Blocks.{block_length, blocks_of, first_block, series_at, place_in_series, block_number}
use Rattle.edr_edition.specs.Stores.{stations_of}
use Rattle.edr_edition.specs.Values.{CollectionValue}
use Rattle.edr_query.specs.declared.shapes.Shape.{Shape}
use Rattle.edr_query.specs.declared.shapes.Shape.TheVariants as at
use Rattle.edr_query.specs.Values.{QueryValue}
use Rattle.edr_select.specs.Samples.{Stored, id_at}
use Rattle.edr_select.specs.Wanted.{takes_time, takes_level, levels_asked}
use Rattle.edr_select.specs.Selections.{takes}
use Rattle.edr_select.specs.Checks.{stations_in}
use Rattle.edr_select.specs.Listings.{NumbersRise}
use Rattle.edr_corridor.specs.Boxes.{level_at}
use Rattle.edr_select.specs.Masks.{takes_spot}

-- ---- samples

-- where the value of a time and a level stands among those of a parameter
abbrev pub cell_of : StationValue → ℕ → ℕ → ℕ
cell_of s t z = place_in_series s t z

-- the sample of a station at a parameter, a time and a level; `first` is the number of the station's first block
abbrev pub stored_of : List Parameter → StationValue → ℕ → ℕ → ℕ → ℕ → Stored
stored_of ps s first p t z = record {
  sample = record {
    parameter = id_at ps p;
    at = node (Some (value_at s.ts t)) (level_at s.zs z) s.y s.x;
    value = slice_index_or (series_at s p) (cell_of s t z) None;
  };
  station = Some s.id;
  chunk = block_number first (blocks_of s) p (cell_of s t z / block_length);
}

-- the sample at the places of a station, a parameter, a time and a level
abbrev pub stored_in : List Parameter → List StationValue → ℕ → ℕ → ℕ → ℕ → Stored
stored_in ps ss k p t z = stored_of ps (station_at ss k) (first_block (stations_of ps ss) k) p t z

-- ---- what shapes take

-- the shape is answered of stations
abbrev pub IsAmongStations : Shape → Type 0
IsAmongStations (at.Position geometry) = ⊥
IsAmongStations (at.Trajectory geometry) = ⊥
IsAmongStations other = ⊤

-- the shape takes stations by their place or their id
abbrev pub IsOfStations : Shape → Type 0
IsOfStations (at.Position geometry) = ⊥
IsOfStations (at.Radius geometry within) = ⊤
IsOfStations (at.Area geometry) = ⊤
IsOfStations (at.Cube lo hi levels) = ⊤
IsOfStations (at.Trajectory geometry) = ⊥
IsOfStations (at.Corridor geometry width height) = ⊥
IsOfStations (at.Location id) = ⊤

-- where a station is
abbrev pub spot_of : StationValue → Spot
spot_of s = record { x = s.x; y = s.y }

-- the station is taken
abbrev pub takes_station : Shape → StationValue → Bool
takes_station (at.Position geometry) s = false
takes_station (at.Radius geometry within) s = takes_spot (at.Radius geometry within) (spot_of s)
takes_station (at.Area geometry) s = takes_spot (at.Area geometry) (spot_of s)
takes_station (at.Cube lo hi levels) s = takes_spot (at.Cube lo hi levels) (spot_of s)
takes_station (at.Trajectory geometry) s = false
takes_station (at.Corridor geometry width height) s = false
takes_station (at.Location id) s = bytes_eq id s.id

-- ---- what passes of a station

-- a test of a station's times and levels, by their places
abbrev pub Test : Type 0
Test = ℕ → ℕ → Bool

-- some sample of a time, some of a level, and some of all passes
abbrev pub has_time : StationValue → Test → ℕ → Bool
has_time s passes t = list_any (λ z. passes t z) (range_with_len 0 (axis_length s.zs))

abbrev pub has_level : StationValue → Test → ℕ → Bool
has_level s passes z = list_any (λ t. passes t z) (range_with_len 0 (length s.ts))

abbrev pub has_some : StationValue → Test → Bool
has_some s passes = list_any (has_time s passes) (range_with_len 0 (length s.ts))

-- some times and levels, by their places
pub record ChoiceValue : Type 0 where
  pub times : List ℕ
  pub levels : List ℕ

-- those that occur in what passes
abbrev pub choice_by : StationValue → Test → ChoiceValue
choice_by s passes = record {
  times = filter (has_time s passes) (range_with_len 0 (length s.ts));
  levels = filter (has_level s passes) (range_with_len 0 (axis_length s.zs));
}

-- the place of a sample among the station's values, or none where it isn't taken
abbrev pub cell_if : Bool → ℕ → Option ℕ
cell_if taken cell = if taken then Some cell else None

-- those of these times and levels, in the order t, z
abbrev pub cells_by : StationValue → Test → List (Option ℕ)
cells_by s passes = flat_map (λ t. map (λ z. cell_if (passes t z) (cell_of s t z)) (choice_by s passes).levels) (choice_by s passes).times

-- ---- what a query takes

-- the sample of the station at a place at a time and a level is taken
abbrev pub takes_at : CollectionValue → QueryValue → ℕ → Test
takes_at c q k t z = takes (stations_in c) q q.shape (stored_in c.parameters c.stations k 0 t z)

-- something is taken of the station at a place
abbrev pub is_taken : CollectionValue → QueryValue → ℕ → Bool
is_taken c q k = has_some (station_at c.stations k) (takes_at c q k)

-- a shape that takes stations by their place or their id takes each time and level by itself
abbrev pub takes_each : QueryValue → StationValue → Test
takes_each q s t z = takes_time q.times (Some (value_at s.ts t)) && (takes_level (levels_asked q) (level_at s.zs z) && takes_station q.shape s)

-- ---- places of stations

-- some places rise, and have each place of a station that passes
pub record HasAll (stations : List StationValue) (passes : ℕ → Bool) (places : List ℕ) : Type 0 where
  pub below : All (λ k. k < length stations) places
  pub rise : NumbersRise places
  pub has : (k : ℕ) → k < length stations → passes k ≡ true → Contains places k
