-- The blocks of stations: up to 256 values of one station and parameter, in the order t, z. They are numbered by station,
-- parameter and block, ascending from 0.
use Rattle.std.specs.Prelude.{◌≡◌, ℕ, ◌+◌, ◌*◌, ◌-◌, ◌/◌, ◌%◌, ◌<◌, min, ℤ, List, [], length, take, drop, Option, None, sum_by}
use Rattle.std.specs.List.{slice_index_or}
use Rattle.edr_station.specs.Stations.{StationValue, StationsValue, values_along, station_at}
use Rattle.edr_axes.specs.Axes.{axis_length}
use Rattle.edr_chunk.specs.RowMajor.{place_in_row}

-- how many values a block has at most
abbrev pub block_length : ℕ
block_length = 256

-- how many blocks hold so many values
abbrev pub blocks_along : ℕ → ℕ
blocks_along values = (values + (block_length - 1)) / block_length

-- how many blocks each parameter of a station has
abbrev pub blocks_of : StationValue → ℕ
blocks_of s = blocks_along (values_along s)

-- how many blocks stations of so many parameters have
abbrev pub blocks : ℕ → List StationValue → ℕ
blocks parameters stations = sum_by (λ s. parameters * blocks_of s) stations

-- the number of the first block of the station at a place: all blocks of the stations before it stand before it
abbrev pub first_block : StationsValue → ℕ → ℕ
first_block collection station = blocks collection.parameters (take station collection.stations)

-- a place: of a station, a parameter, a time and a level, each from 0; the level is 0 where the station has none
pub record StationPlace : Type 0 where
  pub station : ℕ
  pub parameter : ℕ
  pub time : ℕ
  pub level : ℕ

abbrev pub place_at : ℕ → ℕ → ℕ → ℕ → StationPlace
place_at station parameter time level = record { station = station; parameter = parameter; time = time; level = level }

-- the place lies among the stations, the parameters, and that station's times and levels
pub record Within (collection : StationsValue) (place : StationPlace) : Type 0 where
  pub station : place.station < length collection.stations
  pub parameter : place.parameter < collection.parameters
  pub time : place.time < length (station_at collection.stations place.station).ts
  pub level : place.level < axis_length (station_at collection.stations place.station).zs

-- where the value of a time and a level stands among those of a parameter
abbrev pub place_in_series : StationValue → ℕ → ℕ → ℕ
place_in_series s time level = place_in_row time (axis_length s.zs) level

-- the values of a parameter of a station
abbrev pub series_at : StationValue → ℕ → List (Option ℤ)
series_at s parameter = slice_index_or s.series parameter []

-- the value at a place
abbrev pub value : StationsValue → StationPlace → Option ℤ
value collection place =
    let s = station_at collection.stations place.station in
    slice_index_or (series_at s place.parameter) (place_in_series s place.time place.level) None

-- the number of a block of a parameter, where so many stand before those of the station, and each parameter has so many
abbrev pub block_number : ℕ → ℕ → ℕ → ℕ → ℕ
block_number before each parameter block = before + parameter * each + block

-- the number of a place's block
abbrev pub block_of : StationsValue → StationPlace → ℕ
block_of collection place =
    let s = station_at collection.stations place.station in
    block_number (first_block collection place.station) (blocks_of s) place.parameter (place_in_series s place.time place.level / block_length)

-- where a place's value stands in its block
abbrev pub place_in_block : StationsValue → StationPlace → ℕ
place_in_block collection place = place_in_series (station_at collection.stations place.station) place.time place.level % block_length

-- the values of a block of a parameter: as many as a block has, or what is left at the last one
abbrev pub cut_block : ℕ → List (Option ℤ) → List (Option ℤ)
cut_block block values = take block_length (drop (block * block_length) values)

-- what the block of a number is: it is one of some station and parameter, it has the values of its part of their series and
-- no more; so all places whose block it is lie in it, with the collection's values
pub record IsBlock (collection : StationsValue) (number : ℕ) (values : List (Option ℤ)) : Type 0 where
  pub station : ℕ
  pub parameter : ℕ
  pub block : ℕ
  pub station_in : station < length collection.stations
  pub parameter_in : parameter < collection.parameters
  pub block_in : block < blocks_of (station_at collection.stations station)
  pub numbered : block_number (first_block collection station) (blocks_of (station_at collection.stations station)) parameter block ≡ number
  pub long : length values ≡ min (values_along (station_at collection.stations station) - block * block_length) block_length
  pub cut : values ≡ cut_block block (series_at (station_at collection.stations station) parameter)
  pub lies : (place : StationPlace) → Within collection place → block_of collection place ≡ number → place_in_block collection place < length values
  pub same : (place : StationPlace) → Within collection place → block_of collection place ≡ number
      → slice_index_or values (place_in_block collection place) None ≡ value collection place
