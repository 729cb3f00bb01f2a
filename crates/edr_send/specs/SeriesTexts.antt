-- Replies over stations, what they are read from, and their text; for private clauses.
use Rattle.std.specs.Prelude.{◌≡◌, ℕ, ◌/◌, ◌%◌, ◌<◌, ◌≤◌, ◌^◌, ◌==◌, Bool, true, false, ℤ, List, [], length, All, Option, None, Some}
use Rattle.std.specs.List.{slice_index_or}
use Rattle.edr_station.specs.Stations.{StationValue, StationsValue, station_at}
use Rattle.edr_station.specs.Blocks.{block_length, blocks}
use Rattle.edr_edition.specs.Stores.{Held, of_grid, of_stations, stations_of}
use Rattle.edr_select.specs.Series.{StationSeriesValue, SeriesReplyValue, RiseApart, IsOfStation}

-- ---- stations

-- grids have no stations
abbrev pub no_stations : StationsValue
no_stations = record { parameters = 0; stations = [] }

abbrev pub collection_of : Held → StationsValue
collection_of (of_grid instance) = no_stations
collection_of (of_stations parameters stations) = stations_of parameters stations

-- how many blocks a collection has
abbrev pub blocks_in : StationsValue → ℕ
blocks_in collection = blocks collection.parameters collection.stations

-- the station of a coverage
abbrev pub station_of : StationsValue → StationSeriesValue → StationValue
station_of collection series = station_at collection.stations series.station

-- a coverage is read from a station of a collection whose blocks can be counted, and its cells rise
pub record IsOver (collection : StationsValue) (series : StationSeriesValue) : Type 0 where
  pub counted : blocks_in collection < 2 ^ 64
  pub station : IsOfStation collection series
  pub rise : RiseApart series.cells

-- a reply is read from such a collection
pub record IsReplyOver (collection : StationsValue) (reply : SeriesReplyValue) : Type 0 where
  pub counted : blocks_in collection < 2 ^ 64
  pub asked : All (λ parameter. parameter < collection.parameters) reply.parameters
  pub each : All (IsOfStation collection) reply.series

-- ---- runs

-- a cell goes on with a run that begins with another: one of the same block or one that isn't taken, and behind one that isn't, another such
abbrev pub goes_on : Option ℕ → Option ℕ → Bool
goes_on (Some first) (Some cell) = cell / block_length == first / block_length
goes_on (Some first) None = true
goes_on None (Some cell) = false
goes_on None None = true

abbrev pub IsRun : List (Option ℕ) → Type 0
IsRun cells = All (λ cell. goes_on (slice_index_or cells 0 None) cell ≡ true) cells

-- a cell that is taken behind a run is of a later block than each in it
abbrev pub BlocksApart : List (Option ℕ) → ℕ → ℕ → Type 0
BlocksApart cells from end = (k j one other : ℕ) → from ≤ k → k < end → end ≤ j → j < length cells
    → slice_index_or cells k None ≡ Some one → slice_index_or cells j None ≡ Some other → one / block_length < other / block_length

-- the value of a cell in its block, and none at none
abbrev pub picked_of : List (Option ℤ) → Option ℕ → Option ℤ
picked_of block None = None
picked_of block (Some cell) = slice_index_or block (cell % block_length) None
