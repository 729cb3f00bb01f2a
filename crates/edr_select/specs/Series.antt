-- Coverages of stations, whose values are read from places of their series, or from none.
use Rattle.std.specs.Prelude.{◌≡◌, ℕ, ◌+◌, ◌-◌, ◌/◌, ◌<◌, ◌≤◌, Bool, false, ℤ, List, [], length, map, All, Option, None, Some, option_to_list}
use Rattle.std.specs.List.{flat_map, slice_index_or}
use Rattle.covjson_value.specs.declared.coverages.NdArray.{NdArray}
use Rattle.covjson_value.specs.declared.coverages.Coverage.{Coverage}
use Rattle.covjson_value.specs.declared.coverages.Document.{Document}
use Rattle.covjson_value.specs.Domains.{count_of}
use Rattle.covjson_write.specs.Writers.{IsHead, with_ranges}
use Rattle.edr_station.specs.Stations.{StationValue, StationsValue, values_along, station_at}
use Rattle.edr_station.specs.Blocks.{block_length, blocks_of, first_block, series_at, block_number}
use Rattle.edr_select.specs.Listings.{document_of, NumbersRise}

-- a coverage of the reply: all of it but its ranges, the place of its station, the number of the station's first block and how
-- many each parameter has, and for each value of a range its place among the station's values of a parameter, in the order t, z,
-- or none where it isn't taken
pub record StationSeriesValue : Type 0 where
  pub head : Coverage
  pub station : ℕ
  pub first : ℕ
  pub blocks : ℕ
  pub cells : List (Option ℕ)

pub record SeriesReplyValue : Type 0 where
  pub parameters : List ℕ  -- the places of the parameters that are asked
  pub many : Bool  -- whether the reply is a collection
  pub series : List StationSeriesValue

-- ---- the document that it gives over stations

-- the value at a place among a station's values of a parameter, and none at no place
abbrev pub series_value : StationValue → ℕ → Option ℕ → Option ℤ
series_value s parameter None = None
series_value s parameter (Some cell) = slice_index_or (series_at s parameter) cell None

abbrev pub series_range : StationValue → List (Option ℕ) → ℕ → NdArray
series_range s cells parameter = record { values = map (series_value s parameter) cells }

abbrev pub series_coverage : List StationValue → List ℕ → StationSeriesValue → Coverage
series_coverage stations parameters series = with_ranges series.head (map (series_range (station_at stations series.station) series.cells) parameters)

abbrev pub series_document : List StationValue → SeriesReplyValue → Option Document
series_document stations reply = document_of reply.many (map (series_coverage stations reply.parameters) reply.series)

-- ---- the blocks of the values that are taken, in the order of the text

-- the places that are taken
abbrev pub cells_taken : List (Option ℕ) → List ℕ
cells_taken cells = flat_map option_to_list cells

abbrev pub block_at : StationSeriesValue → ℕ → ℕ → ℕ
block_at series parameter cell = block_number series.first series.blocks parameter (cell / block_length)

abbrev pub blocks_of_range : StationSeriesValue → ℕ → List ℕ
blocks_of_range series parameter = map (block_at series parameter) (cells_taken series.cells)

abbrev pub blocks_of_coverage : List ℕ → StationSeriesValue → List ℕ
blocks_of_coverage parameters series = flat_map (blocks_of_range series) parameters

abbrev pub blocks_of_series : List ℕ → List StationSeriesValue → List ℕ
blocks_of_series parameters series = flat_map (blocks_of_coverage parameters) series

abbrev pub reply_blocks : SeriesReplyValue → List ℕ
reply_blocks reply = blocks_of_series reply.parameters reply.series

-- ---- every such reply

abbrev pub place_of : StationSeriesValue → ℕ
place_of series = series.station

-- the places rise, by one at least for each cell, be it taken or not
abbrev pub RiseApart : List (Option ℕ) → Type 0
RiseApart cells = (i j one other : ℕ) → i < j → j < length cells → slice_index_or cells i None ≡ Some one → slice_index_or cells j None ≡ Some other → one + (j - i) ≤ other

-- a coverage that is planned for some parameters: all but its ranges is valid, it has none of these, and it has a place or none
-- for each value
pub record IsSeries (parameters : List ℕ) (series : StationSeriesValue) : Type 0 where
  pub head : IsHead series.head
  pub bare : series.head.ranges ≡ []
  pub as_many : length series.head.parameters ≡ length parameters
  pub count : count_of series.head.domain ≡ length series.cells
  pub rise : RiseApart series.cells

-- a reply that isn't a collection has one coverage
pub record IsSeriesReply (reply : SeriesReplyValue) : Type 0 where
  pub parameters : NumbersRise reply.parameters
  pub series : All (IsSeries reply.parameters) reply.series
  pub rise : NumbersRise (map place_of reply.series)
  pub alone : reply.many ≡ false → length reply.series ≡ 1

-- a coverage is of a station of a collection: its blocks are that station's, and its cells stand among its values
pub record IsOfStation (collection : StationsValue) (series : StationSeriesValue) : Type 0 where
  pub station : series.station < length collection.stations
  pub first : series.first ≡ first_block collection series.station
  pub blocks : series.blocks ≡ blocks_of (station_at collection.stations series.station)
  pub cells : All (λ cell. cell < values_along (station_at collection.stations series.station)) (cells_taken series.cells)
