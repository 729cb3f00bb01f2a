-- The feed that is made of a number: a grid, forty stations, and a publish.
use Rattle.std.specs.Prelude.{ℕ, ◌+◌, ◌*◌, ◌%◌, ◌==◌, if◌then◌else◌, ℤ, pos, codes, List, [], ◌∷◌, ◌++◌, map, None, Some}
use Rattle.std.specs.declared.option.Option.{Option}
use Rattle.std.specs.List.{flat_map, range_with_len}
use Rattle.edr_axes.specs.Instants.{pad2}
use Rattle.covjson_value.specs.declared.domains.Domain.{Domain}
use Rattle.covjson_value.specs.declared.domains.Domain.TheVariants.{Grid, PointSeries}
use Rattle.covjson_value.specs.declared.coverages.NdArray.{NdArray}
use Rattle.covjson_value.specs.declared.coverages.Coverage.{Coverage}
use Rattle.covjson_value.specs.Trees.{coverage_text}

-- ---- coverages

-- so many numbers, each a step above the one before
unfoldable pub spaced : ℕ → ℕ → ℕ → List ℤ
spaced first step count = map (λ n. pos (first + step * n)) (range_with_len 0 count)

-- 2024-01-01T00:00:00Z
abbrev pub first_time : ℕ
first_time = 1_704_067_200

-- a coverage of one parameter, whose label is its id, in the reference system `local`
abbrev pub coverage_over : Domain → List ℕ → List ℕ → List NdArray → Coverage
coverage_over domain id unit ranges = record {
  id = None;
  domain = domain;
  referencing = record { crs = codes "local"; vertical = None };
  parameters = record { id = id; lang = codes "en"; label = id; unit = Some unit } ∷ [];
  ranges = ranges;
}

-- ---- the grid

-- the value at a column of a row: none along each thirteenth diagonal
abbrev pub node_value : ℕ → ℕ → ℕ → Option ℤ
node_value number row column = if (column + row) % 13 == 0 then None else Some (pos ((number + column + 3 * row) % 10))

unfoldable pub row_values : ℕ → ℕ → ℕ → List (Option ℤ)
row_values number columns row = map (node_value number row) (range_with_len 0 columns)

unfoldable pub grid_values : ℕ → ℕ → ℕ → List (Option ℤ)
grid_values number rows columns = flat_map (row_values number columns) (range_with_len 0 rows)

-- 100 metres from row to row and from column to column, at one time
abbrev pub grid_domain : ℕ → ℕ → Domain
grid_domain rows columns = Grid (Some (pos first_time ∷ [])) None (spaced 0 100 rows) (spaced 0 100 columns)

abbrev pub grid_coverage : ℕ → ℕ → ℕ → Coverage
grid_coverage number rows columns = coverage_over (grid_domain rows columns) (codes "temp") (codes "Cel") (record { values = grid_values number rows columns } ∷ [])

-- ---- the stations

abbrev pub station_value : ℕ → ℕ → ℕ → Option ℤ
station_value number station time = Some (pos ((number + station + time) % 10))

unfoldable pub series_values : ℕ → ℕ → ℕ → List (Option ℤ)
series_values number times station = map (station_value number station) (range_with_len 0 times)

-- an hour from time to time
abbrev pub series_domain : ℕ → ℕ → Domain
series_domain times station = PointSeries (spaced first_time 3_600 times) None (pos (500 * station)) (pos (1_000 * station))

abbrev pub series_coverage : ℕ → ℕ → ℕ → Coverage
series_coverage number times station = coverage_over (series_domain times station) (codes "level") (codes "m") (record { values = series_values number times station } ∷ [])

-- `s07`
abbrev pub station_id : ℕ → List ℕ
station_id station = codes "s" ++ pad2 station

-- ---- lines

unfoldable pub grid_text : ℕ → ℕ → ℕ → List ℕ
grid_text number rows columns = coverage_text (grid_coverage number rows columns)

unfoldable pub series_text : ℕ → ℕ → ℕ → List ℕ
series_text number times station = coverage_text (series_coverage number times station)

abbrev pub collection_line : List ℕ → List ℕ → List ℕ
collection_line id kind = codes "{\"collection\":{\"crs\":\"local\",\"id\":\"" ++ id ++ codes "\",\"kind\":\"" ++ kind ++ codes "\",\"title\":\"" ++ id ++ codes "\"}}\n"

unfoldable pub grid_line : ℕ → ℕ → ℕ → List ℕ
grid_line number rows columns =
    codes "{\"grid\":{\"collection\":\"grid\",\"coverage\":" ++ grid_text number rows columns ++ codes ",\"instance\":\"1\"}}\n"

unfoldable pub station_line : ℕ → ℕ → ℕ → List ℕ
station_line number times station =
    codes "{\"station\":{\"collection\":\"sites\",\"coverage\":" ++ series_text number times station
    ++ (codes ",\"id\":\"" ++ station_id station ++ codes "\",\"label\":\"" ++ station_id station ++ codes "\"}}\n")

unfoldable pub station_lines : ℕ → ℕ → ℕ → List ℕ
station_lines number times stations = flat_map (station_line number times) (range_with_len 0 stations)

-- ---- the feed

-- how many rows and columns the grid has, how many stations there are, and how many times each has
abbrev pub made_rows : ℕ
made_rows = 500

abbrev pub made_columns : ℕ
made_columns = 1_040

abbrev pub made_stations : ℕ
made_stations = 40

abbrev pub made_times : ℕ
made_times = 300

-- its bytes
unfoldable pub made : ℕ → List ℕ
made number =
    collection_line (codes "grid") (codes "grid") ++ grid_line number made_rows made_columns
    ++ collection_line (codes "sites") (codes "station") ++ station_lines number made_times made_stations
    ++ codes "{\"publish\":{}}\n"
