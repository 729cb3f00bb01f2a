-- The samples of a grid or of stations: one flat list.
use Rattle.std.specs.Prelude.{ℕ, ◌+◌, ◌*◌, ◌/◌, ◌++◌, ◌==◌, length, ℤ, List, [], ◌∷◌, map, Option, None, Some, option_map}
use Rattle.std.specs.List.{slice_index_or, filter, flat_map, list_any, range_with_len}
use Rattle.edr_axes.specs.Axes.{value_at}
use Rattle.covjson_value.specs.declared.coverages.Parameter.{Parameter}
use Rattle.covjson_value.specs.Coverages.{ids_of}
use Rattle.covjson_value.specs.Samples.{Node, node, Sample, values_or_absent}
use Rattle.edr_chunk.specs.declared.shapes.GridPlace.{GridPlace}
use Rattle.edr_chunk.specs.AllPlaces.{places}
use Rattle.edr_chunk.specs.Grids.{value}
use Rattle.edr_chunk.specs.Tiles.{tiles, tile_of}
use Rattle.edr_station.specs.Stations.{StationValue}
use Rattle.edr_station.specs.Blocks.{block_length, blocks_of, blocks}
use Rattle.edr_edition.specs.Values.{InstanceValue}
use Rattle.edr_edition.specs.Stores.{Held, of_grid, of_stations, Subject}

-- a sample as it is stored: of a grid, or of the station of an id, and in a chunk, which has a number
pub record Stored : Type 0 where
  pub sample : Sample
  pub station : Option (List ℕ)
  pub chunk : ℕ

-- ---- grids, whose chunks are tiles

-- the id of the parameter at a place
abbrev pub id_at : List Parameter → ℕ → List ℕ
id_at parameters place = slice_index_or (ids_of parameters) place []

-- the time, level, y and x at a place
abbrev pub node_at : InstanceValue → GridPlace → Node
node_at i place =
    node (Some (value_at i.ts place.t)) (option_map (λ zs. value_at zs place.z) i.zs) (value_at i.ys place.y) (value_at i.xs place.x)

abbrev pub stored_at : InstanceValue → GridPlace → Stored
stored_at i place = record {
  sample = record { parameter = id_at i.parameters place.parameter; at = node_at i place; value = value i.grid place };
  station = None;
  chunk = tile_of i.grid.shape place;
}

-- all samples of a grid, in the order parameter, t, z, y, x
abbrev pub grid_samples : InstanceValue → List Stored
grid_samples i = map (stored_at i) (places i.grid.shape)

-- ---- stations, whose chunks are blocks

-- the times and levels of a station at its place, in the order t, z
abbrev pub station_nodes : StationValue → List Node
station_nodes s = flat_map (λ t. map (λ z. node (Some t) z s.y s.x) (values_or_absent s.zs)) s.ts

-- the samples of a parameter of a station, from one on; `first` is the number of the parameter's first block
abbrev pub series_samples : StationValue → List ℕ → ℕ → ℕ → List Node → List (Option ℤ) → List Stored
series_samples s parameter first place [] values = []
series_samples s parameter first place (n ∷ nodes) [] = []
series_samples s parameter first place (n ∷ nodes) (v ∷ values) =
    record { sample = record { parameter = parameter; at = n; value = v }; station = Some s.id; chunk = first + place / block_length }
    ∷ series_samples s parameter first (place + 1) nodes values

abbrev pub samples_of_station : StationValue → ℕ → List Parameter → List (List (Option ℤ)) → List Stored
samples_of_station s first [] series = []
samples_of_station s first (p ∷ parameters) [] = []
samples_of_station s first (p ∷ parameters) (values ∷ series) =
    series_samples s p.id first 0 (station_nodes s) values ++ samples_of_station s (first + blocks_of s) parameters series

-- all samples of stations, in the order station, parameter, t, z; `first` is the number of the first block
abbrev pub samples_of_stations : List Parameter → ℕ → List StationValue → List Stored
samples_of_stations parameters first [] = []
samples_of_stations parameters first (s ∷ stations) =
    samples_of_station s first parameters s.series ++ samples_of_stations parameters (first + length parameters * blocks_of s) stations

-- ---- what a query is about

abbrev pub samples_of : Held → List Stored
samples_of (of_grid i) = grid_samples i
samples_of (of_stations parameters stations) = samples_of_stations parameters 0 stations

-- all samples of a subject
abbrev pub samples_in : Subject → List Stored
samples_in subject = samples_of subject.held

abbrev pub parameters_in : Held → List Parameter
parameters_in (of_grid i) = i.parameters
parameters_in (of_stations parameters stations) = parameters

-- how many chunks there are, numbered from 0
abbrev pub chunks_in : Held → ℕ
chunks_in (of_grid i) = tiles i.grid.shape
chunks_in (of_stations parameters stations) = blocks (length parameters) stations

-- of the numbers below a count those that are among some: ascending, each once
abbrev pub ascending_once : ℕ → List ℕ → List ℕ
ascending_once count numbers = filter (λ k. list_any (λ n. n == k) numbers) (range_with_len 0 count)
