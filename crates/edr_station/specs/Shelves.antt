-- Lists of stations in trees of pages: for private clauses.
use Rattle.std.specs.Prelude.{◌≡◌, ℕ, ◌+◌, ◌<◌, ◌≤◌, List, ◌++◌, length, map, take, drop, sum_by, Option}
use Rattle.std.specs.Option.{option_to_list}
use Rattle.std.specs.List.{slice_index_or}
use Rattle.std.specs.Arc.{arc_value}
use Rattle.std.specs.declared.sync.Arc.{Arc}
use Rattle.std.specs.declared.alloc.Global.{Global}
use Rattle.edr_station.specs.Stations.{StationValue}
use Rattle.edr_station.specs.Blocks.{blocks_of}

-- the stations of shared ones
abbrev pub stations_of : List (Arc StationValue Global) → List StationValue
stations_of shared = map (λ (s : Arc StationValue Global). arc_value s) shared

-- how many blocks stations have for each parameter
abbrev pub blocks_in : List StationValue → ℕ
blocks_in stations = sum_by blocks_of stations

-- a list with another item or none in place of those from one place up to another
abbrev pub splice : {T : Type 0} → ℕ → ℕ → Option T → List T → List T
splice place end put items = take place items ++ (option_to_list put ++ drop end items)

-- the station that has the block of a number, where each parameter's are numbered alone; so many stand before it
pub record IsFound (stations : List StationValue) (number place before : ℕ) : Type 0 where
  pub inside : place < length stations
  pub stand_before : before ≡ blocks_in (take place stations)
  pub begun : before ≤ number
  pub ends : (d : StationValue) → number < before + blocks_of (slice_index_or stations place d)
