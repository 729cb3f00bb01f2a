-- Trees of pages as lists: for private clauses.
use Rattle.std.specs.Prelude.{◌≡◌, ◌+◌, ◌^◌, ◌<◌, List, [], ◌++◌, length}
use Rattle.std.specs.Arc.{arc_value}
use Rattle.edr_station.specs.declared.shelves.Top.{Top}
use Rattle.edr_station.specs.declared.shelves.Top.TheVariants.{Nothing, Stations, Sides}
use Rattle.edr_station.specs.Stations.{StationValue}
use Rattle.edr_station.specs.Shelves.{blocks_in}

-- the stations of one side, and those behind them
abbrev pub all_in : Top → List StationValue
all_in Nothing = []
all_in (Stations page) = arc_value page
all_in (Sides fork) = (arc_value fork).before ++ (arc_value fork).behind

-- each fork knows how many stations and blocks it has, and has some on each side
abbrev pub IsCounted : Top → Type 0
IsCounted Nothing = Unit {0}
IsCounted (Stations page) = Unit {0}
IsCounted (Sides fork) =
    ((arc_value fork).len ≡ length (arc_value fork).before + length (arc_value fork).behind)
    × ((arc_value fork).blocks ≡ blocks_in (arc_value fork).before + blocks_in (arc_value fork).behind)
    × (0 < length (arc_value fork).before) × (0 < length (arc_value fork).behind)
    × ((arc_value fork).len < 2 ^ 64) × ((arc_value fork).blocks < 2 ^ 64)
