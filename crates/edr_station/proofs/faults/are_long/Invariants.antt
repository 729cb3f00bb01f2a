use Rattle.std.proofs.Common.{◌≡◌, All, take, length}
use Rattle.edr_station.specs.Stations.{values_along}
use Rattle.edr_station.specs.Inputs.{station_of}
use Rattle.edr_station.proofs.faults.are_long.Given as goal

abbrev pub invariant-loop-values : goal.invariant-loop-values
invariant-loop-values l = All (λ values. length values ≡ values_along (station_of l.input)) (take l.values-index l.series)
