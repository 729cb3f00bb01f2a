use Rattle.std.proofs.Common.{◌≡◌, ◌++◌, List}
use Rattle.edr_station.specs.declared.inputs.StationInput.{StationInput}
use Rattle.edr_station.specs.Inputs.{AreOf}
use Rattle.edr_station.proofs.stations.stations_of.Given as goal

abbrev pub invariant-loop-input : goal.invariant-loop-input
invariant-loop-input l =
    (l.stations.parameters ≡ l.parameters) × ((done : List StationInput) × (done ++ l.input-iterator.rest.items ≡ l.fn.inputs.items) × AreOf done l.stations.stations)
