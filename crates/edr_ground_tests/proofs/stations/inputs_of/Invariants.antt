use Rattle.std.specs.List.{All}
use Rattle.edr_station.specs.Inputs.{IsInput}
use Rattle.edr_ground_tests.proofs.stations.inputs_of.Given as goal

abbrev pub invariant-loop-text : goal.invariant-loop-text
invariant-loop-text l = All IsInput l.inputs.items
