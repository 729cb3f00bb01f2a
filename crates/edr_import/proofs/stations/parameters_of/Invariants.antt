use Rattle.std.proofs.Common.{◌≡◌, map, take}
use Rattle.edr_import.specs.Tables.{labelled}
use Rattle.edr_import.proofs.stations.parameters_of.Given as goal

abbrev pub invariant-loop-place : goal.invariant-loop-place
invariant-loop-place l = l.parameters.items ≡ map labelled (take l.place l.names)
