use Rattle.edr_station.specs.Least.{IsMiscountedAt, IsLeastPlace}
use Rattle.edr_station.proofs.faults.least_miscounted.Given as goal

abbrev pub invariant-loop-place : goal.invariant-loop-place
invariant-loop-place l = IsLeastPlace l.inputs (IsMiscountedAt l.parameters l.inputs) l.place l.least
