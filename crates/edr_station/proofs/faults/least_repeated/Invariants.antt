use Rattle.edr_station.specs.Least.{IsRepeatAt, IsLeastPlace}
use Rattle.edr_station.specs.Seen.{AreSeen}
use Rattle.edr_station.proofs.faults.least_repeated.Given as goal

abbrev pub invariant-loop-place : goal.invariant-loop-place
invariant-loop-place l = IsLeastPlace l.inputs (IsRepeatAt l.inputs) l.place l.least × AreSeen l.seen l.inputs l.place
