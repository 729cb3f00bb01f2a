use Rattle.std.proofs.Common.{◌≡◌, take}
use Rattle.edr_select.specs.Planned.{parameters_at}
use Rattle.edr_select.proofs.heads.parameters_at.Given as goal

abbrev pub invariant-loop-place : goal.invariant-loop-place
invariant-loop-place l = l.copies.items ≡ parameters_at l.parameters (take l.place-index l.places)
