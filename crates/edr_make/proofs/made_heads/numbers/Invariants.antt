use Rattle.std.proofs.Common.{◌≡◌}
use Rattle.edr_make.specs.Made.{spaced}
use Rattle.edr_make.proofs.made_heads.numbers.Given as goal

abbrev pub invariant-loop-n : goal.invariant-loop-n
invariant-loop-n l = l.numbers.items ≡ spaced l.first l.step l.n
