use Rattle.std.proofs.Common.{◌≡◌, []}
use Rattle.edr_select.specs.Masks.{NoneIn}
use Rattle.edr_select.proofs.masks.first_row.Given as goal

abbrev pub invariant-loop-y : goal.invariant-loop-y
invariant-loop-y l = record { none : NoneIn l.instance l.shape 0 l.y; empty : l.bits.items ≡ [] }
