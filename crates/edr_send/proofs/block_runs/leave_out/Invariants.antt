use Rattle.std.proofs.Common.{◌≡◌, take}
use Rattle.std.specs.Prelude.{map, None}
use Rattle.edr_send.proofs.block_runs.leave_out.Given as goal

abbrev pub invariant-loop : goal.invariant-loop
invariant-loop l = l.values.items ≡ map (λ cell. None) (take l.index l.cells)
