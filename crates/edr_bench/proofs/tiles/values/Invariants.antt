use Rattle.std.proofs.Common.{◌≡◌, length}
use Rattle.edr_bench.proofs.tiles.values.Given as goal
use Rattle.edr_base.specs.Limits.{AreSamples}

abbrev pub invariant-loop-number : goal.invariant-loop-number
invariant-loop-number l = (length l.values.items ≡ l.number) × AreSamples l.values.items
