use Rattle.std.proofs.Common.{◌≡◌, length}
use Rattle.edr_data_tests.proofs.chunks.samples_from.Given as goal
use Rattle.edr_base.specs.Limits.{AreSamples}

abbrev pub invariant-loop-number : goal.invariant-loop-number
invariant-loop-number l = AreSamples l.samples.items × (length l.samples.items ≡ l.number)
