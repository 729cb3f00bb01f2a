use Rattle.edr_data_tests.proofs.chunks.samples_of.Given as goal
use Rattle.edr_base.specs.Limits.{AreSamples}

abbrev pub invariant-loop-word : goal.invariant-loop-word
invariant-loop-word l = AreSamples l.samples.items
