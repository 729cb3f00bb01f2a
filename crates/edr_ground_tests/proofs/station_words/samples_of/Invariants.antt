use Rattle.edr_ground_tests.proofs.station_words.samples_of.Given as goal
use Rattle.edr_base.specs.Limits.{AreSamples}

abbrev pub invariant-loop-place : goal.invariant-loop-place
invariant-loop-place l = AreSamples l.samples.items
