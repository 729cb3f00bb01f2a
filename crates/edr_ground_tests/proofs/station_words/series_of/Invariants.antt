use Rattle.std.specs.List.{All}
use Rattle.edr_ground_tests.proofs.station_words.series_of.Given as goal
use Rattle.edr_base.specs.Limits.{AreSamples}

abbrev pub invariant-loop-length : goal.invariant-loop-length
invariant-loop-length l = All AreSamples l.series.items
