use Rattle.std.specs.List.{All}
use Rattle.edr_axes.specs.Instants.{IsTime}
use Rattle.edr_base.specs.Limits.{IsCoordinate}
use Rattle.edr_ground_tests.proofs.station_words.steps.Given as goal

abbrev pub invariant-loop-place : goal.invariant-loop-place
invariant-loop-place l = All IsTime l.values.items × All IsCoordinate l.values.items
