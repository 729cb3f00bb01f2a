use Rattle.std.specs.List.{All}
use Rattle.edr_base.specs.Limits.{IsCoordinate}
use Rattle.edr_ground_tests.proofs.words.coordinates.Given as goal

abbrev pub invariant-loop-word : goal.invariant-loop-word
invariant-loop-word l = All IsCoordinate l.numbers.items
