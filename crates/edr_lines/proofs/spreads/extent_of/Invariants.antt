use Rattle.edr_lines.specs.Taken.{counts_of}
use Rattle.edr_lines.specs.Boxes.{MatchPlane, has_first}
use Rattle.edr_lines.proofs.spreads.extent_of.Given as goal

abbrev pub invariant-loop-number : goal.invariant-loop-number
invariant-loop-number l = MatchPlane (counts_of l.axes) (has_first l.taken l.number) l.extent
