use Rattle.edr_lines.specs.Taken.{counts_of}
use Rattle.edr_lines.specs.Corridors.{takes_first}
use Rattle.edr_lines.specs.Boxes.{IsSpreadOf}
use Rattle.edr_lines.proofs.stacks_taken.sides_within.Given as goal

abbrev pub invariant-loop-number : goal.invariant-loop-number
invariant-loop-number l = IsSpreadOf (counts_of l.axes) (takes_first l.corridor l.axes l.number) l.spread
