use Rattle.edr_lines.specs.Boxes.{SetAsked}
use Rattle.edr_lines.proofs.spreads.set_asked.Given as goal

abbrev pub invariant-loop-place : goal.invariant-loop-place
invariant-loop-place l = SetAsked l.asked (l.fn.range.0, l.place) l.fn.set l.set
