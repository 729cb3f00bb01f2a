use Rattle.edr_send.proofs.StripValues.{RowFilled}
use Rattle.edr_send.proofs.strips.fill_taken.Given as goal

abbrev pub invariant-loop-x : goal.invariant-loop-x
invariant-loop-x l = RowFilled l.tile l.frame l.y l.left l.x l.first l.fn.values l.values
