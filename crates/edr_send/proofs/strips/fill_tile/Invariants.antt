use Rattle.edr_send.proofs.StripValues.{RowsFilled}
use Rattle.edr_send.proofs.strips.fill_tile.Given as goal

abbrev pub invariant-loop-y : goal.invariant-loop-y
invariant-loop-y l = RowsFilled l.tile l.frame l.from l.y l.left l.right l.fn.values l.values
