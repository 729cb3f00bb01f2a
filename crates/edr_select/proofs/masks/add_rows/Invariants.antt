use Rattle.edr_select.specs.Masks.{IsMaskBefore}
use Rattle.edr_select.proofs.masks.add_rows.Given as goal

abbrev pub invariant-loop-y : goal.invariant-loop-y
invariant-loop-y l = IsMaskBefore l.instance l.shape l.columns l.y l.mask
