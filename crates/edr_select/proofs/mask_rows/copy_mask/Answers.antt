use Rattle.std.proofs.Common.{arith}
use Rattle.edr_select.proofs.MaskBits.{same_bits}
use Rattle.edr_select.proofs.mask_rows.copy_mask.Goals as goal

pub returns : goal.returns
returns c = same_bits c.loop-column.row c.args.mask.now c.loop-column.invariant.long (λ k l. c.loop-column.invariant.same k (omega (arith, l, c.loop-column.invariant.long)))
