use Rattle.std.proofs.Common.{◌≡◌, ◌++◌, false, get_or, take, map}
use Rattle.edr_select.proofs.mask_rows.add_across.Given as goal

abbrev pub invariant-loop-mask : goal.invariant-loop-mask
invariant-loop-mask l = l.bits.items ≡ l.fn.bits.items ++ map (λ mask. get_or mask l.y false) (take l.mask-index l.tall)
