use Rattle.std.proofs.Common.{◌≡◌, ◌++◌, take}
use Rattle.edr_geometry.specs.Masks.{row_of}
use Rattle.edr_select.proofs.mask_rows.add_each.Given as goal
use Rattle.edr_base.specs.Boxes.{in_box}

abbrev pub invariant-loop-x : goal.invariant-loop-x
invariant-loop-x l = l.bits.items ≡ l.fn.bits.items ++ row_of (λ p. in_box p l.row.lo l.row.hi) l.row.y (take l.x-index l.xs)
