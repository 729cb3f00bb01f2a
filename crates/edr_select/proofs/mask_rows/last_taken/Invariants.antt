use Rattle.std.proofs.Common.{◌≤◌, length}
use Rattle.edr_geometry.specs.Masks.{NoneSet}
use Rattle.edr_select.proofs.mask_rows.last_taken.Given as goal

abbrev pub invariant-columns : goal.invariant-columns
invariant-columns l = (l.left ≤ length l.bits) × NoneSet l.bits l.left (length l.bits)

abbrev pub decreases-columns : goal.decreases-columns
decreases-columns l = l.left
