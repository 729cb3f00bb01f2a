use Rattle.edr_geometry.specs.Masks.{NoneSet}
use Rattle.edr_select.proofs.mask_rows.first_taken.Given as goal

abbrev pub invariant-loop-column : goal.invariant-loop-column
invariant-loop-column l = NoneSet l.bits 0 l.column
