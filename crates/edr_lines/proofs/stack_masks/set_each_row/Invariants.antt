use Rattle.edr_lines.specs.Bits.{PlaneSet}
use Rattle.edr_lines.proofs.SetPlanes.{is_in_rows}
use Rattle.edr_lines.proofs.stack_masks.set_each_row.Given as goal

abbrev pub invariant-loop-row : goal.invariant-loop-row
invariant-loop-row l = PlaneSet l.sides (is_in_rows l.rectangle.rows.0 l.row l.rectangle.columns) l.fn.plane l.plane
