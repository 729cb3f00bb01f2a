use Rattle.std.proofs.Common.{subst, sym}
use Rattle.edr_select.specs.Stacks.{SidesValue}
use Rattle.edr_lines.specs.Bits.{PlaneSet, RowsFit, is_among_rows}
use Rattle.edr_lines.proofs.SetPlanes.{rows_set, as_full}
use Rattle.edr_lines.proofs.stack_masks.set_rows.Goals as goal

pub returns : goal.returns
returns c =
    let in_ = c.sides.inside in
    let sides : SidesValue = record { times = in_.times; levels = in_.levels; row = in_.row; rows = in_.rows; column = in_.column; columns = in_.columns } in
    let fits : RowsFit sides c.args.rows = subst (λ (s : SidesValue). RowsFit s c.args.rows) (sym c.sides.view_is) c.requires.rows in
    subst (λ (s : SidesValue). PlaneSet s (is_among_rows c.args.rows) c.args.plane.now c.set_range.new.values) c.sides.view_is
    (rows_set sides c.args.rows fits c.args.plane.now c.set_range.new.values (as_full sides c.args.sides.now c.sides.view_is c.args.plane.now c.requires.full) c.set_range.ensures)
