use Rattle.std.proofs.Common.{◌≡◌, ◌<◌, ◌≤◌, ℕ, subst, arith}
use Rattle.edr_lines.specs.Bits.{PlaneSet, RowFits}
use Rattle.edr_lines.proofs.SetPlanes.{is_in_rows, no_rows_set, row_more}
use Rattle.edr_lines.proofs.stack_masks.set_each_row.Goals as goal

pub loop-row-init : goal.loop-row-init
loop-row-init c = no_rows_set c.args.sides.now c.args.rectangle.now.columns c.args.rectangle.now.rows.0 c.args.plane.now

pub set_row-requires-clause-row : goal.set_row-requires-clause-row
set_row-requires-clause-row c = record {
  low = omega (arith, c.requires.fits.low, c.loop-row.auto.row);
  high = omega (arith, c.requires.fits.high, c.loop-row-test.true);
}

pub loop-row-preserved : goal.loop-row-preserved
loop-row-preserved c =
    row_more c.args.sides.now c.args.rectangle.now.columns c.args.rectangle.now.rows.0 c.loop-row.row c.args.plane.now c.loop-row.plane c.set_row.new.plane c.loop-row.auto.row
    c.loop-row.invariant c.set_row.ensures

pub returns : goal.returns
returns c =
    let rectangle = c.args.rectangle.now in
    let end : c.loop-row.row ≡ rectangle.rows.1 = omega (arith, c.requires.fits.ordered) in
    subst (λ (k : ℕ). PlaneSet c.args.sides.now (is_in_rows rectangle.rows.0 k rectangle.columns) c.args.plane.now c.loop-row.plane) end c.loop-row.invariant
