use Rattle.edr_lines.proofs.SetPlanes.{all_columns}
use Rattle.edr_lines.proofs.stack_masks.set_rectangle.Goals as goal

pub set_rows-requires-clause-rows : goal.set_rows-requires-clause-rows
set_rows-requires-clause-rows c = record { low = c.requires.fits.low; ordered = c.requires.fits.ordered; high = c.requires.fits.high }

pub returns-then-are_all : goal.returns-then-are_all
returns-then-are_all c =
    let all = c.are_all.ensures c.if-are_all.true in
    all_columns c.args.sides.now c.args.rectangle.now c.args.plane.now c.set_rows.new.plane all.0 all.1 c.set_rows.ensures
