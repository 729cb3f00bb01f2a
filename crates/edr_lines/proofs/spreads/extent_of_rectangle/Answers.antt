use Rattle.edr_lines.specs.Taken.{counts_of}
use Rattle.edr_lines.proofs.RectangleNodes.{rectangle_extent}
use Rattle.edr_lines.proofs.spreads.extent_of_rectangle.Goals as goal

pub returns : goal.returns
returns c = rectangle_extent (counts_of c.args.axes.now) c.args.rectangle.now c.requires
