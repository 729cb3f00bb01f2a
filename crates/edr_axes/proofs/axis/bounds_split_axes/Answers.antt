use Rattle.edr_axes.specs.AxisLaws.{bounds_split_axes}
use Rattle.edr_axes.proofs.axis.bounds_split_axes.Goals as goal

pub returns : goal.returns
returns c = bounds_split_axes
