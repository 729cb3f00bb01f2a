use Rattle.edr_axes.specs.AxisLaws.{nearest_is_there, nearest_is_one}
use Rattle.edr_axes.proofs.axis.nearest_is_one.Goals as goal

pub returns : goal.returns
returns c = record { there = nearest_is_there; one = nearest_is_one }
