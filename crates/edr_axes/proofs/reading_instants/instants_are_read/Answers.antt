use Rattle.edr_axes.proofs.ComputedInstants.{instants_read}
use Rattle.edr_axes.proofs.reading_instants.instants_are_read.Goals as goal

pub returns : goal.returns
returns c = instants_read
