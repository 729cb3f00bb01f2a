use Rattle.edr_axes.proofs.InstantLemmas.{is_written}
use Rattle.edr_axes.proofs.instants.times_are_written.Goals as goal

pub returns : goal.returns
returns c = is_written
