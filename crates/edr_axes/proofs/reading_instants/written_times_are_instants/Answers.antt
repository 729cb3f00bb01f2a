use Rattle.edr_axes.proofs.InstantWholes.{written_instant}
use Rattle.edr_axes.proofs.reading_instants.written_times_are_instants.Goals as goal

pub returns : goal.returns
returns c = written_instant
