use Rattle.edr_axes.proofs.InstantLemmas.{tells_time}
use Rattle.edr_axes.proofs.instants.texts_tell_times.Goals as goal

pub returns : goal.returns
returns c = tells_time
