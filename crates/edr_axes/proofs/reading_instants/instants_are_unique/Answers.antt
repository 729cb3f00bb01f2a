use Rattle.edr_axes.proofs.InstantWholes.{instant_unique}
use Rattle.edr_axes.proofs.reading_instants.instants_are_unique.Goals as goal

pub returns : goal.returns
returns c = instant_unique
