use Rattle.edr_axes.proofs.TimesLemmas.{times_unique}
use Rattle.edr_axes.proofs.times.times_are_unique.Goals as goal

pub returns : goal.returns
returns c = times_unique
