use Rattle.edr_axes.proofs.LevelsLemmas.{levels_unique}
use Rattle.edr_axes.proofs.levels.levels_are_unique.Goals as goal

pub returns : goal.returns
returns c = levels_unique
