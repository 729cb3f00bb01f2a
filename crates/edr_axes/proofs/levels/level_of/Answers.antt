use Rattle.edr_axes.proofs.LevelTexts.{level_none}
use Rattle.edr_axes.proofs.levels.level_of.Goals as goal

pub returns-in_default : goal.returns-in_default
returns-in_default c = level_none c.args.text.now c.whole_number.result c.in_default.not-Value c.whole_number.ensures
