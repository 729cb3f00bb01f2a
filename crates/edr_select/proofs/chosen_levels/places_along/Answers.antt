use Rattle.edr_select.proofs.LevelChoices.{all_levels}
use Rattle.edr_select.proofs.Vectors.{items_equal}
use Rattle.edr_select.proofs.chosen_levels.places_along.Goals as goal

pub returns-in-All : goal.returns-in-All
returns-in-All c = items_equal c.numbers_between.result _ _ (all_levels c.args.levels.now c.args.axis.now c.len.result c.in-All.is c.len.ensures.0) c.numbers_between.ensures
