use Rattle.edr_select.proofs.TimeChoices.{all_times}
use Rattle.edr_select.proofs.Vectors.{items_equal}
use Rattle.edr_select.proofs.chosen_times.times_taken.Goals as goal

pub returns-in-None : goal.returns-in-None
returns-in-None c = items_equal c.numbers_between.result _ _ (all_times c.args.times.now c.args.axis.now c.len.result c.in-None.is c.len.ensures.0) c.numbers_between.ensures
