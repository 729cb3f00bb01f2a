use Rattle.edr_select.proofs.LevelChoices.{none_asked}
use Rattle.edr_select.proofs.Vectors.{items_equal}
use Rattle.edr_select.proofs.chosen_levels.levels_taken.Goals as goal

pub returns-in-None-Some : goal.returns-in-None-Some
returns-in-None-Some c =
    rw (c.in-None-Some.is-0, c.in-None-Some.is-1) (items_equal c.numbers_between.result _ _ (none_asked c.in-None-Some.axis.now c.len.result c.len.ensures.0) c.numbers_between.ensures)
