use Rattle.edr_select.specs.StepLaws.{plan_over}
use Rattle.edr_lines.proofs.planning.reply_along_line.Goals as goal

pub returns-in_ok-stacking-in-Corridor-clause-planned : goal.returns-in_ok-stacking-in-Corridor-clause-planned
returns-in_ok-stacking-in-Corridor-clause-planned c = plan_over _ _ _ _ c.in_ok-stacking-in-Corridor.ensures.planned
