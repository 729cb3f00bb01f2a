use Rattle.edr_select.specs.StepLaws.{plan_over}
use Rattle.edr_select.proofs.planning.reply_over_grid.Goals as goal

pub returns-in_ok-framing-in_default : goal.returns-in_ok-framing-in_default
returns-in_ok-framing-in_default c = record { planned = plan_over _ _ _ _ c.in_ok-framing-in_default.ensures.framing; refused = tt }
