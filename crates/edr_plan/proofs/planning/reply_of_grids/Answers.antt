use Rattle.edr_plan.proofs.GridReplies.{fault_in, reply_in}
use Rattle.edr_plan.proofs.planning.reply_of_grids.Goals as goal

pub returns-in_default : goal.returns-in_default
returns-in_default c = record {
  planned = reply_in _ _ _ c.requires.kind c.in_ok-instance.ensures.found c.reply_over_grid.result c.reply_over_grid.ensures.planned;
  refused = fault_in _ _ _ c.in_ok-instance.ensures.found c.reply_over_grid.result c.reply_over_grid.ensures.refused;
}

pub returns-in-Trajectory-clause-planned : goal.returns-in-Trajectory-clause-planned
returns-in-Trajectory-clause-planned c =
    reply_in _ _ _ c.requires.kind c.in_ok-instance.ensures.found c.reply_along_line.result c.reply_along_line.ensures.planned
