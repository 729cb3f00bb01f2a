use Rattle.edr_plan.proofs.FoundPlans.{match_plan}
use Rattle.edr_plan.proofs.planning.plan_of.Goals as goal

pub returns : goal.returns
returns c = match_plan c.args.edition.now c.args.query c.found_plan.result c.found_plan.ensures.planned c.found_plan.ensures.refused
