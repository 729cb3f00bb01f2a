use Rattle.std.proofs.Common.{◌∙◌, sym}
use Rattle.edr_select.proofs.PlanSteps.{known_levels}
use Rattle.edr_select.proofs.steps.refused_asking.Goals as goal

pub returns-clause-kept : goal.returns-clause-kept
returns-clause-kept c =
    known_levels c.args.collection.now c.args.query.now c.args.instance.now c.requires
    (sym c.has_other_crs.ensures ∙ c.if-has_other_crs.false) (sym c.lacks_levels.ensures ∙ c.if-lacks_levels.false)
