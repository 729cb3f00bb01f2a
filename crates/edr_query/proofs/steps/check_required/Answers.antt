use Rattle.std.proofs.Common.{sym, ◌∙◌, inl, inr, refl}
use Rattle.edr_query.proofs.StepLemmas.{all_required, one_missing}
use Rattle.edr_query.proofs.steps.check_required.Goals as goal

pub returns-then-has_required : goal.returns-then-has_required
returns-then-has_required c = all_required c.args.page c.args.parameters.now (sym c.has_required.ensures ∙ c.if-has_required.true)

pub returns-else-has_required : goal.returns-else-has_required
returns-else-has_required c = inr (refl, inl (one_missing c.args.page c.args.parameters.now (sym c.has_required.ensures ∙ c.if-has_required.false)))
