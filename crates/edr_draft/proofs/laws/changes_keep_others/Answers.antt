use Rattle.edr_draft.proofs.OutcomeLaws.{keeps_others}
use Rattle.edr_draft.proofs.laws.changes_keep_others.Goals as goal

pub returns : goal.returns
returns c = keeps_others c.items_are_by_id.ensures
