use Rattle.edr_draft.proofs.OutcomeLaws.{one_outcome}
use Rattle.edr_draft.proofs.laws.changes_have_one_outcome.Goals as goal

pub returns : goal.returns
returns c = one_outcome
