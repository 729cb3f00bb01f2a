use Rattle.edr_plan.proofs.DocumentLaws.{documents_are_valid}
use Rattle.edr_plan.proofs.laws.documents_are_valid.Goals as goal

pub returns : goal.returns
returns c = documents_are_valid c.grid_documents_are_valid.ensures c.line_documents_are_valid.ensures
