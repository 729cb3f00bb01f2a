use Rattle.edr_select.proofs.DocumentLaws.{grid_documents_are_valid}
use Rattle.edr_select.proofs.laws.grid_documents_are_valid.Goals as goal

pub returns : goal.returns
returns c = grid_documents_are_valid
