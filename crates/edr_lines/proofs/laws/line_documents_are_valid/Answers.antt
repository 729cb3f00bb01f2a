use Rattle.edr_lines.proofs.LineDocuments.{line_documents_are_valid}
use Rattle.edr_lines.proofs.laws.line_documents_are_valid.Goals as goal

pub returns : goal.returns
returns c = line_documents_are_valid c.corridor_documents_are_valid.ensures
