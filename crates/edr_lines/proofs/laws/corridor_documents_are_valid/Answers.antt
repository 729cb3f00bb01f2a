use Rattle.edr_lines.proofs.CorridorValid.{corridor_documents_are_valid}
use Rattle.edr_lines.proofs.laws.corridor_documents_are_valid.Goals as goal

pub returns : goal.returns
returns c = corridor_documents_are_valid c.corridors_are_cut.ensures
