use Rattle.covjson_write.specs.PieceLaws.{document_parts}
use Rattle.covjson_write.proofs.laws.document_of_pieces.Goals as goal

pub returns : goal.returns
returns c = document_parts
