use Rattle.covjson_read.proofs.DocumentLaws.{document_stands}
use Rattle.covjson_read.proofs.laws.document_rows_are_what_stands.Goals as goal

pub returns : goal.returns
returns c = document_stands c.coverage_rows_are_what_stands.ensures
