use Rattle.covjson_read.proofs.DocumentLaws.{document_is_one}
use Rattle.covjson_read.proofs.laws.texts_have_one_document.Goals as goal

pub returns : goal.returns
returns c = document_is_one c.document_rows_have_one_answer.ensures c.document_rows_are_what_stands.ensures
