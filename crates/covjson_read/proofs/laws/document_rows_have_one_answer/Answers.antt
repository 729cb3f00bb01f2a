use Rattle.covjson_read.proofs.DocumentLaws.{CoverageLaws, document_one}
use Rattle.covjson_read.proofs.laws.document_rows_have_one_answer.Goals as goal

pub returns : goal.returns
returns c =
    let laws : CoverageLaws = record { one = c.coverage_rows_have_one_answer.ensures; follow = c.coverage_answers_follow_rows.ensures } in
    document_one c.texts_have_one_tree.ensures laws
