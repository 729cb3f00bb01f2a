use Rattle.std.proofs.Common.{Ok, Err}
use Rattle.covjson_value.specs.declared.coverages.Document.{Document}
use Rattle.covjson_read.specs.Standing.{StandsForDocument}
use Rattle.covjson_read.specs.Rows.{DocumentRows}
use Rattle.covjson_read.proofs.DocumentLaws.{CoverageLaws, text_follows}
use Rattle.covjson_read.proofs.ResultLaws.{document_given, text_fault_given}
use Rattle.covjson_read.proofs.documents.read_document.Goals as goal

pub returns-clause-stands : goal.returns-clause-stands
returns-clause-stands c =
    let text = c.args.bytes.now in
    let laws : CoverageLaws = record { one = c.coverage_rows_have_one_answer.ensures; follow = c.coverage_answers_follow_rows.ensures } in
    document_given text c.answer_of.result (StandsForDocument text) (λ d answers. (c.document_rows_are_what_stands.ensures text d).0 (text_follows laws text (Ok d) answers)) c.answer_of.ensures.answer

pub returns-clause-none : goal.returns-clause-none
returns-clause-none c =
    let text = c.args.bytes.now in
    let laws : CoverageLaws = record { one = c.coverage_rows_have_one_answer.ensures; follow = c.coverage_answers_follow_rows.ensures } in
    text_fault_given text c.answer_of.result (λ f. (d : Document) → ¬ (StandsForDocument text d))
    (λ f answers d stands.
    let e = c.document_rows_have_one_answer.ensures text (Err f) (Ok d) (text_follows laws text (Err f) answers) ((c.document_rows_are_what_stands.ensures text d).1 stands) in
    cc) c.answer_of.ensures.answer

pub returns-clause-first_fault : goal.returns-clause-first_fault
returns-clause-first_fault c =
    let text = c.args.bytes.now in
    let laws : CoverageLaws = record { one = c.coverage_rows_have_one_answer.ensures; follow = c.coverage_answers_follow_rows.ensures } in
    text_fault_given text c.answer_of.result (λ f. DocumentRows text (Err f)) (λ f answers. text_follows laws text (Err f) answers) c.answer_of.ensures.answer
