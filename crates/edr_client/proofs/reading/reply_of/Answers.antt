use Rattle.std.proofs.lemmas.Result.{err_from_is_err_and}
use Rattle.edr_client.proofs.ReplyLaws.{cov_answers}
use Rattle.edr_client.proofs.reading.reply_of.Goals as goal

pub returns-in_err-document-clause-answers : goal.returns-in_err-document-clause-answers
returns-in_err-document-clause-answers c =
    let none = rw c.bytes.ensures at c.in_err-document.ensures.none in
    let rows = rw c.bytes.ensures at c.in_err-document.ensures.first_fault in
    let p = err_from_is_err_and c.from_residual-in_err-document.result c.from_residual-in_err-document.ensures.1 in
    rw p.1 (cov_answers c.args.message.now c.in_err-document.field-0.0 p.0 c.if-message-ne200.false none rows p.2)
