use Rattle.std.proofs.Common.{Err, ap}
use Rattle.edr_client.proofs.ReplyLaws.{no_document_told}
use Rattle.edr_client.proofs.FaultLemmas.{handed_on, failed_was, broken_was, no_status, no_body}
use Rattle.edr_client.proofs.reading.read_reply.Goals as goal

pub returns-clause-no_document : goal.returns-clause-no_document
returns-clause-no_document g c fault e = no_document_told c.in_ok-message.message fault _ _ c.in_ok-message.ensures.message (rw e at c.reply_of.ensures.answers)

pub returns-in_err-message-clause-bad_reply : goal.returns-in_err-message-clause-bad_reply
returns-in_err-message-clause-bad_reply g c place e =
    c.in_err-message.ensures.broken place (ap Err (broken_was _ place (handed_on c.from_residual.result _ _ c.from_residual.ensures.1 e)))

pub returns-in_err-message-clause-no_reply : goal.returns-in_err-message-clause-no_reply
returns-in_err-message-clause-no_reply g c place e =
    c.in_err-message.ensures.none place (ap Err (broken_was _ place (handed_on c.from_residual.result _ _ c.from_residual.ensures.1 e)))

pub returns-in_err-message-clause-near : goal.returns-in_err-message-clause-near
returns-in_err-message-clause-near g c place e =
    c.in_err-message.ensures.near place (ap Err (broken_was _ place (handed_on c.from_residual.result _ _ c.from_residual.ensures.1 e)))

pub returns-in_err-message-clause-not_data : goal.returns-in_err-message-clause-not_data
returns-in_err-message-clause-not_data g c status code e =
    absurd (no_status _ status code (handed_on c.from_residual.result _ _ c.from_residual.ensures.1 e))

pub returns-in_err-message-clause-no_document : goal.returns-in_err-message-clause-no_document
returns-in_err-message-clause-no_document g c fault e =
    absurd (no_body _ fault (handed_on c.from_residual.result _ _ c.from_residual.ensures.1 e))

pub returns-in_err-message-clause-cause : goal.returns-in_err-message-clause-cause
returns-in_err-message-clause-cause g c e =
    c.in_err-message.ensures.cause (ap Err (failed_was _ (handed_on c.from_residual.result _ _ c.from_residual.ensures.1 e)))

pub returns-in_err-message-clause-unfinished : goal.returns-in_err-message-clause-unfinished
returns-in_err-message-clause-unfinished g c e =
    c.in_err-message.ensures.unfinished (ap Err (failed_was _ (handed_on c.from_residual.result _ _ c.from_residual.ensures.1 e)))
