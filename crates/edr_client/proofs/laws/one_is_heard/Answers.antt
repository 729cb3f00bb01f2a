use Rattle.edr_client.proofs.ReplyLaws.{one_heard}
use Rattle.edr_client.proofs.laws.one_is_heard.Goals as goal

pub returns : goal.returns
returns c =
    one_heard c.message_is_one.ensures c.broken_is_none.ensures c.break_is_one.ensures c.texts_have_one_tree.ensures c.texts_have_one_document.ensures c.document_rows_have_one_answer.ensures
