use Rattle.std.proofs.Common.{refl, inl}
use Rattle.edr_reply.specs.Laws.{message_of}
use Rattle.edr_client.specs.Laws.{data_body}
use Rattle.edr_client.proofs.laws.written_documents_are_heard.Goals as goal

pub returns : goal.returns
returns c document edition close rest valid small few = record {
  message = message_of (data_body document) edition;
  is_message = c.written_replies_are_read.ensures (data_body document) edition close rest (inl refl) small few;
  status = refl;
  edition = refl;
  document = c.written_documents_are_read.ensures document valid;
}
