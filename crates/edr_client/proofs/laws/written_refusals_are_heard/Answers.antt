use Rattle.std.proofs.Common.{refl}
use Rattle.edr_http.specs.Replies.{refusal_body}
use Rattle.edr_reply.specs.Laws.{message_of}
use Rattle.edr_client.proofs.RefusalBodies.{code_is, is_status, not_data, short}
use Rattle.edr_client.proofs.laws.written_refusals_are_heard.Goals as goal

pub returns : goal.returns
returns c refusal edition close rest small = record {
  message = message_of (refusal_body refusal) edition;
  is_message = c.written_replies_are_read.ensures (refusal_body refusal) edition close rest (is_status refusal) small (short refusal);
  status_is = refl;
  other = not_data refusal;
  code_is = code_is refusal;
}
