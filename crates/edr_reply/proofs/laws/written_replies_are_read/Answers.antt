use Rattle.edr_reply.proofs.WrittenReplies.{written_replies}
use Rattle.edr_reply.proofs.laws.written_replies_are_read.Goals as goal

pub returns : goal.returns
returns c = written_replies
