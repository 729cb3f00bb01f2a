use Rattle.edr_reply.proofs.MessageLaws.{message_one}
use Rattle.edr_reply.proofs.laws.message_is_one.Goals as goal

pub returns : goal.returns
returns c = message_one
