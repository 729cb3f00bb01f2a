use Rattle.edr_reply.proofs.MessageLaws.{one_break}
use Rattle.edr_reply.proofs.laws.break_is_one.Goals as goal

pub returns : goal.returns
returns c = one_break
