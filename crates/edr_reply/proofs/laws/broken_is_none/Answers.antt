use Rattle.edr_reply.proofs.MessageLaws.{none_broken}
use Rattle.edr_reply.proofs.laws.broken_is_none.Goals as goal

pub returns : goal.returns
returns c = none_broken
