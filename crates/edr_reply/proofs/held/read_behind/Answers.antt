use Rattle.std.proofs.Common.{arith}
use Rattle.edr_reply.proofs.HeldLemmas.{read_same}
use Rattle.edr_reply.proofs.held.read_behind.Goals as goal

pub returns-clause-rest : goal.returns-clause-rest
returns-clause-rest g c =
    read_same c.read.result c.args.size c.args.memory.now c.read.new.buf _ _ _ (omega (arith, c.requires)) c.read.ensures.bound c.read.ensures.bytes
