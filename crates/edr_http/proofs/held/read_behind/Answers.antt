use Rattle.std.proofs.Common.{arith}
use Rattle.edr_http.proofs.HeldLemmas.{read_grew, read_same}
use Rattle.edr_http.proofs.held.read_behind.Goals as goal

pub returns-clause-grew : goal.returns-clause-grew
returns-clause-grew g c =
    read_grew c.read.result c.args.size c.args.memory.now c.read.new.buf _ _ _ (omega (arith, c.requires)) (omega (arith, c.read.auto.buf)) c.read.ensures.bound c.read.ensures.bytes

pub returns-clause-rest : goal.returns-clause-rest
returns-clause-rest g c =
    read_same c.read.result c.args.size c.args.memory.now c.read.new.buf _ _ _ (omega (arith, c.requires)) c.read.ensures.bound c.read.ensures.bytes
