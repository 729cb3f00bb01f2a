use Rattle.edr_base.specs.KnownBytes.{writes_on}
use Rattle.edr_console.proofs.SayLemmas.{stopped_first}
use Rattle.edr_console.proofs.saying.send_between.Goals as goal

pub returns-clause-bytes : goal.returns-clause-bytes
returns-clause-bytes g c = writes_on _ _ _ _ _ _ c.in_ok-send.ensures.bytes.whole c.send_counted.ensures.bytes

pub returns-in_err-send-clause-bytes : goal.returns-in_err-send-clause-bytes
returns-in_err-send-clause-bytes g c = stopped_first c.from_residual.result _ _ _ _ c.from_residual.ensures.0 c.in_err-send.ensures.bytes.front
