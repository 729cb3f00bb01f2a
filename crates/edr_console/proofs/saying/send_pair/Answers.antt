use Rattle.edr_base.specs.KnownBytes.{writes_on}
use Rattle.edr_console.proofs.SayLemmas.{stopped_first}
use Rattle.edr_console.proofs.saying.send_pair.Goals as goal

pub returns-clause-bytes : goal.returns-clause-bytes
returns-clause-bytes g c = writes_on _ _ _ _ _ _ c.in_ok-send_digits.ensures.bytes.whole c.send_line.ensures.bytes

pub returns-in_err-send_digits-clause-bytes : goal.returns-in_err-send_digits-clause-bytes
returns-in_err-send_digits-clause-bytes g c = stopped_first c.from_residual.result _ _ _ _ c.from_residual.ensures.0 c.in_err-send_digits.ensures.bytes.front
