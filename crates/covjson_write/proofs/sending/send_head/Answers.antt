use Rattle.std.proofs.Common.{◌∙◌}
use Rattle.covjson_write.proofs.SendLemmas.{writes_nothing}
use Rattle.covjson_write.proofs.sending.send_head.Goals as goal

pub returns-in_err-text-clause-bytes : goal.returns-in_err-text-clause-bytes
returns-in_err-text-clause-bytes g c = writes_nothing _ _ _ c.from_residual.ensures.0

pub returns-clause-bytes : goal.returns-clause-bytes
returns-clause-bytes g c = rw (c.deref.ensures.value ∙ c.in_ok-text.ensures) at c.send.ensures.bytes
