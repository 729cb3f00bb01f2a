use Rattle.covjson_write.proofs.SendLemmas.{writes_nothing}
use Rattle.covjson_write.proofs.sending.send_coverage.Goals as goal

pub returns-in_err-kept-clause-bytes : goal.returns-in_err-kept-clause-bytes
returns-in_err-kept-clause-bytes g c = writes_nothing _ _ _ c.from_residual.ensures.0
