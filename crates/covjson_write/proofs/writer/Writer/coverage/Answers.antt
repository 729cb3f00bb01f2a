use Rattle.covjson_write.proofs.SendLemmas.{writes_done, writes_stopped}
use Rattle.covjson_write.proofs.writer.Writer.coverage.Goals as goal

pub returns-in_err-self-inside-clause-bytes : goal.returns-in_err-self-inside-clause-bytes
returns-in_err-self-inside-clause-bytes g c = rw (← c.self.view_is) (writes_stopped _ _ _ _ _ c.from_residual.ensures.0 c.send_coverage.ensures.bytes)

pub returns-clause-bytes : goal.returns-clause-bytes
returns-clause-bytes g c = rw (← c.self.view_is) (writes_done c.in_ok-self-inside.field-0 _ _ _ _ _ (rw c.in_ok-self-inside.was at c.send_coverage.ensures.bytes))
