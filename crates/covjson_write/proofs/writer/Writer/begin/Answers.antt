use Rattle.covjson_write.proofs.SendLemmas.{writes_done}
use Rattle.covjson_write.proofs.writer.Writer.begin.Goals as goal

pub returns-clause-bytes : goal.returns-clause-bytes
returns-clause-bytes g c = writes_done c.in_ok-send.field-0 _ _ _ _ _ (rw (c.in_ok-send.was, c.document_begin.ensures) at c.send.ensures.bytes)
