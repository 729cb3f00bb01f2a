use Rattle.covjson_write.proofs.SendLemmas.{range_written}
use Rattle.covjson_write.proofs.writer.Writer.range_begin.Goals as goal

pub returns-in-Ok-clause-bytes : goal.returns-in-Ok-clause-bytes
returns-in-Ok-clause-bytes g c =
    rw (← c.self.view_is) (range_written _ c.self.inside.head c.args.parameter c.index-items-parameter.result c.items.result.now _ _ c.index-items-parameter.is c.items.ensures
    (rw (← c.self.view_is) at c.requires.one) c.send_range-outcome.ensures.bytes)

pub returns-in-Err-clause-bytes : goal.returns-in-Err-clause-bytes
returns-in-Err-clause-bytes g c =
    rw (← c.self.view_is) (range_written _ c.self.inside.head c.args.parameter c.index-items-parameter.result c.items.result.now _ _ c.index-items-parameter.is c.items.ensures
    (rw (← c.self.view_is) at c.requires.one) c.send_range-outcome.ensures.bytes)
