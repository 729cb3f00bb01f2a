use Rattle.std.proofs.Common.{Some, ap}
use Rattle.edr_base.proofs.quiet_sink.QuietSinkSink.write.Goals as goal

pub returns-clause-bytes : goal.returns-clause-bytes
returns-clause-bytes c = ap Some c.in_ok-extend_from_slice.ensures.items
