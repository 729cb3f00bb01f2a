use Rattle.std.proofs.Common.{◌∙◌}
use Rattle.edr_base.proofs.KnownBytes.{keeps_on}
use Rattle.edr_base.proofs.counted.read_from.Goals as goal

pub loop-preserved : goal.loop-preserved
loop-preserved g c = (c.read.auto.buf ∙ c.loop.invariant.0, keeps_on _ _ _ c.loop.invariant.1 c.in-Err.ensures.bytes)
