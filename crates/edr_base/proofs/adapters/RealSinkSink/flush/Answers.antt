use Rattle.edr_base.proofs.PlanLemmas.{flushed_untold}
use Rattle.edr_base.proofs.adapters.RealSinkSink.flush.Goals as goal

pub returns-clause-flushed : goal.returns-clause-flushed
returns-clause-flushed g c = flushed_untold _
