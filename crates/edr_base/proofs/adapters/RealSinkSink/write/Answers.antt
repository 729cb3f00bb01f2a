use Rattle.edr_base.proofs.PlanLemmas.{appended_untold}
use Rattle.edr_base.proofs.adapters.RealSinkSink.write.Goals as goal

pub returns-clause-bytes : goal.returns-clause-bytes
returns-clause-bytes g c = appended_untold _ _

pub returns-clause-passes : goal.returns-clause-passes
returns-clause-passes g c = c.write_to.ensures.passes

pub returns-clause-counts : goal.returns-clause-counts
returns-clause-counts g c = c.write_to.ensures.counts
