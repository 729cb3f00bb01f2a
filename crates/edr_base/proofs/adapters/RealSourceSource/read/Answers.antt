use Rattle.edr_base.proofs.PlanLemmas.{reads_untold}
use Rattle.edr_base.proofs.adapters.RealSourceSource.read.Goals as goal

pub returns-clause-bytes : goal.returns-clause-bytes
returns-clause-bytes g c = reads_untold _ _

pub returns-clause-passes : goal.returns-clause-passes
returns-clause-passes g c = c.read_from.ensures.passes

pub returns-clause-counts : goal.returns-clause-counts
returns-clause-counts g c = c.read_from.ensures.counts
