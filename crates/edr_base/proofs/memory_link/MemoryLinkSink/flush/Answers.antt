use Rattle.std.proofs.Common.{not, refl, ap}
use Rattle.edr_base.proofs.memory_link.MemoryLinkSink.flush.Goals as goal

pub returns-then-fails-clause-fails : goal.returns-then-fails-clause-fails
returns-then-fails-clause-fails c = (λ _. (ap not c.if-self.true, c.if-fails.ensures.strikes.0 refl), λ _. refl)
