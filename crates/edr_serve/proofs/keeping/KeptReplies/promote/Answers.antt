use Rattle.edr_serve.proofs.KeptLemmas.{data_fronted}
use Rattle.edr_serve.proofs.keeping.KeptReplies.promote.Goals as goal

pub invariant_of-self : goal.invariant_of-self
invariant_of-self c = rw c.promote.ensures (data_fronted _ c.args.target.now c.self.inside.bodies.pairs c.self.invariant)
