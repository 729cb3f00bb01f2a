use Rattle.std.proofs.Common.{refl}
use Rattle.edr_axes.proofs.times.Times.has.Goals as goal

pub returns-in-All : goal.returns-in-All
returns-in-All c = rw c.in-All.is (λ _. tt, λ _. refl)
