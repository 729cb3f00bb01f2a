use Rattle.std.proofs.Common.{arith}
use Rattle.std.proofs.lemmas.Bool.{false≢true}
use Rattle.edr_base.proofs.fault_plan.FaultPlan.strikes.Goals as goal

pub returns-then-self-clause-strikes : goal.returns-then-self-clause-strikes
returns-then-self-clause-strikes c = (λ e. absurd (false≢true e), λ next. absurd (omega (arith, next.0, c.if-self.true)))
