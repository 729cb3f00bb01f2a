use Rattle.std.proofs.Common.{refl, rules}
use Rattle.edr_axes.proofs.levels.Levels.has.Goals as goal

pub returns-in-Series : goal.returns-in-Series
returns-in-Series c = rw c.in-Series.is (search (rules, c.is_in_series.ensures))

pub returns-in-All : goal.returns-in-All
returns-in-All c = rw c.in-All.is (λ _. tt, λ _. refl)
