use Rattle.std.proofs.Common.{to_z-of_z}
use Rattle.edr_axes.proofs.SeriesLemmas.{level_fits}
use Rattle.edr_axes.proofs.levels.push_level.Goals as goal

pub returns-in_err-push-clause-none : goal.returns-in_err-push-clause-none
returns-in_err-push-clause-none c e level is = let fault = rw e at c.from_residual.ensures.1 in cc fault

pub returns-clause-ok : goal.returns-clause-ok
returns-clause-ok c =
    let level = c.in-Some.level in
    (level, c.in-Some.ensures, simp (to_z-of_z (level_fits level c.in-Some.ensures.within)) at c.in_ok-push.ensures.items)
