use Rattle.std.proofs.lemmas.Bool.{false≢true}
use Rattle.std.proofs.Common.{arith, ap, of_z, w64, to_z-of_z}
use Rattle.jiff_core.proofs.SignedLemmas.{signed_arith}
use Rattle.edr_axes.proofs.SeriesLemmas.{AreFar, below_zero, rising, falling, below_first, above_first}
use Rattle.edr_axes.proofs.levels.is_in_series.Goals as goal

pub returns-then-first-level : goal.returns-then-first-level
returns-then-first-level c =
    let n_in = c.ranges.n in let first_in = c.ranges.first in let step_in = c.ranges.step in let level_in = c.ranges.level in
    let far : AreFar c.args.first c.args.step c.args.level c.abs_diff-distance.result c.unsigned_abs.result =
    record { distance_is = simp to_z-of_z at c.abs_diff-distance.ensures; size_is = simp to_z-of_z at c.unsigned_abs.ensures.value } in
    rising c.args.n c.args.first c.args.step c.args.level c.abs_diff-distance.result c.unsigned_abs.result c.is_multiple.result
    (omega (arith, signed_arith, c.if-n-lt1.false)) (omega (arith, signed_arith, c.if-step-gt0.true)) (omega (arith, signed_arith, c.if-first-level.true)) far
    (simp to_z-of_z at c.is_multiple.ensures)

pub returns-then-level-first : goal.returns-then-level-first
returns-then-level-first c =
    let n_in = c.ranges.n in let first_in = c.ranges.first in let step_in = c.ranges.step in let level_in = c.ranges.level in
    let size = c.unsigned_abs-then-level-first in
    let far : AreFar c.args.first c.args.step c.args.level c.abs_diff-distance.result size.result =
    record { distance_is = simp to_z-of_z at c.abs_diff-distance.ensures; size_is = simp to_z-of_z at size.ensures.value } in
    falling c.args.n c.args.first c.args.step c.args.level c.abs_diff-distance.result size.result c.is_multiple-then-level-first.result
    (omega (arith, signed_arith, c.if-n-lt1.false)) (below_zero c.args.step (omega (arith, signed_arith, c.if-step-gt0.false)) (λ e. c.if-step-eq0.false (ap (of_z w64) e))) (omega (arith, signed_arith, c.if-level-first.true)) far
    (simp to_z-of_z at c.is_multiple-then-level-first.ensures)

pub returns-else-first-level : goal.returns-else-first-level
returns-else-first-level c =
    let first_in = c.ranges.first in let step_in = c.ranges.step in let level_in = c.ranges.level in
    below_first c.args.n c.args.first c.args.step c.args.level _ c.if-first-level.false
    (omega (arith, signed_arith, c.if-step-gt0.true)) (omega (arith, signed_arith, c.if-first-level.false))

pub returns-else-level-first : goal.returns-else-level-first
returns-else-level-first c =
    let first_in = c.ranges.first in let step_in = c.ranges.step in let level_in = c.ranges.level in
    above_first c.args.n c.args.first c.args.step c.args.level _ c.if-level-first.false
    (below_zero c.args.step (omega (arith, signed_arith, c.if-step-gt0.false)) (λ e. c.if-step-eq0.false (ap (of_z w64) e))) (omega (arith, signed_arith, c.if-level-first.false))

pub returns-then-n-lt1 : goal.returns-then-n-lt1
returns-then-n-lt1 c =
    let n_in = c.ranges.n in
    (λ e. absurd (false≢true e), λ is. (let below = is.1 in absurd (omega (arith, signed_arith, c.if-n-lt1.true, below))))
