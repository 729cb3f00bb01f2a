use Rattle.std.proofs.Common.{◌-◌, arith, sym, subst, rules, to_z-of_z, w64, FitsSigned}
use Rattle.edr_axes.specs.Axes.{value_at}
use Rattle.edr_axes.proofs.AxisLemmas.{Splits, count_splits, nearest_before, nearest_above}
use Rattle.edr_axes.proofs.axis.nearest_in.Goals.{After-count_below-place}
use Rattle.edr_axes.proofs.axis.nearest_in.Goals as goal

split_at : (c : After-count_below-place) → Splits c.args.values.now c.args.c c.count_below-place.result
split_at c =
    let fits = c.ranges.c in
    let count = simp to_z-of_z at c.count_below-place.ensures in
    subst (Splits c.args.values.now c.args.c) (sym count) (count_splits c.args.values.now c.args.c c.requires.ascending)

pub returns-then-place-eq0 : goal.returns-then-place-eq0
returns-then-place-eq0 c =
    let split = split_at (goal.at.returns-then-place-eq0 c).After-count_below-place in
    nearest_above c.args.values.now c.args.c 0 c.requires.ascending (subst (Splits c.args.values.now c.args.c) c.if-place-eq0.true split) c.requires.some (λ lt. absurd (omega arith))

pub returns-then-place-values : goal.returns-then-place-values
returns-then-place-values c =
    let split = split_at (goal.at.returns-then-place-values c).After-count_below-place in
    nearest_before c.args.values.now c.args.c c.count_below-place.result c.requires.ascending split (omega arith) (λ lt. absurd (omega arith))

pub returns-then-abs_diff : goal.returns-then-abs_diff
returns-then-abs_diff c =
    let values = c.args.values.now in
    let place = c.count_below-place.result in
    let split = split_at (goal.at.returns-then-abs_diff c).After-count_below-place in
    let within = split.within in
    let fits = c.ranges.c in
    let fits_here : FitsSigned w64 (value_at values place) = search rules in
    let fits_before : FitsSigned w64 (value_at values (place - 1)) = search rules in
    let here = simp to_z-of_z at c.abs_diff.ensures in
    let before = simp to_z-of_z at c.abs_diff-2.ensures in
    nearest_above values c.args.c place c.requires.ascending split (omega (arith, c.if-place-values.false)) (λ lt. omega (arith, here, before, c.if-abs_diff.true))

pub returns-else-abs_diff : goal.returns-else-abs_diff
returns-else-abs_diff c =
    let values = c.args.values.now in
    let place = c.count_below-place.result in
    let split = split_at (goal.at.returns-else-abs_diff c).After-count_below-place in
    let fits = c.ranges.c in
    let fits_here : FitsSigned w64 (value_at values place) = search rules in
    let fits_before : FitsSigned w64 (value_at values (place - 1)) = search rules in
    let here = simp to_z-of_z at c.abs_diff.ensures in
    let before = simp to_z-of_z at c.abs_diff-2.ensures in
    nearest_before values c.args.c place c.requires.ascending split (omega arith) (λ lt. omega (arith, here, before, c.if-abs_diff.false))

pub bounds-values-place : goal.bounds-values-place
bounds-values-place c =
    let split = split_at (goal.at.bounds-values-place c).After-count_below-place in
    let within = split.within in
    omega (arith, c.if-place-values.false)

pub bounds-values-place-2 : goal.bounds-values-place-2
bounds-values-place-2 c =
    let split = split_at (goal.at.bounds-values-place-2 c).After-count_below-place in
    let within = split.within in
    omega (arith, c.if-place-eq0.false)
