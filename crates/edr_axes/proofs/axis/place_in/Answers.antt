use Rattle.std.proofs.Common.{◌≡◌, ◌<◌, length, arith, sym, ap, subst, of_z, w64, to_z-of_z}
use Rattle.edr_axes.specs.Axes.{value_at}
use Rattle.edr_axes.proofs.AxisLemmas.{Splits, count_splits, not_contained}
use Rattle.edr_axes.proofs.axis.place_in.Goals.{else-place-values-via-then-place-values+else-values-place, else-place-values-via-else-place-values}
use Rattle.edr_axes.proofs.axis.place_in.Goals as goal

pub returns-else-place-values : goal.returns-else-place-values
returns-else-place-values c =
    let values = c.args.values.now in
    let place = c.count_below-place.result in
    let fits = c.ranges.value in
    let count = simp to_z-of_z at c.count_below-place.ensures in
    let split = subst (Splits values c.args.value) (sym count) (count_splits values c.args.value c.requires) in
    let other : place < length values → ¬ (value_at values place ≡ c.args.value) =
    elim c.else-place-values.branch [
      | else-place-values-via-then-place-values+else-values-place w ↦ (λ lt e. w.if-values-place.false (ap (of_z w64) e))
      | else-place-values-via-else-place-values w ↦ (λ lt. absurd (omega (arith, w.if-place-values.false)))
    ] in
    not_contained values c.args.value place c.requires split other
