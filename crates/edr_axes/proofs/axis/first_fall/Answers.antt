use Rattle.std.proofs.Common.{◌-◌, rules, arith, to_z-of_z, w64, FitsSigned}
use Rattle.jiff_core.proofs.SignedLemmas.{signed_arith}
use Rattle.edr_axes.specs.Axes.{value_at}
use Rattle.edr_axes.proofs.AxisLemmas.{ascends_more, no_fall_before}
use Rattle.edr_axes.proofs.axis.first_fall.Goals as goal

pub loop-place-preserved : goal.loop-place-preserved
loop-place-preserved c =
    let values = c.args.values.now in
    let place = c.loop-place.place in
    let fits_here : FitsSigned w64 (value_at values place) = search rules in
    let fits_before : FitsSigned w64 (value_at values (place - 1)) = search rules in
    let test = simp to_z-of_z at c.if-values-place.false in
    ascends_more values place c.loop-place.invariant (omega (arith, signed_arith, test))

pub returns-then-values-place : goal.returns-then-values-place
returns-then-values-place c =
    let values = c.args.values.now in
    let place = c.loop-place.place in
    let fits_here : FitsSigned w64 (value_at values place) = search rules in
    let fits_before : FitsSigned w64 (value_at values (place - 1)) = search rules in
    let test = simp to_z-of_z at c.if-values-place.true in
    record {
      applies = record { inside = (c.loop-place.auto.place, c.loop-place-test.true); falls = omega (arith, signed_arith, test) };
      none_before = no_fall_before values place c.loop-place.invariant;
    }
