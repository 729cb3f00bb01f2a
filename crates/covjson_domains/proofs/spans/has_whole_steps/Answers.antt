use Rattle.std.proofs.Common.{◌≡◌, ◌∙◌, arith, pos, ◌<◌, ◌<ℤ◌, ◌-ℤ◌, FitsSigned, unsigned_abs, int_lt, int_le, false, sym}
use Rattle.std.specs.Prelude.{int_rem}
use Rattle.std.proofs.lemmas.Int.{ints, to_z-of_z, fits_signed_from_abs, quot_fits, rem_below}
use mir.Syntax.{w128}
use Rattle.covjson_domains.proofs.SpanLemmas.{same_rest, several_steps}
use Rattle.covjson_domains.proofs.spans.has_whole_steps.Goals as goal

pub nonzero_rem-result : goal.nonzero_rem-result
nonzero_rem-result c =
    let first = c.args.first in
    let last = c.args.last in
    let count = c.args.count in
    let between = last -ℤ first in
    let steps = count -ℤ pos 1 in
    let first_is = to_z-of_z w128 first c.ranges.first in
    let last_is = to_z-of_z w128 last c.ranges.last in
    let count_is = to_z-of_z w128 count c.ranges.count in
    let more : int_le count (pos 1) ≡ false = rw count_is at c.if-count-le1.false in
    let above : pos 0 <ℤ steps = grind (arith, ints) in
    let small : FitsSigned w128 between = omega (arith, ints) in
    let between_is = to_z-of_z w128 between small in
    let steps_is = to_z-of_z w128 steps (omega (arith, ints)) in
    rw (count_is, first_is, last_is, between_is, steps_is) (omega (arith, ints), quot_fits w128 between steps small above)

pub returns-else-count-le1 : goal.returns-else-count-le1
returns-else-count-le1 c =
    let first = c.args.first in
    let last = c.args.last in
    let count = c.args.count in
    let between = last -ℤ first in
    let steps = count -ℤ pos 1 in
    let first_is = to_z-of_z w128 first c.ranges.first in
    let last_is = to_z-of_z w128 last c.ranges.last in
    let count_is = to_z-of_z w128 count c.ranges.count in
    let some : int_lt count (pos 1) ≡ false = rw count_is at c.if-count-lt1.false in
    let more : int_le count (pos 1) ≡ false = rw count_is at c.if-count-le1.false in
    let between_is = to_z-of_z w128 between (omega (arith, ints)) in
    let steps_is = to_z-of_z w128 steps (omega (arith, ints)) in
    let above : 0 < unsigned_abs steps = omega (arith, ints) in
    let fits = fits_signed_from_abs w128 (int_rem between steps) (omega (arith, ints, rem_below between steps above)) in
    rw (first_is, last_is, count_is, between_is, steps_is) (same_rest (int_rem between steps) fits ∙ sym (several_steps first last count some more))
