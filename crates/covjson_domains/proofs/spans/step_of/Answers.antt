use Rattle.std.proofs.Common.{◌≡◌, arith, pos, ◌<◌, ◌-ℤ◌, FitsSigned, ◌<ℤ◌, unsigned_abs, int_le, true, false}
use Rattle.std.specs.Prelude.{int_div}
use Rattle.std.proofs.lemmas.Int.{ints, to_z-of_z, quot_fits}
use mir.Syntax.{w128}
use Rattle.covjson_domains.proofs.SpanLemmas.{span_tells, some_counted, one_reached, one_regular, several_reached, several_regular, several_short}
use Rattle.covjson_domains.proofs.spans.step_of.Goals as goal

pub overflow_sub-result : goal.overflow_sub-result
overflow_sub-result c =
    let first = c.args.first in
    let last = c.args.last in
    let span = span_tells first last c.args.count c.requires.within in
    rw (to_z-of_z w128 last c.ranges.last, to_z-of_z w128 first c.ranges.first) (omega (arith, ints, span.first_in, span.last_in))

pub nonzero_div-result : goal.nonzero_div-result
nonzero_div-result c =
    let count = c.args.count in
    let between = c.args.last -ℤ c.args.first in
    let steps = count -ℤ pos 1 in
    let span = span_tells c.args.first c.args.last count c.requires.within in
    let count_is = to_z-of_z w128 count c.ranges.count in
    let first_is = to_z-of_z w128 c.args.first c.ranges.first in
    let last_is = to_z-of_z w128 c.args.last c.ranges.last in
    let more : int_le count (pos 1) ≡ false = rw count_is at c.if-count-le1.false in
    let above : pos 0 <ℤ steps = grind (arith, ints) in
    let small : FitsSigned w128 between = omega (arith, ints, span.first_in, span.last_in) in
    let between_is = to_z-of_z w128 between small in
    let steps_is = to_z-of_z w128 steps (omega (arith, ints)) in
    rw (count_is, first_is, last_is, between_is, steps_is) (omega (arith, ints), quot_fits w128 between steps small above)

pub returns-then-count-le1 : goal.returns-then-count-le1
returns-then-count-le1 c =
    let first = c.args.first in
    let last = c.args.last in
    let count = c.args.count in
    let span = span_tells first last count c.requires.within in
    let most : int_le count (pos 1) ≡ true = rw (to_z-of_z w128 count c.ranges.count) at c.if-count-le1.true in
    record {
      regular = one_regular first last count span.some most;
      reaches = one_reached first last count span.some most c.requires.even;
      short = omega arith;
    }

pub returns-else-count-le1 : goal.returns-else-count-le1
returns-else-count-le1 c =
    let first = c.args.first in
    let last = c.args.last in
    let count = c.args.count in
    let between = last -ℤ first in
    let steps = count -ℤ pos 1 in
    let span = span_tells first last count c.requires.within in
    let count_is = to_z-of_z w128 count c.ranges.count in
    let first_is = to_z-of_z w128 first c.ranges.first in
    let last_is = to_z-of_z w128 last c.ranges.last in
    let more : int_le count (pos 1) ≡ false = rw count_is at c.if-count-le1.false in
    let some = some_counted count span.some in
    let above : pos 0 <ℤ steps = grind (arith, ints) in
    let small : FitsSigned w128 between = omega (arith, ints, span.first_in, span.last_in) in
    let between_is = to_z-of_z w128 between small in
    let steps_is = to_z-of_z w128 steps (omega (arith, ints)) in
    let quotient_is = to_z-of_z w128 (int_div between steps) (quot_fits w128 between steps small above) in
    let size : 0 < unsigned_abs steps = omega (arith, ints) in
    rw (count_is, first_is, last_is, between_is, steps_is, quotient_is)
    record {
      regular = several_regular first last count span.some;
      reaches = several_reached first last count some more c.requires.even;
      short = omega (arith, ints, span.first_in, span.last_in, several_short first last count some more c.requires.even size);
    }
