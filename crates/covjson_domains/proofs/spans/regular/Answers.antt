use Rattle.std.proofs.Common.{◌≡◌, arith, pos, ◌≤◌, ◌*◌, ◌+ℤ◌, ◌-ℤ◌, ◌*ℤ◌, unsigned_abs, Vec, Global, ℤ, List, Ok, subst}
use Rattle.std.proofs.lemmas.Int.{ints, to_z-of_z, fits_signed_from_abs}
use mir.Syntax.{w64, w128}
use Rattle.edr_base.specs.Limits.{coordinate_limit}
use Rattle.covjson_checks.specs.Answers.{GivesUnlessMemory}
use Rattle.covjson_domains.specs.AxisAnswers as axes
use Rattle.covjson_domains.proofs.SpanLemmas.{span_tells, last_reached}
use Rattle.covjson_domains.proofs.spans.regular.Goals as goal

pub step_of-step-requires-clause-even : goal.step_of-step-requires-clause-even
step_of-step-requires-clause-even c =
    rw (to_z-of_z w128 c.args.first c.ranges.first, to_z-of_z w128 c.args.last c.ranges.last, to_z-of_z w128 c.args.count c.ranges.count) c.requires.even

pub step_of-step-requires-clause-within : goal.step_of-step-requires-clause-within
step_of-step-requires-clause-within c =
    rw (to_z-of_z w128 c.args.first c.ranges.first, to_z-of_z w128 c.args.last c.ranges.last, to_z-of_z w128 c.args.count c.ranges.count) c.requires.within

pub stepped-requires-clause-some : goal.stepped-requires-clause-some
stepped-requires-clause-some c =
    let span = span_tells c.args.first c.args.last c.args.count c.requires.within in
    rw (to_z-of_z w128 c.args.count c.ranges.count) (omega (arith, ints, span.some))

pub stepped-requires-clause-few : goal.stepped-requires-clause-few
stepped-requires-clause-few c =
    let span = span_tells c.args.first c.args.last c.args.count c.requires.within in
    rw (to_z-of_z w128 c.args.count c.ranges.count) (omega (arith, ints, span.some, span.few))

pub stepped-requires-clause-first : goal.stepped-requires-clause-first
stepped-requires-clause-first c =
    let first = c.args.first in
    let span = span_tells first c.args.last c.args.count c.requires.within in
    let first_small = to_z-of_z w64 first (fits_signed_from_abs w64 first (omega (arith, span.first_in))) in
    rw (to_z-of_z w128 first c.ranges.first, first_small) span.first_in

pub stepped-requires-clause-last : goal.stepped-requires-clause-last
stepped-requires-clause-last c =
    let first = c.args.first in
    let last = c.args.last in
    let count = c.args.count in
    let step = c.step_of-step.result in
    let span = span_tells first last count c.requires.within in
    let short : unsigned_abs step ≤ 2 * coordinate_limit = c.step_of-step.ensures.short in
    let first_is = to_z-of_z w128 first c.ranges.first in
    let last_is = to_z-of_z w128 last c.ranges.last in
    let count_is = to_z-of_z w128 count c.ranges.count in
    let step_is = to_z-of_z w128 step (fits_signed_from_abs w128 step (omega (arith, short))) in
    let first_small = to_z-of_z w64 first (fits_signed_from_abs w64 first (omega (arith, span.first_in))) in
    let step_small = to_z-of_z w64 step (fits_signed_from_abs w64 step (omega (arith, short))) in
    let reached : first +ℤ step *ℤ (count -ℤ pos 1) ≡ last = rw (first_is, count_is, last_is) at c.step_of-step.ensures.reaches in
    let ended : first +ℤ step *ℤ (pos (unsigned_abs count) -ℤ pos 1) ≡ last = last_reached first step last count span.some reached in
    rw (first_is, step_is, count_is, first_small, step_small, ended) span.last_in

pub returns : goal.returns
returns c =
    let first = c.args.first in
    let last = c.args.last in
    let count = c.args.count in
    let step = c.step_of-step.result in
    let span = span_tells first last count c.requires.within in
    let short : unsigned_abs step ≤ 2 * coordinate_limit = c.step_of-step.ensures.short in
    let first_is = to_z-of_z w128 first c.ranges.first in
    let last_is = to_z-of_z w128 last c.ranges.last in
    let count_is = to_z-of_z w128 count c.ranges.count in
    let step_is = to_z-of_z w128 step (fits_signed_from_abs w128 step (omega (arith, short))) in
    let first_small = to_z-of_z w64 first (fits_signed_from_abs w64 first (omega (arith, span.first_in))) in
    let step_small = to_z-of_z w64 step (fits_signed_from_abs w64 step (omega (arith, short))) in
    let seen : Vec ℤ Global → List ℤ = λ v. v.items in
    let given : GivesUnlessMemory seen c.stepped.result (Ok (axes.stepped first step (unsigned_abs count))) =
    rw (first_is, step_is, count_is, first_small, step_small) at c.stepped.ensures in
    let same : axes.stepped first step (unsigned_abs count) ≡ axes.regular first last (unsigned_abs count) =
    rw (first_is, count_is, last_is) at c.step_of-step.ensures.regular in
    subst (λ (vs : List ℤ). GivesUnlessMemory seen c.stepped.result (Ok vs)) same given

pub overflow_cast-first : goal.overflow_cast-first
overflow_cast-first c =
    let first = c.args.first in
    let span = span_tells first c.args.last c.args.count c.requires.within in
    rw (to_z-of_z w128 first c.ranges.first) (fits_signed_from_abs w64 first (omega (arith, span.first_in)))

pub overflow_cast-count : goal.overflow_cast-count
overflow_cast-count c =
    let span = span_tells c.args.first c.args.last c.args.count c.requires.within in
    rw (to_z-of_z w128 c.args.count c.ranges.count) (omega (arith, ints, span.some), omega (arith, ints, span.some, span.few))
