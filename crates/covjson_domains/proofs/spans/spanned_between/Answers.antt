use Rattle.std.proofs.Common.{rules, ◌≡◌, ℤ, true, false, inl, Ok, unsigned_abs, refl, sym}
use Rattle.std.proofs.lemmas.Int.{to_z-of_z}
use mir.Syntax.{w128}
use Rattle.covjson_checks.specs.declared.faults.Member.{Member}
use Rattle.covjson_domains.specs.AxisAnswers.{has_whole_steps, is_span_within, regular}
use Rattle.covjson_domains.specs.SpanAnswers as spans
use Rattle.covjson_domains.proofs.spans.spanned_between.Goals as goal

-- values that pass both tests are those between the first and the last
spanned : (m : Member) (first last count : ℤ) → has_whole_steps first last count ≡ true → is_span_within first last count ≡ true
    → Ok (regular first last (unsigned_abs count)) ≡ spans.spanned_between m first last count
spanned m first last count even within = rw (even, within) refl

pub returns-then-not-has_whole_steps : goal.returns-then-not-has_whole_steps
returns-then-not-has_whole_steps c =
    let even : has_whole_steps c.args.first c.args.last c.args.count ≡ false = search rules in
    rw even (inl refl)

pub returns-then-not-is_span_within : goal.returns-then-not-is_span_within
returns-then-not-is_span_within c =
    let even : has_whole_steps c.args.first c.args.last c.args.count ≡ true = search rules in
    let within : is_span_within c.args.first c.args.last c.args.count ≡ false = search rules in
    rw (even, within) (inl refl)

pub returns : goal.returns
returns c =
    let first = c.args.first in
    let last = c.args.last in
    let count = c.args.count in
    let first_is = to_z-of_z w128 first c.ranges.first in
    let last_is = to_z-of_z w128 last c.ranges.last in
    let count_is = to_z-of_z w128 count c.ranges.count in
    let even : true ≡ has_whole_steps first last count = rw (first_is, last_is, count_is) at c.if-not-has_whole_steps.ensures in
    let within : true ≡ is_span_within first last count = rw (first_is, last_is, count_is) at c.if-not-is_span_within.ensures in
    rw (← spanned c.args.member first last count (sym even) (sym within)) (rw (first_is, last_is, count_is) at c.regular.ensures)
