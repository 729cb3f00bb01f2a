use Rattle.std.proofs.Common.{◌≡◌, ◌≢◌, ◌≤◌, length, sym, ap, ◌∙◌, subst, arith, rules, true≢false}
use Rattle.edr_draft.specs.Parameters.{DifferFirstAt}
use Rattle.edr_draft.proofs.ParameterLaws.{same_so_far, differ_here, differ_more, differ_more', same_to_end}
use Rattle.edr_draft.proofs.differences.first_difference.Goals as goal

pub loop-place-preserved : goal.loop-place-preserved
loop-place-preserved c =
    same_so_far c.args.one.now c.args.other.now c.loop-place.place c.index-one-place.result c.index-other-place.result (search rules) (search rules)
    c.index-one-place.is c.index-other-place.is c.loop-place.invariant (c.same_parameter.ensures.0 (search rules))

pub returns-then-not-same_parameter : goal.returns-then-not-same_parameter
returns-then-not-same_parameter c =
    let apart : c.index-one-place.result ≢ c.index-other-place.result = λ same. true≢false (sym (c.same_parameter.ensures.1 same) ∙ c.if-not-same_parameter.true) in
    subst (DifferFirstAt c.args.one.now c.args.other.now) (sym c.lower_id.ensures)
    (differ_here c.args.one.now c.args.other.now c.loop-place.place c.index-one-place.result c.index-other-place.result c.requires.one c.requires.other
    (search rules) (search rules) c.index-one-place.is c.index-other-place.is c.loop-place.invariant apart)

pub returns-then-one-both : goal.returns-then-one-both
returns-then-one-both c =
    let whole : c.loop-place.place ≡ c.min-both.result = omega (arith, c.loop-place-test.false, c.loop-place.auto.place-end) in
    let over : length c.args.other.now ≤ c.min-both.result = search rules in
    subst (DifferFirstAt c.args.one.now c.args.other.now) (ap (λ p. p.id) c.index-one-both.is ∙ sym c.bytes.ensures)
    (differ_more c.args.one.now c.args.other.now c.min-both.result c.index-one-both.result c.requires.one c.if-one-both.true over c.index-one-both.is (rw whole at c.loop-place.invariant))

pub returns-then-other-both : goal.returns-then-other-both
returns-then-other-both c =
    let whole : c.loop-place.place ≡ c.min-both.result = omega (arith, c.loop-place-test.false, c.loop-place.auto.place-end) in
    subst (DifferFirstAt c.args.one.now c.args.other.now) (ap (λ p. p.id) c.index-other-both.is ∙ sym c.bytes-then-other-both.ensures)
    (differ_more' c.args.one.now c.args.other.now c.min-both.result c.index-other-both.result c.requires.other c.if-one-both.false c.if-other-both.true c.index-other-both.is (rw whole at c.loop-place.invariant))

pub returns-else-other-both : goal.returns-else-other-both
returns-else-other-both c =
    let whole : c.loop-place.place ≡ c.min-both.result = omega (arith, c.loop-place-test.false, c.loop-place.auto.place-end) in
    same_to_end c.args.one.now c.args.other.now c.min-both.result c.if-one-both.false c.if-other-both.false (rw whole at c.loop-place.invariant)
