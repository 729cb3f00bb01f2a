use Rattle.std.proofs.Common.{◌≡◌, ◌∙◌, ◌-ℤ◌, ◌*ℤ◌, pos, ap₂, sym, arith, rules, int_le, to_z, of_z, w64, ℤ}
use Rattle.std.proofs.Math.Bool.{and-true}
use Rattle.std.proofs.lemmas.Bool.{and_parts}
use Rattle.jiff_core.proofs.SignedLemmas.{signed_arith, one_part}
use Rattle.edr_geometry.proofs.SpanLemmas.{back, opposite_quotient, nothing_below}
use Rattle.edr_geometry.proofs.spans.Span.at_most.Goals as goal

pub returns-then-factor-gt0 : goal.returns-then-factor-gt0
returns-then-factor-gt0 c =
    let each = c.each-each.result in let floor = c.floor_of.result in
    let factor : to_z w64 (of_z w64 c.args.factor) ≡ c.args.factor = search rules in
    let limit : to_z w64 (of_z w64 c.args.limit) ≡ c.args.limit = search rules in
    let low : to_z w64 (of_z w64 each.low) ≡ each.low = search rules in
    let high : to_z w64 (of_z w64 floor) ≡ floor = search rules in
    λ v v_in. (let in_each = and_parts (int_le each.low v) (int_le v each.high) (c.each-each.ensures v v_in) in
    rw (low, high, in_each.0) (c.floor_of.ensures.most v ∙ ap₂ (λ f l. int_le (f *ℤ v) l) factor limit))

pub returns-then-factor-lt0 : goal.returns-then-factor-lt0
returns-then-factor-lt0 c =
    let each = c.each-each.result in let floor = c.floor_of-then-factor-lt0.result in
    let factor : to_z w64 (of_z w64 c.args.factor) ≡ c.args.factor = search rules in
    let limit : to_z w64 (of_z w64 c.args.limit) ≡ c.args.limit = search rules in
    let opposite : to_z w64 (of_z w64 (pos 0 -ℤ c.args.factor)) ≡ pos 0 -ℤ c.args.factor =
    back (pos 0 -ℤ c.args.factor) (omega (arith, signed_arith, c.requires.factor_in, one_part c.args.factor, one_part (pos 0 -ℤ c.args.factor))) in
    let high : to_z w64 (of_z w64 each.high) ≡ each.high = search rules in
    let floor_back : to_z w64 (of_z w64 floor) ≡ floor = search rules in
    let low : to_z w64 (of_z w64 (pos 0 -ℤ floor)) ≡ pos 0 -ℤ floor = back (pos 0 -ℤ floor) (omega (arith, signed_arith, c.floor_of-then-factor-lt0.ensures.small, one_part floor, one_part (pos 0 -ℤ floor))) in
    let most : (w : ℤ) → int_le w floor ≡ int_le ((pos 0 -ℤ c.args.factor) *ℤ w) c.args.limit = (let told = c.floor_of-then-factor-lt0.ensures.most in rw (factor, opposite, limit) at told) in
    λ v v_in. (let in_each = and_parts (int_le each.low v) (int_le v each.high) (c.each-each.ensures v v_in) in
    rw (floor_back, low, high, in_each.1) (and-true (int_le (pos 0 -ℤ floor) v) ∙ opposite_quotient c.args.factor c.args.limit floor v most))

pub returns-else-limit-ge0 : goal.returns-else-limit-ge0
returns-else-limit-ge0 c = λ v v_in.
    c.none.ensures v
    ∙ sym (nothing_below c.args.factor c.args.limit v (omega (arith, signed_arith, c.if-factor-gt0.false, c.if-factor-lt0.false)) (omega (arith, signed_arith, c.if-limit-ge0.false)))
