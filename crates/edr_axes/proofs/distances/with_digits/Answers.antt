use Rattle.std.proofs.Common.{ℕ, ◌+◌, ◌*◌, ◌-◌, drop, get_or, refl, arith, ◌∙◌}
use Rattle.edr_axes.proofs.DistanceLemmas.{next_digit, after-grows}
use Rattle.edr_axes.proofs.distances.with_digits.Goals as goal

pub returns-then-more-gt-DISTANCE_LIMIT : goal.returns-then-more-gt-DISTANCE_LIMIT
returns-then-more-gt-DISTANCE_LIMIT c =
    let i = c.loop-digit.digit-index in let ds = c.args.digits.now in let n = c.loop-digit.more in
    let m : ℕ = n * 10 + (get_or ds i 0 - 48) in
    let e = next_digit n i m ds c.requires.digits c.loop-digit-test.true refl in
    let g = after-grows m (drop (i + 1) ds) in
    omega (arith, g, e, c.loop-digit.invariant.0, c.if-more-gt-DISTANCE_LIMIT.true)

pub loop-digit-preserved : goal.loop-digit-preserved
loop-digit-preserved c =
    let i = c.loop-digit.digit-index in let ds = c.args.digits.now in let n = c.loop-digit.more in
    let m : ℕ = n * 10 + (get_or ds i 0 - 48) in
    (next_digit n i m ds c.requires.digits c.loop-digit-test.true refl ∙ c.loop-digit.invariant.0, c.if-more-gt-DISTANCE_LIMIT.false)
