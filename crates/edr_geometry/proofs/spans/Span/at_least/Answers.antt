use Rattle.std.proofs.Common.{◌≡◌, ◌∙◌, ◌-ℤ◌, ◌*ℤ◌, pos, arith, rules, int_le, to_z, of_z, w64, ℤ}
use Rattle.jiff_core.proofs.SignedLemmas.{signed_arith, one_part}
use Rattle.edr_base.specs.Limits.{IsCoordinate}
use Rattle.edr_geometry.specs.Spans.{has}
use Rattle.edr_geometry.proofs.SpanLemmas.{back, at_least_is}
use Rattle.edr_geometry.proofs.spans.Span.at_least.Goals as goal

pub returns : goal.returns
returns c =
    let factor : to_z w64 (of_z w64 c.args.factor) ≡ c.args.factor = search rules in
    let limit : to_z w64 (of_z w64 c.args.limit) ≡ c.args.limit = search rules in
    let opposite : to_z w64 (of_z w64 (pos 0 -ℤ c.args.factor)) ≡ pos 0 -ℤ c.args.factor =
    back (pos 0 -ℤ c.args.factor) (omega (arith, signed_arith, c.requires.factor_in, one_part c.args.factor, one_part (pos 0 -ℤ c.args.factor))) in
    let low : to_z w64 (of_z w64 (pos 0 -ℤ c.args.limit)) ≡ pos 0 -ℤ c.args.limit =
    back (pos 0 -ℤ c.args.limit) (omega (arith, signed_arith, c.requires.limit_in, one_part c.args.limit, one_part (pos 0 -ℤ c.args.limit))) in
    let most : (v : ℤ) → IsCoordinate v → has c.at_most.result v ≡ int_le ((pos 0 -ℤ c.args.factor) *ℤ v) (pos 0 -ℤ c.args.limit) = (let told = c.at_most.ensures in rw (factor, limit, opposite, low) at told) in
    λ v v_in. most v v_in ∙ at_least_is c.args.factor c.args.limit v
