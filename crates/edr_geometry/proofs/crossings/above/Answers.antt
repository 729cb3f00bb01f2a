use Rattle.std.proofs.Common.{◌≡◌, ◌∙◌, ◌+ℤ◌, ◌*ℤ◌, pos, arith, rules, to_z, of_z, w64}
use Rattle.jiff_core.proofs.SignedLemmas.{signed_arith, one_part}
use Rattle.edr_geometry.proofs.SpanLemmas.{back}
use Rattle.edr_geometry.proofs.EdgeLemmas.{above_is}
use Rattle.edr_geometry.proofs.crossings.above.Goals as goal

pub returns : goal.returns
returns c =
    let part : to_z w64 (of_z w64 c.args.part) ≡ c.args.part = search rules in
    let limit : to_z w64 (of_z w64 c.args.limit) ≡ c.args.limit = search rules in
    let next : to_z w64 (of_z w64 (c.args.limit +ℤ pos 1)) ≡ c.args.limit +ℤ pos 1 =
    back (c.args.limit +ℤ pos 1) (omega (arith, signed_arith, c.requires.limit_in, one_part c.args.limit, one_part (c.args.limit +ℤ pos 1))) in
    let told = c.at_least.ensures in
    λ v v_in. (let here = told v v_in in rw (part, limit, next) at here) ∙ above_is (c.args.part *ℤ v) c.args.limit
