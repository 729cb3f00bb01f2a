use Rattle.std.proofs.Common.{◌≡◌, ◌≤◌, ◌+ℤ◌, ◌-ℤ◌, ◌≤ℤ◌, pos, arith, rules, subst, to_z, of_z, w64}
use Rattle.std.specs.Int.{IsIsqrt}
use Rattle.std.specs.Int.RustNames.{unsigned_abs}
use Rattle.jiff_core.proofs.SignedLemmas.{signed_arith, one_part}
use Rattle.edr_geometry.proofs.SpanLemmas.{back, root_is, root_small}
use Rattle.edr_geometry.proofs.spans.Span.about.Goals as goal

pub returns : goal.returns
returns c =
    let square = c.args.square in let centre = c.args.centre in let reach = c.isqrt-reach.result in
    let square_back : to_z w64 (of_z w64 square) ≡ square = search rules in
    let centre_back : to_z w64 (of_z w64 centre) ≡ centre = search rules in
    let root : IsIsqrt square reach = subst (λ z. IsIsqrt z reach) square_back c.isqrt-reach.ensures in
    let positive : pos 0 ≤ℤ square = omega (arith, signed_arith, c.if-square-lt0.false) in
    let small : unsigned_abs reach ≤ 500_000_000 = root_small square reach 200_000_000_000_000_000 500_000_000 root c.requires.square_in (omega arith) in
    let reach_back : to_z w64 (of_z w64 reach) ≡ reach = search rules in
    let low_back : to_z w64 (of_z w64 (centre -ℤ reach)) ≡ centre -ℤ reach = back (centre -ℤ reach) (omega (arith, signed_arith, c.requires.centre_in, small, one_part centre, one_part reach, one_part (centre -ℤ reach))) in
    let high_back : to_z w64 (of_z w64 (centre +ℤ reach)) ≡ centre +ℤ reach = back (centre +ℤ reach) (omega (arith, signed_arith, c.requires.centre_in, small, one_part centre, one_part reach, one_part (centre +ℤ reach))) in
    λ v. rw (centre_back, reach_back, low_back, high_back) (root_is square reach centre root positive v)
