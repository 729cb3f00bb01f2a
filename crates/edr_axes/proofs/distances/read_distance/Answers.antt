use Rattle.std.proofs.Common.{rules, ◌<◌, ℤ, length, sym, subst, arith, w64}
use Rattle.std.proofs.lemmas.Bool.Decides.{nat_tests}
use Rattle.std.proofs.lemmas.Int.{to_z_pos}
use Rattle.edr_base.specs.TestLaws.{holds, fails}
use Rattle.edr_axes.specs.Distances.{IsDistance}
use Rattle.edr_axes.specs.Metres.{AreDigits}
use Rattle.edr_axes.proofs.DistanceLemmas.{no_unit, no_size, no_digits, a_distance}
use Rattle.edr_axes.proofs.distances.read_distance.Goals as goal

pub returns-in_err-places : goal.returns-in_err-places
returns-in_err-places c = rw c.from_residual.ensures (no_unit c.args.number.now c.args.unit.now c.in_err-places.ensures)

pub returns-then-is_empty : goal.returns-then-is_empty
returns-then-is_empty c =
    let w = c.parts_of.result.0.now in let f = c.parts_of.result.1.now in
    no_digits c.args.number.now c.args.unit.now w f c.in_ok-places.places c.in_ok-places.ensures.1 c.parts_of.ensures.parts c.parts_of.ensures.first
    (λ some dw df. grind (arith, nat_tests, some))

pub returns-then-not-are_digits : goal.returns-then-not-are_digits
returns-then-not-are_digits c =
    let w = c.parts_of.result.0.now in let f = c.parts_of.result.1.now in
    no_digits c.args.number.now c.args.unit.now w f c.in_ok-places.places c.in_ok-places.ensures.1 c.parts_of.ensures.parts c.parts_of.ensures.first
    (λ some dw df. fails c.are_digits.result (AreDigits w) c.are_digits.ensures (search rules) dw)

pub returns-then-not-are_digits-2 : goal.returns-then-not-are_digits-2
returns-then-not-are_digits-2 c =
    let w = c.parts_of.result.0.now in let f = c.parts_of.result.1.now in
    no_digits c.args.number.now c.args.unit.now w f c.in_ok-places.places c.in_ok-places.ensures.1 c.parts_of.ensures.parts c.parts_of.ensures.first
    (λ some dw df. fails c.are_digits-2.result (AreDigits f) c.are_digits-2.ensures (search rules) df)

pub returns-in_err-size : goal.returns-in_err-size
returns-in_err-size c =
    let w = c.parts_of.result.0.now in let f = c.parts_of.result.1.now in
    rw c.from_residual-in_err-size.ensures (no_size c.args.number.now c.args.unit.now w f c.in_ok-places.places c.in_ok-places.ensures.1 c.parts_of.ensures.parts c.parts_of.ensures.first c.in_err-size.ensures)

pub returns : goal.returns
returns c =
    let w = c.parts_of.result.0.now in let f = c.parts_of.result.1.now in let s = c.in_ok-size.size in
    let some : 0 < length w = grind (arith, nat_tests) in
    let size = c.in_ok-size.ensures in
    let small = size.within in
    let P : ℤ → Type 0 = λ z. IsDistance c.args.number.now c.args.unit.now z in
    subst P (sym (to_z_pos w64 s (omega (arith, small))))
    (a_distance c.args.number.now c.args.unit.now w f c.in_ok-places.places s c.in_ok-places.ensures.1 c.parts_of.ensures.parts some
    (holds c.are_digits.result (AreDigits w) c.are_digits.ensures (search rules)) (holds c.are_digits-2.result (AreDigits f) c.are_digits-2.ensures (search rules)) size)
