use Rattle.std.proofs.Common.{ℤ, sym, subst, arith}
use Rattle.jiff_core.proofs.SignedLemmas.{signed_arith}
use Rattle.edr_axes.specs.InstantPieces.{IsEnd}
use Rattle.edr_axes.proofs.InstantTexts.{small_back}
use Rattle.edr_axes.proofs.InstantEnds.{second_end, no_second_end, zone_end}
use Rattle.edr_axes.proofs.reading_instants.read_end.Goals as goal

pub returns-in-Some-read_zone_end-clause-value : goal.returns-in-Some-read_zone_end-clause-value
returns-in-Some-read_zone_end-clause-value c =
    let bound = c.in-Some-read_zone_end.ensures.bound in
    let P : ℤ → Type 0 = λ ahead. IsEnd c.args.text.now c.in-Some-two_digits.second ahead in
    subst P (sym (small_back c.in-Some-read_zone_end.ahead (omega (arith, signed_arith, bound))))
    (second_end c.args.text.now c.in-Some.text.now c.in-Some-two_digits.text.now c.in-Some-two_digits.second c.in-Some-read_zone_end.ahead
    c.in-Some.ensures c.in-Some-two_digits.ensures (omega arith) c.in-Some-read_zone_end.ensures.value)

pub returns-in-None-read_zone_end-clause-value : goal.returns-in-None-read_zone_end-clause-value
returns-in-None-read_zone_end-clause-value c =
    no_second_end c.args.text.now c.in-Some.text.now c.in-Some-two_digits.text.now c.in-Some-two_digits.second c.in-Some.ensures
    c.in-Some-two_digits.ensures c.in-None-read_zone_end.ensures.value

pub returns-in-Some-read_zone-clause-value : goal.returns-in-Some-read_zone-clause-value
returns-in-Some-read_zone-clause-value c =
    let bound = c.in-Some-read_zone.ensures.bound in
    let P : ℤ → Type 0 = λ ahead. IsEnd c.args.text.now 0 ahead in
    subst P (sym (small_back c.in-Some-read_zone.ahead (omega (arith, signed_arith, bound)))) (zone_end c.args.text.now c.in-Some-read_zone.ahead c.in-Some-read_zone.ensures.value)
