use Rattle.edr_axes.proofs.InstantTexts.{small_back}
use Rattle.jiff_core.proofs.SignedLemmas.{signed_arith}
use Rattle.std.proofs.Common.{arith, ◌≡◌, inr, pos, neg_ℤ, ◌-ℤ◌}
use Rattle.edr_axes.proofs.InstantEnds.{no_zone, plus_zone}
use Rattle.edr_axes.proofs.reading_instants.zone_of.Goals as goal

pub returns-in-43-clause-value : goal.returns-in-43-clause-value
returns-in-43-clause-value c = plus_zone c.args.first c.args.rest.now c.read_offset.result c.in-43.is c.read_offset.ensures.value

pub returns-in-None-clause-value : goal.returns-in-None-clause-value
returns-in-None-clause-value c = let is = c.in-45.is in no_zone c.args.first c.args.rest.now c.in-None.ensures.value (omega arith)

pub returns-in-Some-clause-value : goal.returns-in-Some-clause-value
returns-in-Some-clause-value c =
    let seconds = c.in-Some.seconds in
    let bound = c.in-Some.ensures.bound in
    let same = small_back seconds (omega (arith, signed_arith, bound)) in
    let turned = small_back (pos 0 -ℤ seconds) (omega (arith, signed_arith, bound)) in
    let back : neg_ℤ (pos 0 -ℤ seconds) ≡ seconds = omega (arith, signed_arith) in
    inr (inr (c.in-45.is, rw (same, turned, back) c.in-Some.ensures.value))
