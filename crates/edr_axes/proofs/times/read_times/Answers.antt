use Rattle.edr_axes.proofs.InstantTexts.{small_back}
use Rattle.jiff_core.proofs.SignedLemmas.{signed_arith}
use Rattle.std.proofs.Common.{arith}
use Rattle.edr_axes.proofs.TimesLemmas.{no_times, cut_sides, between_text, between_times}
use Rattle.edr_axes.proofs.times.read_times.Goals as goal

pub returns-in-None-clause-value : goal.returns-in-None-clause-value
returns-in-None-clause-value c = no_times c.args.text.now c.in_default.ensures c.in-None.ensures

pub returns-in_default-read_side-clause-value : goal.returns-in_default-read_side-clause-value
returns-in_default-read_side-clause-value c times is =
    let s = cut_sides c.args.text.now c.in-Some.front.now c.in-Some.back.now c.in-Some.ensures times is in
    c.in_default-read_side.ensures.value s.first s.first_is

pub returns-in_default-read_side-2-clause-value : goal.returns-in_default-read_side-2-clause-value
returns-in_default-read_side-2-clause-value c times is =
    let s = cut_sides c.args.text.now c.in-Some.front.now c.in-Some.back.now c.in-Some.ensures times is in
    c.in_default-read_side-2.ensures.value s.last s.last_is

pub returns-clause-value : goal.returns-clause-value
returns-clause-value c =
    between_text c.args.text.now c.in-Some.front.now c.in-Some.back.now c.in-Some-read_side.first c.in-Some-read_side-2.last c.between.result c.in-Some.ensures
    c.in-Some-read_side.ensures.value c.in-Some-read_side-2.ensures.value c.between.ensures

pub returns-clause-times : goal.returns-clause-times
returns-clause-times c =
    between_times c.in-Some-read_side.first c.in-Some-read_side-2.last c.between.result c.in-Some-read_side.ensures.time c.in-Some-read_side-2.ensures.time
    c.between.ensures

pub returns-in-Some-read_instant-clause-value : goal.returns-in-Some-read_instant-clause-value
returns-in-Some-read_instant-clause-value c =
    let time_in = c.in-Some-read_instant.ensures.time_in in
    rw (small_back c.in-Some-read_instant.time (omega (arith, signed_arith, time_in))) c.in-Some-read_instant.ensures
