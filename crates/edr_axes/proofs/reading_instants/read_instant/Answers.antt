use Rattle.edr_axes.proofs.InstantTexts.{small_back}
use Rattle.jiff_core.proofs.SignedLemmas.{signed_arith}
use Rattle.std.proofs.Common.{arith}
use Rattle.edr_axes.proofs.InstantWholes.{no_date, no_mark, no_minutes, no_end, time_of_bits, whole}
use Rattle.edr_axes.proofs.reading_instants.read_instant.Goals as goal

pub returns-in_default : goal.returns-in_default
returns-in_default c = no_date c.args.text.now c.in_default.ensures.value

pub returns-in_default-after_mark : goal.returns-in_default-after_mark
returns-in_default-after_mark c = no_mark c.args.text.now c.in-Some.text.now c.in-Some.day c.in-Some.ensures.value c.in_default-after_mark.ensures

pub returns-in_default-read_minutes : goal.returns-in_default-read_minutes
returns-in_default-read_minutes c =
    no_minutes c.args.text.now c.in-Some.text.now c.in-Some-after_mark.text.now c.in-Some.day c.in-Some.ensures.value c.in-Some-after_mark.ensures
    c.in_default-read_minutes.ensures.value

pub returns-in_default-read_end : goal.returns-in_default-read_end
returns-in_default-read_end c =
    no_end c.args.text.now c.in-Some.text.now c.in-Some-after_mark.text.now c.in-Some-read_minutes.text.now c.in-Some.day c.in-Some-read_minutes.seconds
    c.in-Some.ensures.value c.in-Some-after_mark.ensures c.in-Some-read_minutes.ensures.value c.in_default-read_end.ensures.value

pub returns : goal.returns
returns c =
    let day = c.in-Some.ensures.bound in
    let seconds = c.in-Some-read_minutes.ensures.bound in
    let second = c.in-Some-read_end.ensures.second in
    whole c.args.text.now c.in-Some.text.now c.in-Some-after_mark.text.now c.in-Some-read_minutes.text.now c.in-Some.day c.in-Some-read_end.ahead _
    c.in-Some-read_minutes.seconds c.in-Some-read_end.second c.within_years.result c.in-Some.ensures.value c.in-Some-after_mark.ensures
    c.in-Some-read_minutes.ensures.value c.in-Some-read_end.ensures.value
    (time_of_bits c.time_at.result c.in-Some.day c.in-Some-read_end.ahead _ day c.in-Some-read_end.ensures.ahead (omega arith) c.time_at.ensures)
    c.within_years.ensures

pub time_at-requires-clause-day_in : goal.time_at-requires-clause-day_in
time_at-requires-clause-day_in c =
    let bound = c.in-Some.ensures.bound in
    rw (small_back c.in-Some.day (omega (arith, signed_arith, bound))) bound
