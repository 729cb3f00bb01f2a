use Rattle.jiff_core.proofs.SignedLemmas.{signed_arith}
use Rattle.std.proofs.Common.{arith}
use Rattle.edr_axes.proofs.InstantTexts.{no_month, no_day, no_such_day, small_back, date_begins}
use Rattle.edr_axes.proofs.reading_instants.read_date.Goals as goal

pub returns-in_default-two_digits-2-clause-value : goal.returns-in_default-two_digits-2-clause-value
returns-in_default-two_digits-2-clause-value c =
    no_month c.args.text.now c.in-Some.text.now c.in-Some-two_digits.text.now c.in-Some-without_front.text.now c.in-Some.century c.in-Some-two_digits.of_century
    c.in-Some.ensures c.in-Some-two_digits.ensures c.in-Some-without_front.ensures c.in_default-two_digits-2.ensures

pub returns-in_default-two_digits-3-clause-value : goal.returns-in_default-two_digits-3-clause-value
returns-in_default-two_digits-3-clause-value c =
    no_day c.args.text.now c.in-Some.text.now c.in-Some-two_digits.text.now c.in-Some-without_front.text.now c.in-Some-two_digits-2.text.now
    c.in-Some-without_front-2.text.now c.in-Some.century c.in-Some-two_digits.of_century c.in-Some-two_digits-2.month
    c.in-Some.ensures c.in-Some-two_digits.ensures c.in-Some-without_front.ensures c.in-Some-two_digits-2.ensures c.in-Some-without_front-2.ensures
    c.in_default-two_digits-3.ensures

pub returns-in-None-clause-value : goal.returns-in-None-clause-value
returns-in-None-clause-value c =
    no_such_day c.args.text.now c.in-Some.text.now c.in-Some-two_digits.text.now c.in-Some-without_front.text.now c.in-Some-two_digits-2.text.now
    c.in-Some-without_front-2.text.now c.in-Some-two_digits-3.text.now c.in-Some.century c.in-Some-two_digits.of_century c.in-Some-two_digits-2.month
    c.in-Some-two_digits-3.day c.in-Some.ensures c.in-Some-two_digits.ensures c.in-Some-without_front.ensures c.in-Some-two_digits-2.ensures
    c.in-Some-without_front-2.ensures c.in-Some-two_digits-3.ensures c.in-None.ensures.value

pub returns-in-Some-day_number-clause-value : goal.returns-in-Some-day_number-clause-value
returns-in-Some-day_number-clause-value c =
    let day = c.in-Some-day_number.ensures.value in
    let bound = c.in-Some-day_number.ensures.bound in
    rw (small_back c.in-Some-day_number.number (omega (arith, signed_arith, bound)))
    (date_begins c.args.text.now c.in-Some.text.now c.in-Some-two_digits.text.now c.in-Some-without_front.text.now c.in-Some-two_digits-2.text.now
    c.in-Some-without_front-2.text.now c.in-Some-two_digits-3.text.now c.in-Some.century c.in-Some-two_digits.of_century c.in-Some-two_digits-2.month
    c.in-Some-two_digits-3.day c.in-Some-day_number.number c.in-Some.ensures c.in-Some-two_digits.ensures c.in-Some-without_front.ensures
    c.in-Some-two_digits-2.ensures c.in-Some-without_front-2.ensures c.in-Some-two_digits-3.ensures day.0 day.1)
