-- Dates, and hours and minutes, as they are computed of a text, are those of the grammar.
use Rattle.std.proofs.Common.{◌≡◌, ℕ, ◌+◌, ◌*◌, ◌/◌, ◌%◌, ◌<◌, ◌≤◌, ◌&&◌, nat_le, true, List, ◌∷◌, ◌++◌, Some, ℤ, pos, refl, sym, ap, ◌∙◌, subst, arith}
use Rattle.std.proofs.lemmas.Bool.{and_parts, and_from, leb-true, le-leb}
use Rattle.jiff_core.specs.Calendar.{days_in_month, days_from_civil}
use Rattle.jiff_core.proofs.CalendarLemmas.{days_in_month_bounds}
use Rattle.edr_axes.specs.Instants.{IsDay, pad2}
use Rattle.edr_axes.specs.InstantPieces.{IsPair, BeginsWithDate, BeginsWithMinutes}
use Rattle.edr_axes.specs.InstantComputed.{two_digits, after_byte, has_day, year_at, dashed, date_at, minutes_at}
use Rattle.edr_axes.proofs.ComputedSteps.{next_tells, next_given, when_tells, when_given, byte_tells, pair_tells, pair_given}

-- ---- dates

-- a day that passes the test is one that the calendar has
day_tells : (year month day : ℕ) → has_day year month day ≡ true → IsDay year month day
day_tells year month day h =
    let a = and_parts (nat_le year 9999) _ h in
    let b = and_parts (nat_le 1 month) _ a.1 in
    let c = and_parts (nat_le month 12) _ b.1 in
    let d = and_parts (nat_le 1 day) _ c.1 in
    record {
      year_in = leb-true year 9999 a.0;
      month_in = (leb-true 1 month b.0, leb-true month 12 c.0);
      day_in = (leb-true 1 day d.0, leb-true day (days_in_month (pos year) month) d.1);
    }

-- and each such day passes it
day_given : (year month day : ℕ) → IsDay year month day → has_day year month day ≡ true
day_given year month day x =
    and_from _ _ (le-leb year 9999 x.year_in) (and_from _ _ (le-leb 1 month x.month_in.0) (and_from _ _ (le-leb month 12 x.month_in.1)
    (and_from _ _ (le-leb 1 day x.day_in.0) (le-leb day (days_in_month (pos year) month) x.day_in.1))))

-- four digits, and the number that they write
record IsYear (text : List ℕ) (year : ℕ) (rest : List ℕ) : Type 0 where
  year_in : year ≤ 9999
  text_is : text ≡ pad2 (year / 100) ++ (pad2 (year % 100) ++ rest)

-- the two numbers of two digits of a year
year_of_pairs : (text more rest : List ℕ) (a b : ℕ) → IsPair text a more → IsPair more b rest → IsYear text (a * 100 + b) rest
year_of_pairs text more rest a b p q =
    let small = p.0 in let low = q.0 in
    let century : a ≡ (a * 100 + b) / 100 = omega arith in
    let of_century : b ≡ (a * 100 + b) % 100 = omega arith in
    record {
      year_in = omega arith;
      text_is = p.1 ∙ ap (λ t. pad2 a ++ t) q.1 ∙ ap (λ c. pad2 c ++ (pad2 b ++ rest)) century ∙ ap (λ c. pad2 ((a * 100 + b) / 100) ++ (pad2 c ++ rest)) of_century;
    }

-- four digits that are found write that year
year_tells : (text : List ℕ) (r : ℕ × List ℕ) → year_at text ≡ Some r → IsYear text r.0 r.1
year_tells text r h =
    let a = next_tells (two_digits text) _ r h in
    let b = next_tells (two_digits a.0.1) _ r a.2 in
    let same : (a.0.0 * 100 + b.0.0, b.0.1) ≡ r = cc (b.2) in
    let P : ℕ × List ℕ → Type 0 = λ v. IsYear text v.0 v.1 in
    subst P same (year_of_pairs text a.0.1 b.0.1 a.0.0 b.0.0 (pair_tells text a.0 a.1) (pair_tells a.0.1 b.0 b.1))

-- a year is found in its four digits
year_given : (year : ℕ) (rest : List ℕ) → year ≤ 9999 → year_at (pad2 (year / 100) ++ (pad2 (year % 100) ++ rest)) ≡ Some (year, rest)
year_given year rest h =
    let value : year / 100 * 100 + year % 100 ≡ year = omega arith in
    next_given _ _ (year / 100, pad2 (year % 100) ++ rest) _ (pair_given (year / 100) (pad2 (year % 100) ++ rest) (omega arith))
    (next_given _ _ (year % 100, rest) _ (pair_given (year % 100) rest (omega arith)) (ap (λ v. Some (v, rest)) value))

-- a dash and two digits
dashed_tells : (text : List ℕ) (r : ℕ × List ℕ) → dashed text ≡ Some r → (text ≡ 45 ∷ (pad2 r.0 ++ r.1))
dashed_tells text r h =
    let a = next_tells (after_byte 45 text) _ r h in
    byte_tells 45 text a.0 a.1 ∙ ap (λ t. 45 ∷ t) (pair_tells a.0 r a.2).1

-- a date that is found is one of the grammar
pub date_tells : (text : List ℕ) (r : ℤ × List ℕ) → date_at text ≡ Some r → BeginsWithDate text r.0 r.1
date_tells text r h =
    let a = next_tells (year_at text) _ r h in
    let b = next_tells (dashed a.0.1) _ r a.2 in
    let c = next_tells (dashed b.0.1) _ r b.2 in
    let p = when_tells (has_day a.0.0 b.0.0 c.0.0) (days_from_civil (pos a.0.0) b.0.0 c.0.0, c.0.1) r c.2 in
    let year = year_tells text a.0 a.1 in
    let month = dashed_tells a.0.1 b.0 b.1 in
    let day = dashed_tells b.0.1 c.0 c.1 in
    let P : ℤ × List ℕ → Type 0 = λ v. BeginsWithDate text v.0 v.1 in
    subst P p.1 (record {
      year = a.0.0;
      month = b.0.0;
      day = c.0.0;
      day_is = day_tells a.0.0 b.0.0 c.0.0 p.0;
      text_is = year.text_is ∙ ap (λ t. pad2 (a.0.0 / 100) ++ (pad2 (a.0.0 % 100) ++ t)) (month ∙ ap (λ t. 45 ∷ (pad2 b.0.0 ++ t)) day);
      number_is = refl;
    })

-- and each date of the grammar is found
pub date_given : (text : List ℕ) (n : ℤ) (rest : List ℕ) → BeginsWithDate text n rest → date_at text ≡ Some (n, rest)
date_given text n rest x =
    let is = x.day_is in let bound = days_in_month_bounds (pos x.year) x.month in
    let short : x.day < 100 = let in_month = x.day_is.day_in in omega (arith, in_month, bound) in
    let in_year = x.day_is.month_in in
    rw x.text_is (
    next_given _ _ (x.year, 45 ∷ (pad2 x.month ++ (45 ∷ (pad2 x.day ++ rest)))) _ (year_given x.year _ x.day_is.year_in)
    (next_given _ _ (x.month, 45 ∷ (pad2 x.day ++ rest)) _ (pair_given x.month _ (omega (arith, in_year)))
    (next_given _ _ (x.day, rest) _ (pair_given x.day rest short)
    (when_given _ _ _ (day_given x.year x.month x.day x.day_is) (ap (λ v. (v, rest)) (sym x.number_is))))))

-- ---- hours and minutes

-- hours and minutes that are found are those of the grammar
pub minutes_tell : (text : List ℕ) (r : ℕ × List ℕ) → minutes_at text ≡ Some r → BeginsWithMinutes text r.0 r.1
minutes_tell text r h =
    let a = next_tells (two_digits text) _ r h in
    let b = next_tells (after_byte 58 a.0.1) _ r a.2 in
    let c = next_tells (two_digits b.0) _ r b.2 in
    let p = when_tells (nat_le a.0.0 23 && nat_le c.0.0 59) (a.0.0 * 3600 + c.0.0 * 60, c.0.1) r c.2 in
    let within = and_parts (nat_le a.0.0 23) (nat_le c.0.0 59) p.0 in
    let hour = (pair_tells text a.0 a.1).1 in
    let mark = byte_tells 58 a.0.1 b.0 b.1 in
    let minute = (pair_tells b.0 c.0 c.1).1 in
    let P : ℕ × List ℕ → Type 0 = λ v. BeginsWithMinutes text v.0 v.1 in
    subst P p.1 (record {
      hour = a.0.0;
      minute = c.0.0;
      hour_in = leb-true a.0.0 23 within.0;
      minute_in = leb-true c.0.0 59 within.1;
      text_is = hour ∙ ap (λ t. pad2 a.0.0 ++ t) (mark ∙ ap (λ t. 58 ∷ t) minute);
      seconds_is = refl;
    })

-- and those of the grammar are found
pub minutes_given : (text : List ℕ) (k : ℕ) (rest : List ℕ) → BeginsWithMinutes text k rest → minutes_at text ≡ Some (k, rest)
minutes_given text k rest x =
    let hours = x.hour_in in let minutes = x.minute_in in
    rw x.text_is (
    next_given _ _ (x.hour, 58 ∷ (pad2 x.minute ++ rest)) _ (pair_given x.hour _ (omega arith))
    (next_given _ _ (x.minute, rest) _ (pair_given x.minute rest (omega arith))
    (when_given _ _ _ (and_from _ _ (le-leb x.hour 23 x.hour_in) (le-leb x.minute 59 x.minute_in)) (ap (λ v. (v, rest)) (sym x.seconds_is)))))
