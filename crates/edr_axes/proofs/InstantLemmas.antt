-- Times and what a calendar and a clock show at them.
use Rattle.std.proofs.Common.{◌≡◌, ℕ, ◌+◌, ◌*◌, ◌/◌, ◌%◌, ◌<◌, List, [], ◌∷◌, ◌++◌, refl, sym, ap, subst, ◌∙◌, arith, ℤ, pos, negsuc, ◌+ℤ◌, ◌*ℤ◌, ◌≤ℤ◌}
use Rattle.std.specs.Int.{IsInRange}
use Rattle.jiff_core.specs.declared.civil.date.Date.{Date}
use Rattle.jiff_core.specs.declared.civil.datetime.DateTime.{DateTime}
use Rattle.jiff_core.specs.Calendar.{days_in_month, days_from_civil}
use Rattle.jiff_core.specs.DateTime.{civil_nanos, civil_seconds}
use Rattle.jiff_core.proofs.SignedLemmas.{signed_arith}
use Rattle.jiff_core.proofs.DateLemmas.{epoch_day_injective}
use Rattle.jiff_core.proofs.DateTimeLemmas.{civil_nanos-civil_seconds}
use Rattle.edr_axes.specs.Instants.{IsTime, Civil, IsDay, IsTimeOfDay, IsCivil, seconds_of, pad2, civil_text, day_at, clock_at, civil_at, civil_shown, instant_text, IsWritten}
use Rattle.edr_axes.proofs.CalendarLemmas.{date_of_day, year_from_zero}

-- ---- what is shown at a time

day_at-clock_at : (time : ℤ) → (time ≡ day_at time *ℤ pos 86400 +ℤ pos (clock_at time)) × (clock_at time < 86400)
unfolding day_at clock_at
day_at-clock_at (pos n) = (omega (arith, signed_arith), omega arith)
day_at-clock_at (negsuc n) = (omega (arith, signed_arith), omega arith)

time_of_day : (clock : ℕ) → clock < 86400 → IsTimeOfDay (clock / 3600) (clock / 60 % 60) (clock % 60)
time_of_day clock h = record { hour_in = omega arith; minute_in = omega arith; second_in = omega arith }

clock_parts : (clock : ℕ) → clock / 3600 * 3600 + clock / 60 % 60 * 60 + clock % 60 ≡ clock
clock_parts clock = omega arith

-- what is shown at a time
pub record IsShownAt (time : ℤ) (c : Civil) : Type 0 where
  pub civil : IsCivil c
  pub seconds : seconds_of c ≡ time

pub civil_at_is : (time : ℤ) → IsTime time → IsShownAt time (civil_at time)
unfolding civil_at seconds_of
civil_at_is time h =
    let parts = day_at-clock_at time in
    let date = date_of_day (day_at time) (omega (arith, signed_arith, h, parts), omega (arith, signed_arith, h, parts)) in
    record {
      civil = record { date = date.date; clock = time_of_day (clock_at time) parts.1 };
      seconds = rw (date.number, clock_parts (clock_at time)) (sym parts.0);
    }

-- ---- one date and time of day is shown at a time

date_of : (y m d : ℕ) → IsDay y m d → Date
date_of y m d h =
    let high = h.year_in in
    record { year = pos y; month = m; day = d; year_in = (omega (arith, signed_arith), omega (arith, signed_arith)); month_in = h.month_in; day_in = h.day_in }

date_unique : (a b : Civil) → IsDay a.year a.month a.day → IsDay b.year b.month b.day → days_from_civil (pos a.year) a.month a.day ≡ days_from_civil (pos b.year) b.month b.day → (a.year ≡ b.year) × (a.month ≡ b.month) × (a.day ≡ b.day)
unfolding date_of
date_unique a b x y e =
    let same = epoch_day_injective (date_of a.year a.month a.day x) (date_of b.year b.month b.day y) e in
    (cc (same.0), same.1, same.2)

civil_same : (a b : Civil) → a.year ≡ b.year → a.month ≡ b.month → a.day ≡ b.day → a.hour ≡ b.hour → a.minute ≡ b.minute → a.second ≡ b.second → a ≡ b
civil_same a b year month day hour minute second =
    let start : Civil = record { year = a.year; month = a.month; day = a.day; hour = a.hour; minute = a.minute; second = a.second } in
    let e : start ≡ b = rw (year, month, day, hour, minute, second) refl in
    e

pub civil_unique : (a b : Civil) → IsCivil a → IsCivil b → seconds_of a ≡ seconds_of b → a ≡ b
unfolding seconds_of
civil_unique a b x y e =
    let p = x.clock in
    let q = y.clock in
    let day : days_from_civil (pos a.year) a.month a.day ≡ days_from_civil (pos b.year) b.month b.day = omega (arith, signed_arith, e) in
    let date = date_unique a b x.date y.date day in
    let clock : a.hour * 3600 + a.minute * 60 + a.second ≡ b.hour * 3600 + b.minute * 60 + b.second = omega (arith, signed_arith, e, day) in
    civil_same a b date.0 date.1 date.2 (omega (arith, clock)) (omega (arith, clock)) (omega (arith, clock))

-- ---- a text tells what it writes

pub pair_unique : (m n : ℕ) (p q : List ℕ) → pad2 m ++ p ≡ pad2 n ++ q → (m ≡ n) × (p ≡ q)
pair_unique m n p q e =
    let tens : 48 + m / 10 ≡ 48 + n / 10 = cc e in
    let ones : 48 + m % 10 ≡ 48 + n % 10 = cc e in
    (omega (arith, tens, ones), cc e)

-- the same, where a byte stands between the digits and the rest
pub marked_unique : (m n b : ℕ) (p q : List ℕ) → pad2 m ++ (b ∷ p) ≡ pad2 n ++ (b ∷ q) → (m ≡ n) × (p ≡ q)
marked_unique m n b p q e = let both = pair_unique m n (b ∷ p) (b ∷ q) e in (both.0, cc (both.1))

pub text_unique : (a b : Civil) → civil_text a ≡ civil_text b → a ≡ b
text_unique a b e =
    let century = pair_unique (a.year / 100) (b.year / 100) _ _ e in
    let of_century = marked_unique (a.year % 100) (b.year % 100) 45 _ _ century.1 in
    let month = marked_unique a.month b.month 45 _ _ of_century.1 in
    let day = marked_unique a.day b.day 84 _ _ month.1 in
    let hour = marked_unique a.hour b.hour 58 _ _ day.1 in
    let minute = marked_unique a.minute b.minute 58 _ _ hour.1 in
    let second = marked_unique a.second b.second 90 [] [] minute.1 in
    civil_same a b (omega (arith, century.0, of_century.0)) month.0 day.0 hour.0 minute.0 second.0

-- ---- what the calendar's library shows

-- whole seconds have no fraction
shown_seconds : (dt : DateTime) (time : ℤ) → civil_nanos dt ≡ time *ℤ pos 1_000_000_000 → civil_seconds dt ≡ time
shown_seconds dt time e =
    let parts = civil_nanos-civil_seconds dt in
    let fraction = dt.time.subsec_in in
    omega (arith, signed_arith, e, parts, fraction)

shown_civil : (year : ℕ) (dt : DateTime) → pos year ≡ dt.date.year → IsCivil (civil_shown year dt)
shown_civil year dt e =
    let high = dt.date.year_in in
    let hour = dt.time.hour_in in
    let minute = dt.time.minute_in in
    let second = dt.time.second_in in
    record {
      date = record { year_in = omega (arith, signed_arith, e, high); month_in = dt.date.month_in; day_in = subst (λ y. IsInRange 1 (days_in_month y dt.date.month) dt.date.day) (sym e) dt.date.day_in };
      clock = record { hour_in = omega arith; minute_in = omega arith; second_in = omega arith };
    }

shown-seconds_of : (year : ℕ) (dt : DateTime) → pos year ≡ dt.date.year → seconds_of (civil_shown year dt) ≡ civil_seconds dt
unfolding seconds_of civil_seconds
shown-seconds_of year dt e = rw e refl

pub shown_at : (time : ℤ) (year : ℕ) (dt : DateTime) → IsTime time → civil_nanos dt ≡ time *ℤ pos 1_000_000_000 → pos year ≡ dt.date.year → civil_shown year dt ≡ civil_at time
shown_at time year dt h e same =
    let at = civil_at_is time h in
    civil_unique (civil_shown year dt) (civil_at time) (shown_civil year dt same) at.civil (shown-seconds_of year dt same ∙ shown_seconds dt time e ∙ sym at.seconds)

pub year_of_time : (time : ℤ) (dt : DateTime) → IsTime time → civil_nanos dt ≡ time *ℤ pos 1_000_000_000 → pos 0 ≤ℤ dt.date.year
unfolding civil_seconds
year_of_time time dt h e =
    let hour = dt.time.hour_in in
    let minute = dt.time.minute_in in
    let second = dt.time.second_in in
    let seconds = shown_seconds dt time e in
    year_from_zero dt.date (omega (arith, signed_arith, seconds, h.0))

-- ---- the laws

pub is_written : (time : ℤ) → IsTime time → IsWritten (instant_text time) time
unfolding instant_text
is_written time h = let at = civil_at_is time h in (civil_at time, at.civil, refl, sym at.seconds)

pub tells_time : (time other : ℤ) → IsTime time → IsTime other → instant_text time ≡ instant_text other → time ≡ other
unfolding instant_text
tells_time time other h k e =
    let a = civil_at_is time h in
    let b = civil_at_is other k in
    sym a.seconds ∙ ap seconds_of (text_unique (civil_at time) (civil_at other) e) ∙ b.seconds
