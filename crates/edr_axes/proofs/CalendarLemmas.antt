-- The date of a day, from the years and months that have begun.
use Rattle.std.proofs.Common.{◌≡◌, inl, inr, ℕ, zero, suc, ◌+◌, ◌-◌, ◌<◌, ◌≤◌, refl, subst, arith, ℤ, pos, neg_ℤ, ◌+ℤ◌, ◌-ℤ◌, ◌<ℤ◌, ◌≤ℤ◌, unsigned_abs}
use Rattle.std.proofs.lemmas.Bool.{cases_lt}
use Rattle.std.proofs.lemmas.Int.{by_lt_z, ints}
use Rattle.jiff_core.specs.Calendar.{days_in_month, day_count, days_from_civil}
use Rattle.jiff_core.proofs.SignedLemmas.{signed_arith, one_part}
use Rattle.jiff_core.proofs.CalendarLemmas.{days_from_civil-day_count, day_count-day_of_year, day_count-later_year, day_count-next_year, day_count-lt_year, day_count-day, day_count-next_month, day_count-last_of_year, day_count-end, days_of_months_mono}
use Rattle.jiff_core.specs.declared.civil.date.Date.{Date}
use Rattle.jiff_core.specs.Date.{epoch_day}
use Rattle.jiff_core.proofs.DateLemmas.{civil}
use Rattle.jiff_core.proofs.MarchLemmas.{day_count-early}
use Rattle.edr_axes.specs.Instants.{IsDay, begun_count, year_of, month_of, day_of}

-- the periods from 1 to n begin one after another
abbrev pub AreInOrder : (ℕ → ℤ) → ℕ → Type 0
AreInOrder first n = (j k : ℕ) → 1 ≤ j → j ≤ k → k ≤ n → first j ≤ℤ first k

-- of n periods, the first `count` have begun by the day
pub record HasBegun (first : ℕ → ℤ) (n : ℕ) (day : ℤ) (count : ℕ) : Type 0 where
  pub within : count ≤ n
  pub last : 1 ≤ count → first count ≤ℤ day
  pub next : count < n → day <ℤ first (suc count)

begun_count-here : (first : ℕ → ℤ) (n : ℕ) (day : ℤ) → first (suc n) ≤ℤ day → begun_count first (suc n) day ≡ suc (begun_count first n day)
unfolding begun_count
begun_count-here first n day h = grind (arith, ints)

begun_count-later : (first : ℕ → ℤ) (n : ℕ) (day : ℤ) → day <ℤ first (suc n) → begun_count first (suc n) day ≡ begun_count first n day
unfolding begun_count
begun_count-later first n day h = grind (arith, ints)

HasBegun-later : (first : ℕ → ℤ) (n : ℕ) (day : ℤ) (count : ℕ) → HasBegun first n day count → day <ℤ first (suc n) → HasBegun first (suc n) day count
HasBegun-later first n day count so_far before =
    let inside = so_far.within in
    record {
      within = omega arith;
      last = so_far.last;
      next = λ h. elim (cases_lt count n) [ inl lt ↦ so_far.next lt | inr ge ↦ (let same : n ≡ count = omega arith in subst (λ k. day <ℤ first (suc k)) same before) ];
    }

HasBegun-here : (first : ℕ → ℤ) (n : ℕ) (day : ℤ) (count : ℕ) → AreInOrder first (suc n) → HasBegun first n day count → first (suc n) ≤ℤ day → HasBegun first (suc n) day (suc count)
HasBegun-here first n day count order so_far after =
    let inside = so_far.within in
    let all : n ≡ count = elim (cases_lt count n) [
      | inl lt ↦ absurd (omega (arith, signed_arith, so_far.next lt, order (suc count) (suc n) (omega arith) (omega arith) (omega arith)))
      | inr ge ↦ omega arith
    ] in
    record {
      within = omega arith;
      last = λ h. subst (λ k. first (suc k) ≤ℤ day) all after;
      next = λ h. absurd (omega arith);
    }

pub has_begun : (first : ℕ → ℤ) (n : ℕ) (day : ℤ) → AreInOrder first n → HasBegun first n day (begun_count first n day)
has_begun first zero day order =
    unfold begun_count in record { within = omega arith; last = λ h. absurd (omega arith); next = λ h. absurd (omega arith) }
has_begun first (suc n) day order =
    let so_far = has_begun first n day (λ j k low along high. order j k low along (omega arith)) in
    by_lt_z day (first (suc n))
    (λ before. rw (begun_count-later first n day before) (HasBegun-later first n day _ so_far before))
    (λ after. rw (begun_count-here first n day after) (HasBegun-here first n day _ order so_far after))

-- the first days of years, and of the months of a year, are in order
years_in_order : AreInOrder (λ year. days_from_civil (pos year) 1 1) 9999
years_in_order j k low along high =
    elim (cases_lt j k) [
      | inl lt ↦ omega (arith, signed_arith, days_from_civil-day_count (pos j) 1 1, days_from_civil-day_count (pos k) 1 1, day_count-later_year (pos j) (pos k) (omega (arith, signed_arith)) (omega (arith, signed_arith)))
      | inr ge ↦ (let same : k ≡ j = omega arith in rw same (omega (arith, signed_arith)))
    ]

months_in_order : (y : ℤ) → AreInOrder (λ month. days_from_civil y month 1) 12
months_in_order y j k low along high =
    let later = days_of_months_mono y (j - 1) (k - 1) (omega arith) in
    omega (arith, signed_arith, days_from_civil-day_count y j 1, days_from_civil-day_count y k 1, day_count-day_of_year y j 1 (omega arith), day_count-day_of_year y k 1 (omega arith))

-- days of the years 0000 to 9999
abbrev pub IsDayNumber : ℤ → Type 0
IsDayNumber day = (neg_ℤ (pos 719_528) ≤ℤ day) × (day ≤ℤ pos 2_932_896)

day_count-zero : day_count (pos 0) 1 1 ≡ 3_652_425
day_count-zero = day_count-early (pos 0) 9999 1 1 refl (omega arith) (omega arith) (omega arith)

-- a day stands in its year
pub record StandsInYear (day : ℤ) (year : ℕ) : Type 0 where
  pub within : year ≤ 9999
  pub from : days_from_civil (pos year) 1 1 ≤ℤ day
  pub before : day <ℤ days_from_civil (pos (suc year)) 1 1

stands_in_year : (day : ℤ) (year : ℕ) → IsDayNumber day → HasBegun (λ y. days_from_civil (pos y) 1 1) 9999 day year → StandsInYear day year
stands_in_year day year h b =
    let inside = b.within in
    record {
      within = inside;
      from = elim (cases_lt 0 year) [
        | inl lt ↦ b.last (omega arith)
        | inr ge ↦ (let zero_year : year ≡ 0 = omega arith in rw zero_year (omega (arith, signed_arith, h.0, days_from_civil-day_count (pos 0) 1 1, day_count-zero)))
      ];
      before = elim (cases_lt year 9999) [
        | inl lt ↦ b.next lt
        | inr ge ↦ (let last_year : year ≡ 9999 = omega arith in rw last_year (omega (arith, signed_arith, h.1, days_from_civil-day_count (pos 10000) 1 1, day_count-end)))
      ];
    }

-- a day stands in its month
pub record StandsInMonth (day year : ℤ) (month : ℕ) : Type 0 where
  pub within : (1 ≤ month) × (month ≤ 12)
  pub from : days_from_civil year month 1 ≤ℤ day
  pub before : day <ℤ (days_from_civil year month 1 +ℤ pos (days_in_month year month))

-- a year ends with the 31 days of December
december_end : (year : ℕ) → days_from_civil (pos (suc year)) 1 1 ≡ days_from_civil (pos year) 12 1 +ℤ pos 31
december_end year =
    omega (arith, signed_arith, days_from_civil-day_count (pos (suc year)) 1 1, days_from_civil-day_count (pos year) 12 1, day_count-next_year (pos year) (pos (suc year)) (omega (arith, signed_arith)) (omega (arith, signed_arith)), day_count-last_of_year (pos year), day_count-day (pos year) 12 1 31 (omega arith) (omega arith))

month_end : (year : ℤ) (month : ℕ) → 1 ≤ month → days_from_civil year (suc month) 1 ≡ days_from_civil year month 1 +ℤ pos (days_in_month year month)
month_end year month h =
    let next : month + 1 ≡ suc month = omega arith in
    omega (arith, signed_arith, days_from_civil-day_count year (suc month) 1, days_from_civil-day_count year month 1, rw next at (day_count-next_month year month h))

stands_in_month : (day : ℤ) (year month : ℕ) → StandsInYear day year → HasBegun (λ m. days_from_civil (pos year) m 1) 12 day month → StandsInMonth day (pos year) month
stands_in_month day year month y b =
    let inside = b.within in
    let some : 1 ≤ month = elim (cases_lt 0 month) [
      | inl lt ↦ omega arith
      | inr ge ↦ (let none : month ≡ 0 = omega arith in let soon = b.next (omega arith) in absurd (omega (arith, signed_arith, y.from, rw none at soon)))
    ] in
    record {
      within = (some, inside);
      from = b.last some;
      before = elim (cases_lt month 12) [
        | inl lt ↦ rw (← month_end (pos year) month some) (b.next lt)
        | inr ge ↦ (let last : month ≡ 12 = omega arith in rw last (omega (arith, signed_arith, y.before, december_end year)))
      ];
    }

pub record IsDateOf (day : ℤ) (y m d : ℕ) : Type 0 where
  pub date : IsDay y m d
  pub number : days_from_civil (pos y) m d ≡ day

-- how far the greater of two numbers is from the less
ahead : (a b : ℤ) → a ≤ℤ b → a +ℤ pos (unsigned_abs (b -ℤ a)) ≡ b
ahead a b h = omega (arith, signed_arith, h, one_part (b -ℤ a))

date_in_month : (day : ℤ) (year month : ℕ) → year ≤ 9999 → StandsInMonth day (pos year) month → IsDateOf day year month (unsigned_abs (day -ℤ days_from_civil (pos year) month 1) + 1)
date_in_month day year month high m =
    let inside = m.within in
    let first = days_from_civil (pos year) month 1 in
    let d = unsigned_abs (day -ℤ first) + 1 in
    let gone = ahead first day m.from in
    record {
      date = record { year_in = high; month_in = inside; day_in = (omega arith, omega (arith, signed_arith, gone, m.before)) };
      number = omega (arith, signed_arith, gone, days_from_civil-day_count (pos year) month d, days_from_civil-day_count (pos year) month 1, day_count-day (pos year) month 1 d (omega arith) (omega arith));
    }

-- the year, month and day of a day are its date
pub date_of_day : (day : ℤ) → IsDayNumber day → IsDateOf day (year_of day) (month_of day) (day_of day)
unfolding year_of month_of day_of
date_of_day day h =
    let in_year = stands_in_year day _ h (has_begun (λ y. days_from_civil (pos y) 1 1) 9999 day years_in_order) in
    let year = begun_count (λ y. days_from_civil (pos y) 1 1) 9999 day in
    let in_month = stands_in_month day year _ in_year (has_begun (λ m. days_from_civil (pos year) m 1) 12 day (months_in_order (pos year))) in
    date_in_month day year _ in_year.within in_month

-- a date from the year 0000 on has a year that isn't negative
pub year_from_zero : (d : Date) → neg_ℤ (pos 719_528) ≤ℤ epoch_day d → pos 0 ≤ℤ d.year
year_from_zero d h =
    by_lt_z d.year (pos 0)
    (λ lt. absurd (omega (arith, signed_arith, day_count-lt_year d.year d.month d.day (pos 0) 1 1 (civil d) (omega arith) lt, day_count-zero, days_from_civil-day_count d.year d.month d.day, h)))
    (λ ge. ge)
