-- Texts that break off inside a date, a time of day or a zone, and what a text that doesn't says.
use Rattle.std.proofs.Common.{◌≡◌, ℕ, ◌+◌, ◌*◌, ◌-◌, ◌/◌, ◌%◌, ◌<◌, ◌≤◌, List, [], ◌∷◌, ◌++◌, length, get_or, take, drop, refl, sym, ap, ◌∙◌, arith, ℤ, pos, neg_ℤ, to_z, of_z, to_z-of_z, w64}
use Rattle.std.proofs.lemmas.List.{take_all}
use Rattle.jiff_core.proofs.SignedLemmas.{signed_arith, fits_between}
use Rattle.jiff_core.proofs.CalendarLemmas.{days_in_month_bounds}
use Rattle.jiff_core.specs.Calendar.{IsBetween, days_from_civil}
use Rattle.edr_axes.specs.Instants.{IsDay, pad2}
use Rattle.edr_axes.specs.InstantGrammar.{IsOffset}
use Rattle.edr_axes.proofs.InstantLemmas.{pair_unique, marked_unique}
use Rattle.edr_axes.specs.InstantPieces.{IsPair, HasNoPair, BeginsWithDate, HasNoDate, BeginsWithMinutes, HasNoMinutes, HasNoOffset}

-- a number that isn't large comes back from its bits as it was
pub small_back : (z : ℤ) → IsBetween (neg_ℤ (pos 1_000_000_000_000)) (pos 1_000_000_000_000) z → to_z w64 (of_z w64 z) ≡ z
small_back z h = to_z-of_z (fits_between w64 z (omega (arith, signed_arith, h)))

-- ---- two digits

-- a text that begins with two digits
pub pair_begins : (text : List ℕ) → 2 ≤ length text → 48 ≤ get_or text 0 0 → get_or text 0 0 ≤ 57 → 48 ≤ get_or text 1 0 → get_or text 1 0 ≤ 57
    → IsPair text ((get_or text 0 0 - 48) * 10 + (get_or text 1 0 - 48)) (take (length text - 2) (drop 2 text))
pair_begins [] long a b c d = absurd (omega arith)
pair_begins (tens ∷ []) long a b c d = absurd (omega arith)
pair_begins (tens ∷ (ones ∷ rest)) long a b c d =
    let n : ℕ = (tens - 48) * 10 + (ones - 48) in
    let first : 48 + n / 10 ≡ tens = omega arith in
    let second : 48 + n % 10 ≡ ones = omega arith in
    (omega arith, rw (first, second, take_all (length (tens ∷ (ones ∷ rest)) - 2) rest (omega arith)) refl)

-- ---- dates

-- the numbers of a date are written by two digits each
pub record AreShort (year month day : ℕ) : Type 0 where
  pub century : year / 100 < 100
  pub of_century : year % 100 < 100
  pub month_in : month < 100
  pub day_in : day < 100

pub short_date : (year month day : ℕ) → IsDay year month day → AreShort year month day
short_date year month day h =
    let a = h.year_in in let b = h.month_in in let c = h.day_in in let e = days_in_month_bounds (pos year) month in
    record { century = omega arith; of_century = omega arith; month_in = omega arith; day_in = omega (arith, c, e) }

-- no month follows the year
pub no_month : (text t1 t2 t3 : List ℕ) (a b : ℕ) → IsPair text a t1 → IsPair t1 b t2 → t2 ≡ 45 ∷ t3 → HasNoPair t3
    → HasNoDate text
no_month text t1 t2 t3 a b p q e none n rest x =
    let f : t3 ≡ pad2 x.month ++ (45 ∷ (pad2 x.day ++ rest)) = cc (p.1, q.1, e, x.text_is) in
    none x.month _ ((short_date x.year x.month x.day x.day_is).month_in, f)

-- no day follows the month
pub no_day : (text t1 t2 t3 t4 t5 : List ℕ) (a b c : ℕ) → IsPair text a t1 → IsPair t1 b t2 → t2 ≡ 45 ∷ t3
    → IsPair t3 c t4 → t4 ≡ 45 ∷ t5
    → HasNoPair t5 → HasNoDate text
no_day text t1 t2 t3 t4 t5 a b c p q e r f none n rest x =
    let g : t5 ≡ pad2 x.day ++ rest = cc (p.1, q.1, e, r.1, f, x.text_is) in
    none x.day _ ((short_date x.year x.month x.day x.day_is).day_in, g)

-- a day of the calendar
pub date_begins : (text t1 t2 t3 t4 t5 t6 : List ℕ) (a b c d : ℕ) (n : ℤ) → IsPair text a t1 → IsPair t1 b t2 → t2 ≡ 45 ∷ t3
    → IsPair t3 c t4 → t4 ≡ 45 ∷ t5
    → IsPair t5 d t6 → IsDay (a * 100 + b) c d → n ≡ days_from_civil (pos (a * 100 + b)) c d → BeginsWithDate text n t6
date_begins text t1 t2 t3 t4 t5 t6 a b c d n p q e r f s is number =
    let high : (a * 100 + b) / 100 ≡ a = omega (arith, q.0) in
    let low : (a * 100 + b) % 100 ≡ b = omega (arith, q.0) in
    let text_is : text ≡ pad2 a ++ (pad2 b ++ (45 ∷ (pad2 c ++ (45 ∷ (pad2 d ++ t6))))) = cc (p.1, q.1, e, r.1, f, s.1) in
    record { year = a * 100 + b; month = c; day = d; day_is = is; text_is = rw (high, low) text_is; number_is = number }

-- the calendar has no such day
pub no_such_day : (text t1 t2 t3 t4 t5 t6 : List ℕ) (a b c d : ℕ) → IsPair text a t1 → IsPair t1 b t2 → t2 ≡ 45 ∷ t3
    → IsPair t3 c t4 → t4 ≡ 45 ∷ t5
    → IsPair t5 d t6 → ¬ (IsDay (a * 100 + b) c d) → HasNoDate text
no_such_day text t1 t2 t3 t4 t5 t6 a b c d p q e r f s none n rest x =
    let century = pair_unique a (x.year / 100) t1 _ (sym p.1 ∙ x.text_is) in
    let years = marked_unique b (x.year % 100) 45 t3 _ (ap (λ t. pad2 b ++ t) (sym e) ∙ sym q.1 ∙ century.1) in
    let months = marked_unique c x.month 45 t5 _ (ap (λ t. pad2 c ++ t) (sym f) ∙ sym r.1 ∙ years.1) in
    let days = pair_unique d x.day t6 rest (sym s.1 ∙ months.1) in
    let year : a * 100 + b ≡ x.year = omega (arith, century.0, years.0) in
    none (rw (year, months.0, days.0) x.day_is)

-- a text begins with at most one date, with one rest
pub date_unique : (text : List ℕ) (n k : ℤ) (p q : List ℕ) → BeginsWithDate text n p → BeginsWithDate text k q
    → (n ≡ k) × (p ≡ q)
date_unique text n k p q x y =
    let century = pair_unique (x.year / 100) (y.year / 100) _ _ (sym x.text_is ∙ y.text_is) in
    let years = marked_unique (x.year % 100) (y.year % 100) 45 _ _ century.1 in
    let months = marked_unique x.month y.month 45 _ _ years.1 in
    let days = pair_unique x.day y.day p q months.1 in
    let year : x.year ≡ y.year = omega (arith, century.0, years.0) in
    let number : days_from_civil (pos x.year) x.month x.day ≡ days_from_civil (pos y.year) y.month y.day = rw (year, months.0, days.0) refl in
    (x.number_is ∙ number ∙ sym y.number_is, days.1)

-- ---- hours and minutes

pub minutes_unique : (text : List ℕ) (k l : ℕ) (p q : List ℕ) → BeginsWithMinutes text k p → BeginsWithMinutes text l q
    → (k ≡ l) × (p ≡ q)
minutes_unique text k l p q x y =
    let hours = marked_unique x.hour y.hour 58 _ _ (sym x.text_is ∙ y.text_is) in
    let minutes = pair_unique x.minute y.minute p q hours.1 in
    let g = x.seconds_is in let j = y.seconds_is in
    (omega (arith, hours.0, minutes.0, g, j), minutes.1)

-- an offset is hours and minutes and nothing after them
pub minutes_of_offset : (text : List ℕ) (seconds : ℤ) (o : IsOffset text seconds)
    → BeginsWithMinutes text (o.hour * 3600 + o.minute * 60) []
minutes_of_offset text seconds o = record { hour = o.hour; minute = o.minute; hour_in = o.hour_in; minute_in = o.minute_in; text_is = o.text_is; seconds_is = refl }

pub no_offset : (text : List ℕ) → HasNoMinutes text → HasNoOffset text
no_offset text none seconds o = none _ [] (minutes_of_offset text seconds o)

pub no_offset_end : (text rest : List ℕ) (k : ℕ) → BeginsWithMinutes text k rest → ¬ (rest ≡ []) → HasNoOffset text
no_offset_end text rest k x more seconds o = more (minutes_unique text k _ rest [] x (minutes_of_offset text seconds o)).1

pub offset_unique : (text : List ℕ) (z w : ℤ) → IsOffset text z → IsOffset text w → z ≡ w
offset_unique text z w x y =
    let same = (minutes_unique text _ _ [] [] (minutes_of_offset text z x) (minutes_of_offset text w y)).0 in
    x.seconds_is ∙ ap pos same ∙ sym y.seconds_is
