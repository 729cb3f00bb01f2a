-- For private clauses, and for the calls between the readers of CoverageJSON: the instant that a text is, as it is computed, piece by piece, each with the bytes after it.
use Rattle.std.specs.Prelude.{◌≡◌, ◌↔◌, ℕ, ◌+◌, ◌-◌, ◌*◌, ◌==◌, nat_le, ℤ, pos, neg_ℤ, ◌+ℤ◌, ◌-ℤ◌, ◌*ℤ◌, int_le, Bool, ◌&&◌, ◌||◌, if◌then◌else◌, List, [], ◌∷◌, Option, Some, None, option_map, option_and_then}
use Rattle.jiff_core.specs.Calendar.{days_in_month, days_from_civil}
use Rattle.edr_base.specs.Limits.{earliest_time, latest_time}
use Rattle.edr_axes.specs.InstantGrammar.{IsInstant}

-- the piece that the next makes of one that is there
abbrev pub and_next : {T U : Type 0} → Option T → (T → Option U) → Option U
and_next piece next = option_and_then next piece

-- a value, where a test is passed
abbrev pub when : {T : Type 0} → Bool → T → Option T
when test value = if test then Some value else None

-- a value, where no bytes are left
abbrev pub at_end : {T : Type 0} → List ℕ → T → Option T
at_end [] value = Some value
at_end (byte ∷ rest) value = None

-- `0` to `9`
abbrev pub is_digit : ℕ → Bool
is_digit byte = nat_le 48 byte && nat_le byte 57

-- a capital letter or the same letter small
abbrev pub is_letter : ℕ → ℕ → Bool
is_letter capital byte = (byte == capital) || (byte == capital + 32)

-- two digits, and the number that they write
abbrev pub two_digits : List ℕ → Option (ℕ × List ℕ)
two_digits [] = None
two_digits (tens ∷ []) = None
two_digits (tens ∷ (ones ∷ rest)) = when (is_digit tens && is_digit ones) ((tens - 48) * 10 + (ones - 48), rest)

-- that byte
abbrev pub after_byte : ℕ → List ℕ → Option (List ℕ)
after_byte byte [] = None
after_byte byte (first ∷ rest) = when (first == byte) rest

-- that letter, a capital or small
abbrev pub after_letter : ℕ → List ℕ → Option (List ℕ)
after_letter capital [] = None
after_letter capital (first ∷ rest) = when (is_letter capital first) rest

-- the calendar has the day, in the years 0000 to 9999
abbrev pub has_day : ℕ → ℕ → ℕ → Bool
has_day year month day =
    nat_le year 9999 && (nat_le 1 month && (nat_le month 12 && (nat_le 1 day && nat_le day (days_in_month (pos year) month))))

-- `YYYY`
abbrev pub year_at : List ℕ → Option (ℕ × List ℕ)
year_at text =
    and_next (two_digits text) (λ century. and_next (two_digits century.1) (λ of_century. Some (century.0 * 100 + of_century.0, of_century.1)))

-- `-` and two digits
abbrev pub dashed : List ℕ → Option (ℕ × List ℕ)
dashed text = and_next (after_byte 45 text) two_digits

-- `YYYY-MM-DD`, a day that the calendar has, and its number: 0 for 1 January 1970
abbrev pub date_at : List ℕ → Option (ℤ × List ℕ)
date_at text =
    and_next (year_at text) (λ year. and_next (dashed year.1) (λ month. and_next (dashed month.1) (λ day.
    when (has_day year.0 month.0 day.0) (days_from_civil (pos year.0) month.0 day.0, day.1))))

-- `HH:MM`, and so many seconds
abbrev pub minutes_at : List ℕ → Option (ℕ × List ℕ)
minutes_at text =
    and_next (two_digits text) (λ hour. and_next (after_byte 58 hour.1) (λ rest. and_next (two_digits rest) (λ minute.
    when (nat_le hour.0 23 && nat_le minute.0 59) (hour.0 * 3600 + minute.0 * 60, minute.1))))

-- zeros, of which there may be none
abbrev pub after_zeros : List ℕ → List ℕ
after_zeros [] = []
after_zeros (byte ∷ rest) = if byte == 48 then after_zeros rest else byte ∷ rest

-- `.` and one or more zeros, which may be left out
abbrev pub after_fraction : List ℕ → Option (List ℕ)
after_fraction [] = Some []
after_fraction (first ∷ rest) =
    if first == 46 then and_next (after_byte 48 rest) (λ more. Some (after_zeros more)) else Some (first ∷ rest)

-- `:SS` and a fraction; left out they are 0
abbrev pub second_at : List ℕ → Option (ℕ × List ℕ)
second_at [] = Some (0, [])
second_at (first ∷ rest) =
    if first == 58 then and_next (two_digits rest) (λ second. and_next (after_fraction second.1) (λ more. when (nat_le second.0 59) (second.0, more)))
    else Some (0, first ∷ rest)

-- `HH:MM` and nothing after it, an offset of so many seconds
abbrev pub offset_of : List ℕ → Option ℤ
offset_of text = and_next (minutes_at text) (λ minutes. at_end minutes.1 (pos minutes.0))

-- a zone, and the seconds that its clocks are ahead: `Z`, or `+`, a space or `-` and an offset
abbrev pub zone_of : List ℕ → Option ℤ
zone_of [] = None
zone_of (first ∷ rest) =
    if is_letter 90 first then at_end rest (pos 0)
    else (if (first == 43) || (first == 32) then offset_of rest else (if first == 45 then option_map neg_ℤ (offset_of rest) else None))

-- a time in the years 0000 to 9999
abbrev pub time_in_years : ℤ → Option ℤ
time_in_years time = when (int_le earliest_time time && int_le time latest_time) time

-- a date, `T`, hours and minutes, seconds, and a zone, whose offset is taken off
unfoldable pub instant_of : List ℕ → Option ℤ
instant_of text =
    and_next (date_at text) (λ date. and_next (after_letter 84 date.1) (λ rest. and_next (minutes_at rest) (λ minutes.
    and_next (second_at minutes.1) (λ second. and_next (zone_of second.1) (λ ahead.
    time_in_years ((date.0 *ℤ pos 86400 +ℤ pos (minutes.0 + second.0)) -ℤ ahead))))))

-- that instant is the one of the grammar
abbrev pub InstantsAreRead : Type 0
InstantsAreRead = (text : List ℕ) (time : ℤ) → (instant_of text ≡ Some time) ↔ IsInstant text time
