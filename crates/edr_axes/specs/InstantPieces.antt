-- For private clauses: pieces of an instant's text, with what follows them.
use Rattle.std.specs.Prelude.{◌≡◌, ℕ, ◌+◌, ◌*◌, ◌<◌, ◌≤◌, List, ◌∷◌, ◌++◌, ℤ, pos}
use Rattle.jiff_core.specs.Calendar.{days_from_civil}
use Rattle.edr_axes.specs.Instants.{IsDay, pad2}
use Rattle.edr_axes.specs.InstantGrammar.{date_text, minutes_text, IsEitherCase, IsFraction, IsSecond, IsOffset, IsZone}

-- two digits that write n, and then rest
abbrev pub IsPair : List ℕ → ℕ → List ℕ → Type 0
IsPair text n rest = (n < 100) × (text ≡ pad2 n ++ rest)

abbrev pub HasNoPair : List ℕ → Type 0
HasNoPair text = (n : ℕ) (rest : List ℕ) → ¬ (IsPair text n rest)

-- a date of the calendar, whose day number is n, and then rest
pub record BeginsWithDate (text : List ℕ) (n : ℤ) (rest : List ℕ) : Type 0 where
  pub year : ℕ
  pub month : ℕ
  pub day : ℕ
  pub day_is : IsDay year month day
  pub text_is : text ≡ date_text year month day ++ rest
  pub number_is : n ≡ days_from_civil (pos year) month day

abbrev pub HasNoDate : List ℕ → Type 0
HasNoDate text = (n : ℤ) (rest : List ℕ) → ¬ (BeginsWithDate text n rest)

-- `T` or `t`, and then rest
pub record BeginsWithMark (text : List ℕ) (rest : List ℕ) : Type 0 where
  pub mark : ℕ
  pub mark_is : IsEitherCase 84 mark
  pub text_is : text ≡ mark ∷ rest

abbrev pub HasNoMark : List ℕ → Type 0
HasNoMark text = (rest : List ℕ) → ¬ (BeginsWithMark text rest)

-- `HH:MM`, so many seconds, and then rest
pub record BeginsWithMinutes (text : List ℕ) (seconds : ℕ) (rest : List ℕ) : Type 0 where
  pub hour : ℕ
  pub minute : ℕ
  pub hour_in : hour ≤ 23
  pub minute_in : minute ≤ 59
  pub text_is : text ≡ minutes_text hour minute ++ rest
  pub seconds_is : seconds ≡ hour * 3600 + minute * 60

abbrev pub HasNoMinutes : List ℕ → Type 0
HasNoMinutes text = (seconds : ℕ) (rest : List ℕ) → ¬ (BeginsWithMinutes text seconds rest)

abbrev pub HasNoOffset : List ℕ → Type 0
HasNoOffset text = (seconds : ℤ) → ¬ (IsOffset text seconds)

abbrev pub HasNoZone : List ℕ → Type 0
HasNoZone text = (ahead : ℤ) → ¬ (IsZone text ahead)

-- a fraction and a zone, and nothing after them
pub record IsZoneEnd (text : List ℕ) (ahead : ℤ) : Type 0 where
  pub fraction : List ℕ
  pub zone : List ℕ
  pub fraction_is : IsFraction fraction
  pub zone_is : IsZone zone ahead
  pub text_is : text ≡ fraction ++ zone

abbrev pub HasNoZoneEnd : List ℕ → Type 0
HasNoZoneEnd text = (ahead : ℤ) → ¬ (IsZoneEnd text ahead)

-- seconds and a zone, and nothing after them
pub record IsEnd (text : List ℕ) (second : ℕ) (ahead : ℤ) : Type 0 where
  pub second_text : List ℕ
  pub zone : List ℕ
  pub second_is : IsSecond second_text second
  pub zone_is : IsZone zone ahead
  pub text_is : text ≡ second_text ++ zone

abbrev pub HasNoEnd : List ℕ → Type 0
HasNoEnd text = (second : ℕ) (ahead : ℤ) → ¬ (IsEnd text second ahead)
