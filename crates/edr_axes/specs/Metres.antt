-- For private clauses: what the calls that read a distance answer.
use Rattle.std.specs.Prelude.{◌≡◌, ◌≤◌, ◌*◌, ◌^◌, ◌==◌, ℕ, List, ◌++◌, length}
use Rattle.std.specs.Char.{is_ascii_digit}
use Rattle.std.specs.List.{AllPass}
use Rattle.std.specs.Str.Parse.{digits_value}
use Rattle.edr_base.specs.Limits.{distance_limit}
use Rattle.edr_axes.specs.Distances.{IsUnit}

abbrev pub HasNoUnit : List ℕ → Type 0
HasNoUnit text = (metres : ℕ) → ¬ (IsUnit text metres)

abbrev pub AreDigits : List ℕ → Type 0
AreDigits text = AllPass is_ascii_digit text

abbrev pub AreZeros : List ℕ → Type 0
AreZeros text = AllPass (λ c. c == 48) text

-- a decimal number whose point moves by so many places is a whole number within the limit
pub record IsSize (whole fraction : List ℕ) (places size : ℕ) : Type 0 where
  pub size_is : size * 10 ^ length fraction ≡ digits_value 10 (whole ++ fraction) * 10 ^ places
  pub within : size ≤ distance_limit

abbrev pub HasNoSize : List ℕ → List ℕ → ℕ → Type 0
HasNoSize whole fraction places = (size : ℕ) → ¬ (IsSize whole fraction places size)
