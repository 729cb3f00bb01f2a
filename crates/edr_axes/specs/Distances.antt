-- Distances as text (OGC 19-086r6, the parameters `within`, `corridor-width` and `corridor-height`).
use Rattle.std.specs.Prelude.{◌≡◌, ◌⊎◌, ℕ, ◌*◌, ◌^◌, ◌<◌, ◌≤◌, ℤ, pos, List, [], ◌∷◌, ◌++◌, length, map, codes}
use Rattle.std.specs.Char.{to_ascii_lowercase}
use Rattle.std.specs.Str.Parse.{AllDigits, digits_value}
use Rattle.edr_base.specs.Limits.{distance_limit}

-- `m` or `km` in any case, and how many metres it has
abbrev pub IsUnit : List ℕ → ℕ → Type 0
IsUnit text metres = ((map to_ascii_lowercase text ≡ codes "m") × (metres ≡ 1)) ⊎ ((map to_ascii_lowercase text ≡ codes "km") × (metres ≡ 1000))

-- digits, an optional point and digits behind it
abbrev pub IsDecimal : List ℕ → List ℕ → List ℕ → Type 0
IsDecimal number whole fraction = (number ≡ whole ++ 46 ∷ fraction) ⊎ ((number ≡ whole) × (fraction ≡ []))

-- a decimal number of a unit is so many metres: a whole number within the limit
pub record IsDistance (number unit : List ℕ) (metres : ℤ) : Type 0 where
  pub whole : List ℕ
  pub fraction : List ℕ
  pub scale : ℕ
  pub size : ℕ
  pub unit_is : IsUnit unit scale
  pub number_is : IsDecimal number whole fraction
  pub some : 0 < length whole
  pub are_digits : AllDigits 10 (whole ++ fraction)
  pub size_is : size * 10 ^ length fraction ≡ digits_value 10 (whole ++ fraction) * scale
  pub within : size ≤ distance_limit
  pub metres_is : metres ≡ pos size

abbrev pub HasNoDistance : List ℕ → List ℕ → Type 0
HasNoDistance number unit = (metres : ℤ) → ¬ (IsDistance number unit metres)

-- a number and a unit are one distance at most
abbrev pub DistancesAreUnique : Type 0
DistancesAreUnique = (number unit : List ℕ) (metres other : ℤ) → IsDistance number unit metres → IsDistance number unit other → metres ≡ other
