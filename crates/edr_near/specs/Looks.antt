-- Which cells were read.
use Rattle.std.specs.Prelude.{◌≡◌, ℕ, nat_lt, nat_le, ◌==◌, ◌&&◌, Bool, if◌then◌else◌, List, length, count_by}
use Rattle.std.specs.List.Sorted.{IsNonDecreasing}
use Rattle.edr_near.specs.Cells.{distance_at}

-- there is a cell of the number, and its square isn't farther than the squared distance
abbrev pub is_within : List ℕ → ℕ → ℕ → Bool
is_within distances distance number = nat_lt number (length distances) && nat_le (distance_at distances number) distance

-- how often a number stands among some
abbrev pub times_in : List ℕ → ℕ → ℕ
times_in numbers number = count_by (λ n. n == number) numbers

-- in ascending order, each of the cells whose squares aren't farther than the squared distance once, and no other
pub record AreLooks (distances : List ℕ) (distance : ℕ) (numbers : List ℕ) : Type 0 where
  pub ascending : IsNonDecreasing numbers
  pub each : (number : ℕ) → times_in numbers number ≡ (if is_within distances distance number then 1 else 0)
