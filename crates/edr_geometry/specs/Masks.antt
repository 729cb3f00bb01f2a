-- Rows of places of one y, columns of one x, and masks of them.
use Rattle.std.specs.Prelude.{◌≡◌, ℕ, ◌<◌, ◌≤◌, ℤ, Bool, true, false, List, length, map}
use Rattle.std.specs.List.{slice_index_or}
use Rattle.edr_base.specs.declared.places.Spot.{Spot}

-- the place of an x in a row
abbrev pub spot_at : ℤ → ℤ → Spot
spot_at y x = record { x = x; y = y }

-- the test of each place of a row
abbrev pub row_of : (Spot → Bool) → ℤ → List ℤ → List Bool
row_of test y xs = map (λ x. test (spot_at y x)) xs

-- the test of each place of a column of one x
abbrev pub column_of : (Spot → Bool) → ℤ → List ℤ → List Bool
column_of test x ys = map (λ y. test (spot_at y x)) ys

-- a place is set
abbrev pub IsSet : List Bool → ℕ → Type 0
IsSet mask place = (place < length mask) × (slice_index_or mask place false ≡ true)

-- no place from one to before another is set
abbrev pub NoneSet : List Bool → ℕ → ℕ → Type 0
NoneSet mask from end = (place : ℕ) → from ≤ place → place < end → slice_index_or mask place false ≡ false
