-- For private clauses: rows of places, and masks of them.
use Rattle.std.specs.Prelude.{◌≡◌, ℕ, ◌<◌, ◌≤◌, ℤ, ◌<ℤ◌, Bool, false, ◌||◌, List, length}
use Rattle.std.specs.List.{All, slice_index_or}
use Rattle.edr_base.specs.declared.places.Spot.{Spot}
use Rattle.edr_axes.specs.Axes.{value_at, IsAscending}
use Rattle.edr_base.specs.Limits.{IsCoordinate}
use Rattle.edr_geometry.specs.Masks.{spot_at}

-- a row of places
pub record IsRow (y : ℤ) (xs : List ℤ) : Type 0 where
  pub y_in : IsCoordinate y
  pub xs_in : All IsCoordinate xs
  pub ascending : IsAscending xs

-- the place of a number along a row
abbrev pub spot_in : ℤ → List ℤ → ℕ → Spot
spot_in y xs place = spot_at y (value_at xs place)

-- this many places stand left of a bound, and are the first ones of the row
pub record IsLeftCut (xs : List ℤ) (bound : ℤ) (count : ℕ) : Type 0 where
  pub within : count ≤ length xs
  pub left : (place : ℕ) → place < count → value_at xs place <ℤ bound

-- after: what was set, and each place where a test holds
abbrev pub Joins : List Bool → List Bool → (ℕ → Bool) → Type 0
Joins old new test = (place : ℕ) → place < length old → slice_index_or new place false ≡ (slice_index_or old place false || test place)

-- a place is set, as a test
abbrev pub is_set_in : List Bool → ℕ → Bool
is_set_in mask place = slice_index_or mask place false
