-- Row-major order: the number of places along some axes, the last axis fastest (OGC 21-069r2, NdArray objects).
use Rattle.std.specs.Prelude.{◌≡◌, ℕ, ◌+◌, ◌*◌, ◌/◌, ◌%◌, ◌<◌, ◌≤◌, List, [], ◌∷◌}
use Rattle.std.specs.List.{AllByRecursion}

-- the number of a place in a row of so many places, behind a number of rows that stand before
abbrev pub place_in_row : ℕ → ℕ → ℕ → ℕ
place_in_row rows length place = rows * length + place

-- the other way: the row of a number, and its place there, where each row has so many places
abbrev pub row_of_number : ℕ → ℕ → ℕ
row_of_number length number = number / length

abbrev pub place_of_number : ℕ → ℕ → ℕ
place_of_number length number = number % length

-- the number of a place on each of some axes, behind a number of rows that stand before
abbrev pub row_major : {A : Type 0} → (A → ℕ) → (A → ℕ) → List A → ℕ → ℕ
row_major length_of place_on [] number = number
row_major length_of place_on (axis ∷ axes) number = row_major length_of place_on axes (place_in_row number (length_of axis) (place_on axis))

-- how many places some axes have
abbrev pub places_along : {A : Type 0} → (A → ℕ) → List A → ℕ
places_along length_of [] = 1
places_along length_of (axis ∷ axes) = length_of axis * places_along length_of axes

-- each place is on its axis
abbrev pub AreOnAxes : {A : Type 0} → (A → ℕ) → (A → ℕ) → List A → Type 0
AreOnAxes length_of place_on axes = AllByRecursion (λ axis. place_on axis < length_of axis) axes

-- two places are one on each axis
abbrev pub AreOne : {A : Type 0} → (A → ℕ) → (A → ℕ) → List A → Type 0
AreOne place_on other_on axes = AllByRecursion (λ axis. place_on axis ≡ other_on axis) axes

-- the number is below the product of the lengths
abbrev pub RowMajorIsBelow : Type 0 → Type 0
RowMajorIsBelow A =
    (length_of place_on : A → ℕ) (axes : List A) (number before : ℕ) → number < before → AreOnAxes length_of place_on axes
    → row_major length_of place_on axes number < before * places_along length_of axes

-- and not below the number that it goes on from
abbrev pub RowMajorRises : Type 0 → Type 0
RowMajorRises A =
    (length_of place_on : A → ℕ) (axes : List A) (number : ℕ) → AreOnAxes length_of place_on axes → number ≤ row_major length_of place_on axes number

-- places are told by their number
abbrev pub RowMajorIsOnce : Type 0 → Type 0
RowMajorIsOnce A =
    (length_of place_on other_on : A → ℕ) (axes : List A) (number other : ℕ) → AreOnAxes length_of place_on axes → AreOnAxes length_of other_on axes
    → row_major length_of place_on axes number ≡ row_major length_of other_on axes other → (number ≡ other) × AreOne place_on other_on axes
