-- Laws of row-major order, for the proofs of callers.
use Rattle.std.proofs.Common.{◌≡◌, ℕ, zero, suc, ◌+◌, ◌*◌, ◌<◌, ◌≤◌, List, [], ◌∷◌, sym, ap, ◌∙◌, subst}
use Rattle.std.proofs.Math.Nat.{mul-one, mul_comm, mul_assoc, le_refl, le_trans, le-add_right, zero-lt-suc, le-mul_of_pos_right, not-suc-le-zero}
use Rattle.std.proofs.lemmas.Nat.{mul-add-lt, same_from_place}
use Rattle.std.specs.List.{AllByRecursion}
use Rattle.edr_chunk.specs.RowMajor.{row_major, places_along, AreOnAxes, AreOne}

-- what holds of each axis holds along some
pub along : {A : Type 0} (P : A → Type 0) → ((axis : A) → P axis) → (axes : List A) → AllByRecursion P axes
along P each [] = tt
along P each (axis ∷ axes) = (each axis, along P each axes)

some_places : (place length : ℕ) → place < length → 0 < length
some_places place zero h = absurd (not-suc-le-zero h)
some_places place (suc length) h = zero-lt-suc length

module _ {A : Type 0} (length_of place_on : A → ℕ) where
  -- it is below the product of the lengths
  pub row_major-below : (axes : List A) (number before : ℕ) → number < before → AreOnAxes length_of place_on axes
      → row_major length_of place_on axes number < before * places_along length_of axes
  row_major-below [] number before h on = let Below : ℕ → Type 0 = λ n. number < n in subst Below (sym (mul-one before)) h
  row_major-below (axis ∷ axes) number before h on =
      let length = length_of axis in
      let next = number * length + place_on axis in
      let Below : ℕ → Type 0 = λ n. row_major length_of place_on axes next < n in
      subst Below (ap (λ n. n * places_along length_of axes) (mul_comm length before) ∙ mul_assoc before length (places_along length_of axes))
      (row_major-below axes next (length * before) (mul-add-lt number length (place_on axis) before h on.0) on.1)

  -- and not below the number that it goes on from
  pub row_major-rises : (axes : List A) (number : ℕ) → AreOnAxes length_of place_on axes → number ≤ row_major length_of place_on axes number
  row_major-rises [] number on = le_refl number
  row_major-rises (axis ∷ axes) number on =
      le_trans (le-mul_of_pos_right number (some_places (place_on axis) (length_of axis) on.0))
      (le_trans (le-add_right (number * length_of axis) (place_on axis)) (row_major-rises axes (number * length_of axis + place_on axis) on.1))

  -- places are told by their number
  pub row_major-once : (other_on : A → ℕ) (axes : List A) (number other : ℕ) → AreOnAxes length_of place_on axes → AreOnAxes length_of other_on axes
      → row_major length_of place_on axes number ≡ row_major length_of other_on axes other → (number ≡ other) × AreOne place_on other_on axes
  row_major-once other_on [] number other on on' same = (same, tt)
  row_major-once other_on (axis ∷ axes) number other on on' same =
      let rest = row_major-once other_on axes (number * length_of axis + place_on axis) (other * length_of axis + other_on axis) on.1 on'.1 same in
      let first = same_from_place number (place_on axis) other (other_on axis) (length_of axis) on.0 on'.0 rest.0 in
      (first.0, (first.1, rest.1))
