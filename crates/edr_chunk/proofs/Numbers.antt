-- The numbers on the way to the number of a value.
use Rattle.std.proofs.Common.{ℕ, ◌+◌, ◌*◌, ◌<◌, ◌≤◌, arith}
use Rattle.std.proofs.Math.Nat.{le-mul_of_pos_right}
use Rattle.edr_chunk.specs.declared.shapes.GridShape.{GridShape}
use Rattle.edr_chunk.specs.declared.shapes.GridPlace.{GridPlace}
use Rattle.edr_chunk.specs.Places.{Within, count}
use Rattle.edr_chunk.specs.PlaceLaws.{number-below}

-- all are below the count of values
pub record StepsBelow (p t z y x times levels rows columns count : ℕ) : Type 0 where
  pub times_times : p * times < count
  pub with_time : p * times + t < count
  pub times_levels : (p * times + t) * levels < count
  pub with_level : (p * times + t) * levels + z < count
  pub times_rows : ((p * times + t) * levels + z) * rows < count
  pub with_row : ((p * times + t) * levels + z) * rows + y < count
  pub times_columns : (((p * times + t) * levels + z) * rows + y) * columns < count
  pub with_column : (((p * times + t) * levels + z) * rows + y) * columns + x < count

steps_below : (p t z y x times levels rows columns count : ℕ) → 0 < levels → 0 < rows → 0 < columns
    → (((p * times + t) * levels + z) * rows + y) * columns + x < count → StepsBelow p t z y x times levels rows columns count
steps_below p t z y x times levels rows columns count hz hy hx last =
    let time = p * times + t in
    let level = time * levels + z in
    let row = level * rows + y in
    let h = small (p * times) t (time * levels) z (level * rows) y (row * columns) x count
    (le-mul_of_pos_right time hz) (le-mul_of_pos_right level hy) (le-mul_of_pos_right row hx) last in
    record { times_times = h.0; with_time = h.1; times_levels = h.2; with_level = h.3; times_rows = h.4; with_row = h.5; times_columns = h.6; with_column = last }
  where
    small : (a t b z c y d x n : ℕ) → a + t ≤ b → b + z ≤ c → c + y ≤ d → d + x < n
        → (a < n) × (a + t < n) × (b < n) × (b + z < n) × (c < n) × (c + y < n) × (d < n)
    small a t b z c y d x n h k l m = (omega arith, omega arith, omega arith, omega arith, omega arith, omega arith, omega arith)

pub number_steps : (shape : GridShape) (place : GridPlace) → Within shape place
    → StepsBelow place.parameter place.t place.z place.y place.x shape.times shape.levels shape.rows shape.columns (count shape)
number_steps shape place within =
    let z = within.z in
    let y = within.y in
    let x = within.x in
    steps_below place.parameter place.t place.z place.y place.x shape.times shape.levels shape.rows shape.columns (count shape)
    (omega arith) (omega arith) (omega arith) (number-below shape place within)
