-- Places and squares of the plane, in whole metres.
use Rattle.std.specs.Prelude.{ℕ, ◌+◌, ◌-◌, ◌*◌, ◌/◌, ℤ, pos, ◌+ℤ◌, ◌-ℤ◌, unsigned_abs}
use Rattle.edr_base.specs.declared.places.Spot.{Spot}
use Rattle.edr_base.specs.Limits.{IsCoordinate}

-- a place within the limits
pub record IsSpot (s : Spot) : Type 0 where
  pub x : IsCoordinate s.x
  pub y : IsCoordinate s.y

-- the square of the distance of two places, in square metres
abbrev pub squared_distance : Spot → Spot → ℕ
squared_distance a b = unsigned_abs (a.x -ℤ b.x) * unsigned_abs (a.x -ℤ b.x) + unsigned_abs (a.y -ℤ b.y) * unsigned_abs (a.y -ℤ b.y)

-- the side of a square, in metres
abbrev pub side : ℕ
side = 65_536

-- columns and rows are numbered from 0, which begins 2,048 squares below the coordinate 0; so no coordinate within the limits
-- has a column or a row below 0
abbrev pub edge : ℕ
edge = 134_217_728

-- how far a coordinate is from where the first column or row begins
abbrev pub behind_edge : ℤ → ℕ
behind_edge value = unsigned_abs (value +ℤ pos edge)

-- the column of an x or the row of a y: floor (value / 65,536), counted from 0
abbrev pub strip_of : ℤ → ℕ
strip_of value = behind_edge value / side

-- how many columns and rows there are
abbrev pub strips : ℕ
strips = 4_096

-- how far a coordinate is from a column or a row, which has its first and its last metre; 0 inside it
abbrev pub gap : ℕ → ℤ → ℕ
gap strip value = (strip * side - behind_edge value) + (behind_edge value - (strip * side + (side - 1)))

-- the square of the distance of a place from the square of a column and a row, in square metres; 0 where it is in it
abbrev pub square_distance : ℕ → ℕ → Spot → ℕ
square_distance column row s = gap column s.x * gap column s.x + gap row s.y * gap row s.y
