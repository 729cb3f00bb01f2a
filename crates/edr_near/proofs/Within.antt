-- A square is no farther from a place than what stands in it.
use Rattle.std.proofs.Common.{◌≡◌, ℕ, ◌+◌, ◌-◌, ◌*◌, ◌/◌, ◌≤◌, ℤ, ◌-ℤ◌, ◌≤ℤ◌, to_z, of_z, w64, true, arith, List, length, sym, subst}
use Rattle.std.proofs.lemmas.List.{length-map}
use Rattle.std.specs.Int.RustNames.{unsigned_abs}
use Rattle.std.proofs.lemmas.Int.{ints, to_z-of_z}
use Rattle.std.proofs.Math.Nat.{mul-le-mul_left, mul-le-mul_right, le_trans}
use Rattle.edr_base.specs.declared.places.Spot.{Spot}
use Rattle.edr_base.specs.Limits.{IsCoordinate}
use Rattle.edr_near.specs.Squares.{IsSpot, squared_distance, behind_edge, strip_of, gap, square_distance}
use Rattle.edr_base.specs.Boxes.{in_box}
use Rattle.edr_near.specs.Cells.{CellValue, IsIn, distances}
use Rattle.edr_near.specs.declared.frames.Frame.{Frame}
use Rattle.edr_near.specs.Frames.{Holds}

-- two coordinates are as far apart as they are behind the edge
apart : (a b : ℤ) → IsCoordinate a → IsCoordinate b → (behind_edge a - behind_edge b) + (behind_edge b - behind_edge a) ≡ unsigned_abs (a -ℤ b)
apart a b h k = omega (arith, ints, h, k)

gap-le : (strip at from far : ℕ) → at / 65536 ≡ strip → (at - from) + (from - at) ≡ far → (strip * 65536 - from) + (from - (strip * 65536 + 65535)) ≤ far
gap-le strip at from far inside is = omega (arith, inside, is)

gap_within : (value from : ℤ) (strip : ℕ) → IsCoordinate value → IsCoordinate from → strip_of value ≡ strip → gap strip from ≤ unsigned_abs (value -ℤ from)
gap_within value from strip value_in from_in inside = gap-le strip (behind_edge value) (behind_edge from) (unsigned_abs (value -ℤ from)) inside (apart value from value_in from_in)

pub square-le : (a b : ℕ) → a ≤ b → a * a ≤ b * b
square-le a b h = le_trans (mul-le-mul_left a h) (mul-le-mul_right b h)

pub sum-le : (a b c d : ℕ) → a ≤ c → b ≤ d → a + b ≤ c + d
sum-le a b c d h k = omega (arith, h, k)

pub square_within : {V : Type 0} (spot_of : V → Spot) (column row : ℕ) (item : V) (spot : Spot) → IsSpot spot → IsIn spot_of column row item
    → square_distance column row spot ≤ squared_distance (spot_of item) spot
square_within spot_of column row item spot spot_in there =
    let s = spot_of item in
    sum-le (gap column spot.x * gap column spot.x) (gap row spot.y * gap row spot.y)
    (unsigned_abs (s.x -ℤ spot.x) * unsigned_abs (s.x -ℤ spot.x)) (unsigned_abs (s.y -ℤ spot.y) * unsigned_abs (s.y -ℤ spot.y))
    (square-le (gap column spot.x) (unsigned_abs (s.x -ℤ spot.x)) (gap_within s.x spot.x column there.spot.x spot_in.x there.along))
    (square-le (gap row spot.y) (unsigned_abs (s.y -ℤ spot.y)) (gap_within s.y spot.y row there.spot.y spot_in.y there.across))

-- each cell has a distance
pub distances_long : {V : Type 0} (spot : Spot) (cells : List (CellValue V)) → length (distances spot cells) ≡ length cells
distances_long {V} spot cells = length-map cells (λ (cell : CellValue V). square_distance cell.column cell.row spot)

-- ---- boxes

-- a coordinate as it is passed to a function
pub own : (v : ℤ) → IsCoordinate v → to_z w64 (of_z w64 v) ≡ v
own v h = to_z-of_z w64 v (omega (arith, ints, h))

pub own_gap : (low high value : ℤ) (result : ℕ) → IsCoordinate low → IsCoordinate high → IsCoordinate value
    → ((c : ℤ) → to_z w64 (of_z w64 low) ≤ℤ c → c ≤ℤ to_z w64 (of_z w64 high) → result ≤ unsigned_abs (c -ℤ to_z w64 (of_z w64 value)))
    → (c : ℤ) → low ≤ℤ c → c ≤ℤ high → result ≤ unsigned_abs (c -ℤ value)
own_gap low high value result low_in high_in value_in least c from to =
    subst (λ v. result ≤ unsigned_abs (c -ℤ v)) (own value value_in) (least c (subst (λ v. v ≤ℤ c) (sym (own low low_in)) from) (subst (λ v. c ≤ℤ v) (sym (own high high_in)) to))

pub still_from : (lesser low c : ℤ) → IsCoordinate lesser → IsCoordinate low → lesser ≤ℤ to_z w64 (of_z w64 low) → low ≤ℤ c → to_z w64 (of_z w64 lesser) ≤ℤ c
still_from lesser low c lesser_in low_in is from =
    subst (λ v. v ≤ℤ c) (sym (own lesser lesser_in)) (below (subst (λ v. lesser ≤ℤ v) (own low low_in) is))
  where
    below : lesser ≤ℤ low → lesser ≤ℤ c
    below h = omega (arith, ints, h, from)

pub still_to : (greater high c : ℤ) → IsCoordinate greater → IsCoordinate high → to_z w64 (of_z w64 high) ≤ℤ greater → c ≤ℤ high → c ≤ℤ to_z w64 (of_z w64 greater)
still_to greater high c greater_in high_in is to =
    subst (λ v. c ≤ℤ v) (sym (own greater greater_in)) (above (subst (λ v. v ≤ℤ greater) (own high high_in) is))
  where
    above : high ≤ℤ greater → c ≤ℤ greater
    above h = omega (arith, ints, h, to)

-- a box has the places that it is found to have
pub held_in : (frame : Frame) (s : Spot) → Holds frame s → in_box s frame.lo frame.hi ≡ true
held_in frame s held = grind (arith, ints, held.west, held.east, held.south, held.north)
