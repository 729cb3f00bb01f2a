-- Places left and right of a disc aren't in it.
use Rattle.std.proofs.Common.{mul-le-mul, ◌≡◌, ℕ, zero, suc, ◌*◌, ◌<◌, ◌≤◌, arith, false, refl, subst, inl, inr, replicate, ℤ, pos, negsuc, ◌+ℤ◌, ◌-ℤ◌, ◌*ℤ◌, ◌<ℤ◌, ◌≤ℤ◌, int_le, List, length, get_or}
use Rattle.std.specs.Int.RustNames.{unsigned_abs}
use Rattle.std.proofs.lemmas.Bool.{cases_lt}
use Rattle.std.proofs.lemmas.Int.{ints}
use Rattle.jiff_core.proofs.SignedLemmas.{signed_arith, one_part}
use Rattle.edr_base.specs.declared.places.Spot.{Spot}
use Rattle.edr_axes.specs.Axes.{value_at, IsAscending}
use Rattle.edr_axes.specs.AxisLaws.{ascending_far}
use Rattle.edr_geometry.specs.Planar.{in_disc}
use Rattle.edr_geometry.specs.Masks.{spot_at}

-- the number that is farther from 0 has the greater square
square_far : (d r : ℤ) → pos 0 ≤ℤ r → unsigned_abs r < unsigned_abs d → (r *ℤ r) <ℤ (d *ℤ d)
square_far d (negsuc r) h k = absurd (omega (arith, signed_arith, h))
square_far (pos d) (pos r) h k = let more : suc r * suc r ≤ d * d = mul-le-mul k k in omega (arith, signed_arith, more)
square_far (negsuc d) (pos r) h k = let more : suc r * suc r ≤ suc d * suc d = mul-le-mul k k in omega (arith, signed_arith, more)

pub square_not_negative : (d : ℤ) → pos 0 ≤ℤ (d *ℤ d)
square_not_negative (pos d) = omega (arith, signed_arith)
square_not_negative (negsuc d) = omega (arith, signed_arith)

above_all : (one other limit : ℤ) → limit <ℤ one → pos 0 ≤ℤ other → int_le (one +ℤ other) limit ≡ false
above_all one other limit h k = grind (arith, ints)

outside : (y x : ℤ) (centre : Spot) (r : ℤ) → pos 0 ≤ℤ r → unsigned_abs r < unsigned_abs (x -ℤ centre.x) → in_disc (spot_at y x) centre r ≡ false
outside y x centre r h k =
    above_all ((x -ℤ centre.x) *ℤ (x -ℤ centre.x)) ((y -ℤ centre.y) *ℤ (y -ℤ centre.y)) (r *ℤ r) (square_far (x -ℤ centre.x) r h k) (square_not_negative (y -ℤ centre.y))

pub outside_left : (y x : ℤ) (centre : Spot) (r : ℤ) → pos 0 ≤ℤ r → x <ℤ (centre.x -ℤ r) → in_disc (spot_at y x) centre r ≡ false
outside_left y x centre r h k = outside y x centre r h (omega (arith, signed_arith, h, k, one_part (x -ℤ centre.x), one_part r))

pub outside_right : (y x : ℤ) (centre : Spot) (r : ℤ) → pos 0 ≤ℤ r → (centre.x +ℤ r) <ℤ x → in_disc (spot_at y x) centre r ≡ false
outside_right y x centre r h k = outside y x centre r h (omega (arith, signed_arith, h, k, one_part (x -ℤ centre.x), one_part r))

pub beyond : (xs : List ℤ) → IsAscending xs → (low high : ℕ) (bound : ℤ) → low ≤ high → high < length xs → bound <ℤ value_at xs low → bound <ℤ value_at xs high
beyond xs ascends low high bound h inside k =
    elim (cases_lt low high) [
      | inl lt ↦ (let far = ascending_far xs ascends low high lt inside in omega (arith, signed_arith, far, k))
      | inr ge ↦ (let same : low ≡ high = omega arith in subst (λ place. bound <ℤ value_at xs place) same k)
    ]

pub none_at : (n place : ℕ) → get_or (replicate n false) place false ≡ false
none_at zero place = refl
none_at (suc n) zero = refl
none_at (suc n) (suc place) = none_at n place

pub edge_small : (c r : ℤ) → unsigned_abs c ≤ 100000000 → pos 0 ≤ℤ r → r ≤ℤ pos 400000000 → unsigned_abs (c -ℤ r) ≤ 100000000000000000
edge_small c r h low high = omega (arith, signed_arith, h, low, high, one_part (c -ℤ r), one_part c, one_part r)
