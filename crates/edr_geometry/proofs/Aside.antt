-- Places so far aside of the line through a segment that they aren't near it.
use Rattle.std.proofs.Common.{mul-le-mul, ◌≡◌, ℕ, suc, ◌+◌, ◌*◌, ◌<◌, ◌≤◌, arith, Bool, true, false, if◌then◌else◌, refl, ap, ap₂, subst, ◌∙◌, inl, inr, nat_lt, ℤ, pos, negsuc, ◌+ℤ◌, ◌-ℤ◌, ◌*ℤ◌, ◌<ℤ◌, ◌≤ℤ◌, int_le}
use Rattle.std.specs.Prelude.{◌||◌}
use Rattle.std.specs.Int.RustNames.{unsigned_abs}
use Rattle.std.proofs.Math.Nat.{mul-le-mul_left}
use Rattle.std.proofs.Math.IntN.{pos-*ℤ-pos, *ℤ_comm}
use Rattle.std.proofs.lemmas.Bool.{cases_lt}
use Rattle.std.proofs.lemmas.Bool.Decides.{nat_tests}
use Rattle.jiff_core.proofs.SignedLemmas.{signed_arith, one_part, unsigned_abs-product}
use Rattle.edr_base.specs.declared.places.Spot.{Spot}
use Rattle.edr_geometry.specs.Planar.{near_segment, cross, along, squared_distance}
use Rattle.edr_geometry.proofs.Outside.{square_not_negative}
use Rattle.edr_geometry.proofs.Products.{times-add, opposite_square, from_no}

-- ---- of natural numbers

spread : (w p q m n : ℕ) → 2 * m ≤ w → 2 * n ≤ w → 2 * (p * n + q * m) ≤ w * (p + q)
spread w p q m n h k =
    let one : p * (2 * n) ≤ p * w = mul-le-mul_left p k in
    let two : q * (2 * m) ≤ q * w = mul-le-mul_left q h in
    omega (arith, one, two)

squares : (w p q c : ℕ) → w * (p + q) < 2 * c → w * w * (p * p + q * q) < 4 * (c * c)
squares w p q c far =
    let square : suc (w * (p + q)) * suc (w * (p + q)) ≤ (2 * c) * (2 * c) = mul-le-mul far far in
    omega (arith, square)

-- ---- of whole numbers

square_is : (d : ℤ) → d *ℤ d ≡ pos (unsigned_abs d * unsigned_abs d)
square_is d = let s = unsigned_abs-product d d in omega (arith, signed_arith, s, square_not_negative d, one_part (d *ℤ d))

cross_size : (dx dy d e : ℤ) → unsigned_abs (dx *ℤ e -ℤ dy *ℤ d) ≤ unsigned_abs dx * unsigned_abs e + unsigned_abs dy * unsigned_abs d
cross_size dx dy d e =
    let one = unsigned_abs-product dx e in let two = unsigned_abs-product dy d in
    omega (arith, signed_arith, one, two, one_part (dx *ℤ e), one_part (dy *ℤ d), one_part (dx *ℤ e -ℤ dy *ℤ d))

-- more than half the width along an axis
first_far : (d e : ℤ) (w : ℕ) → w < 2 * unsigned_abs d → int_le (pos 4 *ℤ (d *ℤ d +ℤ e *ℤ e)) (pos w *ℤ pos w) ≡ false
first_far d e w h =
    let far : suc w * suc w ≤ (2 * unsigned_abs d) * (2 * unsigned_abs d) = mul-le-mul h h in
    rw (pos-*ℤ-pos w w) (from_no (pos 4 *ℤ (d *ℤ d +ℤ e *ℤ e)) (pos (w * w)) (omega (arith, signed_arith, far, square_is d, square_not_negative e)))

second_far : (d e : ℤ) (w : ℕ) → w < 2 * unsigned_abs e → int_le (pos 4 *ℤ (d *ℤ d +ℤ e *ℤ e)) (pos w *ℤ pos w) ≡ false
second_far d e w h =
    let far : suc w * suc w ≤ (2 * unsigned_abs e) * (2 * unsigned_abs e) = mul-le-mul h h in
    rw (pos-*ℤ-pos w w) (from_no (pos 4 *ℤ (d *ℤ d +ℤ e *ℤ e)) (pos (w * w)) (omega (arith, signed_arith, far, square_is e, square_not_negative d)))

-- a place d and e away from an end
end_far : (w : ℕ) (dx dy d e c : ℤ) → c ≡ dx *ℤ e -ℤ dy *ℤ d → w * (unsigned_abs dx + unsigned_abs dy) < 2 * unsigned_abs c → int_le (pos 4 *ℤ (d *ℤ d +ℤ e *ℤ e)) (pos w *ℤ pos w) ≡ false
end_far w dx dy d e c is far =
    elim (cases_lt w (2 * unsigned_abs d)) [
      | inl lt ↦ first_far d e w lt
      | inr low ↦ elim (cases_lt w (2 * unsigned_abs e)) [
        | inl lt ↦ second_far d e w lt
        | inr left ↦
            (let size = cross_size dx dy d e in let most = spread w (unsigned_abs dx) (unsigned_abs dy) (unsigned_abs d) (unsigned_abs e) low left in
            let same : unsigned_abs c ≡ unsigned_abs (dx *ℤ e -ℤ dy *ℤ d) = ap unsigned_abs is in
            absurd (omega (arith, size, most, same, far)))
      ]
    ]

-- beside the segment
line_far : (w : ℕ) (dx dy c l : ℤ) → l ≡ dx *ℤ dx +ℤ dy *ℤ dy → w * (unsigned_abs dx + unsigned_abs dy) < 2 * unsigned_abs c → int_le (pos 4 *ℤ (c *ℤ c)) (pos w *ℤ pos w *ℤ l) ≡ false
line_far w dx dy c l is far =
    let p = unsigned_abs dx in let q = unsigned_abs dy in
    let long : l ≡ pos (p * p + q * q) = is ∙ joined (dx *ℤ dx) (dy *ℤ dy) (p * p) (q * q) (square_is dx) (square_is dy) in
    let strip : pos w *ℤ pos w *ℤ l ≡ pos (w * w * (p * p + q * q)) = ap (λ n. pos w *ℤ pos w *ℤ n) long ∙ ap (λ n. n *ℤ pos (p * p + q * q)) (pos-*ℤ-pos w w) ∙ pos-*ℤ-pos (w * w) (p * p + q * q) in
    let more = squares w p q (unsigned_abs c) far in
    rw strip (from_no (pos 4 *ℤ (c *ℤ c)) (pos (w * w * (p * p + q * q))) (over (c *ℤ c) (unsigned_abs c * unsigned_abs c) (w * w * (p * p + q * q)) (square_is c) more))
  where
    joined : (a b : ℤ) (m n : ℕ) → a ≡ pos m → b ≡ pos n → a +ℤ b ≡ pos (m + n)
    joined a b m n h k = omega (arith, signed_arith, h, k)

    over : (a : ℤ) (m n : ℕ) → a ≡ pos m → n < 4 * m → pos n <ℤ (pos 4 *ℤ a)
    over a m n h k = omega (arith, signed_arith, h, k)

-- the cross product of the way from either end
rest_same : (m n o q r s : ℤ) → m ≡ n +ℤ o → q ≡ r +ℤ s → o ≡ s → m -ℤ q ≡ n -ℤ r
rest_same m n o q r s h k l = omega (arith, signed_arith, h, k, l)

from_end : (dx dy d e f g : ℤ) → f ≡ d +ℤ dx → g ≡ e +ℤ dy → dx *ℤ g -ℤ dy *ℤ f ≡ dx *ℤ e -ℤ dy *ℤ d
from_end dx dy d e f g h k =
    rest_same (dx *ℤ g) (dx *ℤ e) (dx *ℤ dy) (dy *ℤ f) (dy *ℤ d) (dy *ℤ dx) (ap (λ n. dx *ℤ n) k ∙ times-add dx e dy) (ap (λ n. dy *ℤ n) h ∙ times-add dy d dx) (*ℤ_comm dx dy)

three_ways : (first second one two three : Bool) → one ≡ false → two ≡ false → three ≡ false → (if first then one else if second then two else three) ≡ false
three_ways true second one two three h k l = h
three_ways false true one two three h k l = k
three_ways false false one two three h k l = l

pub aside_far : (p a b : Spot) (w : ℤ) → pos 0 ≤ℤ w → unsigned_abs w * (unsigned_abs (b.x -ℤ a.x) + unsigned_abs (b.y -ℤ a.y)) < 2 * unsigned_abs (cross p a b) → near_segment p a b w ≡ false
aside_far p a b (negsuc w) h far = absurd (omega (arith, signed_arith, h))
aside_far p a b (pos w) h far =
    let dx = b.x -ℤ a.x in let dy = b.y -ℤ a.y in
    three_ways (int_le (squared_distance a b) (pos 0) || int_le (along p a b) (pos 0)) (int_le (squared_distance a b) (along p a b)) _ _ _
    (end_far w dx dy (p.x -ℤ a.x) (p.y -ℤ a.y) (cross p a b) refl far)
    (end_far w dx dy (p.x -ℤ b.x) (p.y -ℤ b.y) (cross p a b) (from_end dx dy (p.x -ℤ b.x) (p.y -ℤ b.y) (p.x -ℤ a.x) (p.y -ℤ a.y) (omega (arith, signed_arith)) (omega (arith, signed_arith))) far)
    (line_far w dx dy (cross p a b) (squared_distance a b) (squares_are) far)
  where
    squares_are : squared_distance a b ≡ (b.x -ℤ a.x) *ℤ (b.x -ℤ a.x) +ℤ (b.y -ℤ a.y) *ℤ (b.y -ℤ a.y)
    squares_are = rw (opposite_square (b.x -ℤ a.x) (a.x -ℤ b.x) (omega (arith, signed_arith)), opposite_square (b.y -ℤ a.y) (a.y -ℤ b.y) (omega (arith, signed_arith))) refl

below : (m n : ℕ) → nat_lt m n ≡ true → m < n
below m n h = grind (arith, nat_tests)

-- the same by the sizes as the code has them
pub aside_told : (p a b : Spot) (w : ℤ) (m x y c : ℕ) → pos 0 ≤ℤ w → m ≡ unsigned_abs w → x ≡ unsigned_abs (b.x -ℤ a.x) → y ≡ unsigned_abs (b.y -ℤ a.y) → c ≡ unsigned_abs (cross p a b)
    → nat_lt (m * (x + y)) (2 * c) ≡ true → near_segment p a b w ≡ false
aside_told p a b w m x y c h m_is x_is y_is c_is t =
    let lt : m * (x + y) < 2 * c = below (m * (x + y)) (2 * c) t in
    aside_far p a b w h
    (subst (λ n. n < 2 * unsigned_abs (cross p a b)) (ap₂ (λ k l. k * l) m_is (ap₂ (λ k l. k + l) x_is y_is)) (subst (λ n. m * (x + y) < 2 * n) c_is lt))
