-- Places more than half the width away from the y of a segment, or from its x, aren't near it.
use Rattle.std.proofs.Common.{mul-le-mul, ◌≡◌, ℕ, zero, suc, ◌+◌, ◌-◌, ◌*◌, ◌<◌, ◌≤◌, arith, Bool, true, false, ◌||◌, ◌&&◌, if◌then◌else◌, refl, ap, ap₂, subst, sym, ◌∙◌, inl, inr, ◌⊎◌, ℤ, pos, negsuc, ◌+ℤ◌, ◌-ℤ◌, ◌*ℤ◌, ◌<ℤ◌, ◌≤ℤ◌, int_le}
use Rattle.std.specs.Int.RustNames.{unsigned_abs}
use Rattle.std.proofs.Math.Nat.{mul-le-mul_left}
use Rattle.std.proofs.Math.IntN.{pos-*ℤ-pos, *ℤ_comm}
use Rattle.std.proofs.lemmas.Bool.{cases_lt, and_cases, or_parts}
use Rattle.std.proofs.lemmas.Int.{ints}
use Rattle.jiff_core.proofs.SignedLemmas.{signed_arith, one_part, unsigned_abs-product}
use borrow.Author.Differences.{up, down, product_is}
use Rattle.edr_base.specs.declared.places.Spot.{Spot}
use Rattle.edr_geometry.specs.Planar.{near_segment, cross, along, squared_distance}
use Rattle.edr_geometry.proofs.Outside.{square_not_negative}
use Rattle.edr_geometry.proofs.Products.{add-times, times-add, times-sub, opposite_square}
use Rattle.edr_corridor.specs.Segments.{within_half}
use Rattle.edr_corridor.specs.BoxLaws.{NearPlacesAreWithin}

-- ---- of natural numbers

-- from w * l below twice d * c to the squares, where d * d is at most l
cross_far : (w l c d : ℕ) → d * d ≤ l → w * l < 2 * (d * c) → w * w * l < 4 * (c * c)
cross_far w l c d short far =
    let square : suc (w * l) * suc (w * l) ≤ (2 * (d * c)) * (2 * (d * c)) = mul-le-mul far far in
    let rows : (4 * (c * c)) * (d * d) ≤ (4 * (c * c)) * l = mul-le-mul_left (4 * (c * c)) short in
    elim (cases_lt (w * w * l) (4 * (c * c))) [
      | inl lt ↦ lt
      | inr ge ↦ (let all : l * (4 * (c * c)) ≤ l * (w * w * l) = mul-le-mul_left l ge in absurd (omega (arith, square, rows, all)))
    ]

-- of a way of r and s parts, whose ends are u and e away: so far away is the place between
foot_far : (w r s u e : ℕ) → 0 < r → w < 2 * u → w < 2 * e → w * (r + s) < 2 * (e * s + r * u)
foot_far w zero s u e some h k = absurd (omega (arith, some))
foot_far w (suc r) s u e some h k =
    let start : suc r * suc w ≤ suc r * (2 * u) = mul-le-mul_left (suc r) h in
    let end : s * suc w ≤ s * (2 * e) = mul-le-mul_left s k in
    omega (arith, start, end)

-- ---- of whole numbers

times_assoc : (a b c : ℤ) → (a *ℤ b) *ℤ c ≡ a *ℤ (b *ℤ c)
times_assoc a b c =
    let one = product_is a b in let two = product_is b c in
    let p : up (a *ℤ b) * up c ≡ (up a * up b + down a * down b) * up c = ap (λ n. n * up c) one.0 in
    let q : up (a *ℤ b) * down c ≡ (up a * up b + down a * down b) * down c = ap (λ n. n * down c) one.0 in
    let r : down (a *ℤ b) * up c ≡ (up a * down b + down a * up b) * up c = ap (λ n. n * up c) one.1 in
    let s : down (a *ℤ b) * down c ≡ (up a * down b + down a * up b) * down c = ap (λ n. n * down c) one.1 in
    let t : up a * up (b *ℤ c) ≡ up a * (up b * up c + down b * down c) = ap (λ n. up a * n) two.0 in
    let u : down a * up (b *ℤ c) ≡ down a * (up b * up c + down b * down c) = ap (λ n. down a * n) two.0 in
    let v : up a * down (b *ℤ c) ≡ up a * (up b * down c + down b * up c) = ap (λ n. up a * n) two.1 in
    let w : down a * down (b *ℤ c) ≡ down a * (up b * down c + down b * up c) = ap (λ n. down a * n) two.1 in
    omega (arith, signed_arith, p, q, r, s, t, u, v, w)

times_turn : (a b c : ℤ) → a *ℤ (b *ℤ c) ≡ b *ℤ (a *ℤ c)
times_turn a b c = sym (times_assoc a b c) ∙ ap (λ n. n *ℤ c) (*ℤ_comm a b) ∙ times_assoc b a c

-- the length of a way and the products of two ways go together
module _ (dx dy vx vy : ℤ) where
  joined : (lv z ds a b e : ℤ) → lv ≡ a +ℤ b → z ≡ e -ℤ b → ds ≡ a +ℤ e → lv +ℤ z ≡ ds
  joined lv z ds a b e h k l = omega (arith, signed_arith, h, k, l)

  joined_below : (lv z ds a b e : ℤ) → lv ≡ a +ℤ b → z ≡ a -ℤ e → ds ≡ e +ℤ b → lv +ℤ (pos 0 -ℤ z) ≡ ds
  joined_below lv z ds a b e h k l = omega (arith, signed_arith, h, k, l)

  across : (dx *ℤ dx +ℤ dy *ℤ dy) *ℤ vx +ℤ dy *ℤ (dx *ℤ vy -ℤ dy *ℤ vx) ≡ dx *ℤ (dx *ℤ vx +ℤ dy *ℤ vy)
  across =
      joined ((dx *ℤ dx +ℤ dy *ℤ dy) *ℤ vx) (dy *ℤ (dx *ℤ vy -ℤ dy *ℤ vx)) (dx *ℤ (dx *ℤ vx +ℤ dy *ℤ vy)) (dx *ℤ (dx *ℤ vx)) (dy *ℤ (dy *ℤ vx)) (dx *ℤ (dy *ℤ vy))
      (add-times (dx *ℤ dx) (dy *ℤ dy) vx ∙ ap₂ (λ m n. m +ℤ n) (times_assoc dx dx vx) (times_assoc dy dy vx))
      (times-sub dy (dx *ℤ vy) (dy *ℤ vx) ∙ ap (λ n. n -ℤ dy *ℤ (dy *ℤ vx)) (times_turn dy dx vy))
      (times-add dx (dx *ℤ vx) (dy *ℤ vy))

  upwards : (dx *ℤ dx +ℤ dy *ℤ dy) *ℤ vy +ℤ (pos 0 -ℤ dx *ℤ (dx *ℤ vy -ℤ dy *ℤ vx)) ≡ dy *ℤ (dx *ℤ vx +ℤ dy *ℤ vy)
  upwards =
      joined_below ((dx *ℤ dx +ℤ dy *ℤ dy) *ℤ vy) (dx *ℤ (dx *ℤ vy -ℤ dy *ℤ vx)) (dy *ℤ (dx *ℤ vx +ℤ dy *ℤ vy)) (dx *ℤ (dx *ℤ vy)) (dy *ℤ (dy *ℤ vy)) (dx *ℤ (dy *ℤ vx))
      (add-times (dx *ℤ dx) (dy *ℤ dy) vy ∙ ap₂ (λ m n. m +ℤ n) (times_assoc dx dx vy) (times_assoc dy dy vy))
      (times-sub dx (dx *ℤ vy) (dy *ℤ vx))
      (times-add dy (dx *ℤ vx) (dy *ℤ vy) ∙ ap (λ n. n +ℤ dy *ℤ (dy *ℤ vy)) (times_turn dy dx vx))

-- ---- the line through a segment

above : (m limit : ℤ) → limit <ℤ m → int_le m limit ≡ false
above m limit h = grind (arith, ints)

-- the cross product's size c against half the width w of the length l
sizes_far : (w l : ℕ) (c : ℤ) → w * w * l < 4 * (unsigned_abs c * unsigned_abs c) → int_le (pos 4 *ℤ (c *ℤ c)) (pos w *ℤ pos w *ℤ pos l) ≡ false
sizes_far w l c h =
    let square = unsigned_abs-product c c in
    let strip : pos w *ℤ pos w *ℤ pos l ≡ pos (w * w * l) = ap (λ n. n *ℤ pos l) (pos-*ℤ-pos w w) ∙ pos-*ℤ-pos (w * w) l in
    rw strip (above (pos 4 *ℤ (c *ℤ c)) (pos (w * w * l)) (omega (arith, signed_arith, square, square_not_negative c, one_part (c *ℤ c), h)))

sized_below : (r s u e : ℕ) (d z : ℤ) → d ≡ negsuc u +ℤ pos e → pos (r + s) *ℤ negsuc u +ℤ z ≡ d *ℤ pos s → unsigned_abs z ≡ e * s + r * suc u
sized_below r s u e d z is foot =
    let spread : pos (r + s) *ℤ negsuc u +ℤ z ≡ negsuc u *ℤ pos s +ℤ pos e *ℤ pos s = foot ∙ ap (λ n. n *ℤ pos s) is ∙ add-times (negsuc u) (pos e) (pos s) in
    omega (arith, signed_arith, spread, one_part z)

sized_above : (r s u e : ℕ) (d z : ℤ) → d ≡ pos u +ℤ negsuc e → pos (r + s) *ℤ pos u +ℤ z ≡ d *ℤ pos s → unsigned_abs z ≡ suc e * s + r * u
sized_above r s u e d z is foot =
    let spread : pos (r + s) *ℤ pos u +ℤ z ≡ pos u *ℤ pos s +ℤ negsuc e *ℤ pos s = foot ∙ ap (λ n. n *ℤ pos s) is ∙ add-times (pos u) (negsuc e) (pos s) in
    omega (arith, signed_arith, spread, one_part z)

-- along one direction: the segment leads on by d and the place stands v from its start and e from its end, beyond both by more than half
-- the width w; across it the segment leads on by a size of `side`; l is its squared length, s and c are the products of the two ways
line_far : (w l n u e : ℕ) (c z : ℤ) (side : ℕ) → side * side ≤ l → n < l → unsigned_abs z ≡ side * unsigned_abs c → w < 2 * u → w < 2 * e → unsigned_abs z ≡ e * n + (l - n) * u
    → int_le (pos 4 *ℤ (c *ℤ c)) (pos w *ℤ pos w *ℤ pos l) ≡ false
line_far w l n u e c z side short more size h k foot =
    let away : w * ((l - n) + n) < 2 * (e * n + (l - n) * u) = foot_far w (l - n) n u e (omega (arith, more)) h k in
    let whole : (l - n) + n ≡ l = omega (arith, more) in
    let product : e * n + (l - n) * u ≡ side * unsigned_abs c = sym foot ∙ size in
    let far : w * l < 2 * (side * unsigned_abs c) = subst (λ m. w * l < 2 * m) product (subst (λ m. w * m < 2 * (e * n + (l - n) * u)) whole away) in
    sizes_far w l c (cross_far w l (unsigned_abs c) side short far)

line_below : (w : ℕ) (l s c z v e d : ℤ) (side : ℕ) → side * side ≤ unsigned_abs l → pos 0 <ℤ s → s <ℤ l → unsigned_abs z ≡ side * unsigned_abs c → d ≡ v +ℤ e → l *ℤ v +ℤ z ≡ d *ℤ s
    → pos w <ℤ (pos 2 *ℤ (pos 0 -ℤ v)) → pos w <ℤ (pos 2 *ℤ e) → int_le (pos 4 *ℤ (c *ℤ c)) (pos w *ℤ pos w *ℤ l) ≡ false
line_below w (negsuc l) (pos n) c z v e d side short some more size is foot h k = absurd (omega (arith, signed_arith, more))
line_below w l (negsuc n) c z v e d side short some more size is foot h k = absurd (omega (arith, signed_arith, some))
line_below w (pos l) (pos n) c z (pos v) e d side short some more size is foot h k = absurd (omega (arith, signed_arith, h))
line_below w (pos l) (pos n) c z (negsuc u) (negsuc e) d side short some more size is foot h k = absurd (omega (arith, signed_arith, k))
line_below w (pos l) (pos n) c z (negsuc u) (pos e) d side short some more size is foot h k =
    let inside : n < l = omega (arith, signed_arith, more) in
    let whole : l ≡ (l - n) + n = omega (arith, inside) in
    line_far w l n (suc u) e c z side short inside size (omega (arith, signed_arith, h)) (omega (arith, signed_arith, k))
    (sized_below (l - n) n u e d z is (subst (λ m. pos m *ℤ negsuc u +ℤ z ≡ d *ℤ pos n) whole foot))

line_above : (w : ℕ) (l s c z v e d : ℤ) (side : ℕ) → side * side ≤ unsigned_abs l → pos 0 <ℤ s → s <ℤ l → unsigned_abs z ≡ side * unsigned_abs c → d ≡ v +ℤ e → l *ℤ v +ℤ z ≡ d *ℤ s
    → pos w <ℤ (pos 2 *ℤ v) → pos w <ℤ (pos 2 *ℤ (pos 0 -ℤ e)) → int_le (pos 4 *ℤ (c *ℤ c)) (pos w *ℤ pos w *ℤ l) ≡ false
line_above w (negsuc l) (pos n) c z v e d side short some more size is foot h k = absurd (omega (arith, signed_arith, more))
line_above w l (negsuc n) c z v e d side short some more size is foot h k = absurd (omega (arith, signed_arith, some))
line_above w (pos l) (pos n) c z (negsuc v) e d side short some more size is foot h k = absurd (omega (arith, signed_arith, h))
line_above w (pos l) (pos n) c z (pos u) (pos e) d side short some more size is foot h k = absurd (omega (arith, signed_arith, k))
line_above w (pos l) (pos n) c z (pos u) (negsuc e) d side short some more size is foot h k =
    let inside : n < l = omega (arith, signed_arith, more) in
    let whole : l ≡ (l - n) + n = omega (arith, inside) in
    line_far w l n u (suc e) c z side short inside size (omega (arith, signed_arith, h)) (omega (arith, signed_arith, k))
    (sized_above (l - n) n u e d z is (subst (λ m. pos m *ℤ pos u +ℤ z ≡ d *ℤ pos n) whole foot))

-- ---- the ends of a segment, and all three ways to be near it

first_far : (d e : ℤ) (w : ℕ) → w < 2 * unsigned_abs d → int_le (pos 4 *ℤ (d *ℤ d +ℤ e *ℤ e)) (pos w *ℤ pos w) ≡ false
first_far d e w h =
    let far : suc w * suc w ≤ (2 * unsigned_abs d) * (2 * unsigned_abs d) = mul-le-mul h h in
    let square = unsigned_abs-product d d in
    rw (pos-*ℤ-pos w w) (above (pos 4 *ℤ (d *ℤ d +ℤ e *ℤ e)) (pos (w * w)) (omega (arith, signed_arith, far, square, square_not_negative d, square_not_negative e, one_part (d *ℤ d))))

second_far : (d e : ℤ) (w : ℕ) → w < 2 * unsigned_abs e → int_le (pos 4 *ℤ (d *ℤ d +ℤ e *ℤ e)) (pos w *ℤ pos w) ≡ false
second_far d e w h =
    let far : suc w * suc w ≤ (2 * unsigned_abs e) * (2 * unsigned_abs e) = mul-le-mul h h in
    let square = unsigned_abs-product e e in
    rw (pos-*ℤ-pos w w) (above (pos 4 *ℤ (d *ℤ d +ℤ e *ℤ e)) (pos (w * w)) (omega (arith, signed_arith, far, square, square_not_negative d, square_not_negative e, one_part (e *ℤ e))))

three_ways : (first second one two three : Bool) → one ≡ false → two ≡ false → (first ≡ false → second ≡ false → three ≡ false)
    → (if first then one else if second then two else three) ≡ false
three_ways true second one two three h k l = h
three_ways false true one two three h k l = k
three_ways false false one two three h k l = l refl refl

below_all : (m limit : ℤ) → int_le m limit ≡ false → limit <ℤ m
below_all m limit h = omega (arith, signed_arith, h)

module _ (p a b : Spot) (w : ℕ) where
  abbrev dx : ℤ
  dx = b.x -ℤ a.x

  abbrev dy : ℤ
  dy = b.y -ℤ a.y

  abbrev vx : ℤ
  vx = p.x -ℤ a.x

  abbrev vy : ℤ
  vy = p.y -ℤ a.y

  length_is : dx *ℤ dx +ℤ dy *ℤ dy ≡ squared_distance a b
  length_is = ap₂ (λ m n. m +ℤ n) (opposite_square dx (a.x -ℤ b.x) (omega (arith, signed_arith))) (opposite_square dy (a.y -ℤ b.y) (omega (arith, signed_arith)))

  columns_short : unsigned_abs dx * unsigned_abs dx ≤ unsigned_abs (squared_distance a b)
  columns_short =
      subst (λ l. unsigned_abs dx * unsigned_abs dx ≤ unsigned_abs l) length_is
      (let square = unsigned_abs-product dx dx in omega (arith, signed_arith, square, square_not_negative dx, square_not_negative dy, one_part (dx *ℤ dx), one_part (dx *ℤ dx +ℤ dy *ℤ dy)))

  rows_short : unsigned_abs dy * unsigned_abs dy ≤ unsigned_abs (squared_distance a b)
  rows_short =
      subst (λ l. unsigned_abs dy * unsigned_abs dy ≤ unsigned_abs l) length_is
      (let square = unsigned_abs-product dy dy in omega (arith, signed_arith, square, square_not_negative dx, square_not_negative dy, one_part (dy *ℤ dy), one_part (dx *ℤ dx +ℤ dy *ℤ dy)))

  across_foot : squared_distance a b *ℤ vx +ℤ dy *ℤ cross p a b ≡ dx *ℤ along p a b
  across_foot = subst (λ l. l *ℤ vx +ℤ dy *ℤ cross p a b ≡ dx *ℤ along p a b) length_is (across dx dy vx vy)

  upwards_foot : squared_distance a b *ℤ vy +ℤ (pos 0 -ℤ dx *ℤ cross p a b) ≡ dy *ℤ along p a b
  upwards_foot = subst (λ l. l *ℤ vy +ℤ (pos 0 -ℤ dx *ℤ cross p a b) ≡ dy *ℤ along p a b) length_is (upwards dx dy vx vy)

  abs_opposite : (z : ℤ) → unsigned_abs (pos 0 -ℤ z) ≡ unsigned_abs z
  abs_opposite z = omega (arith, signed_arith, one_part z, one_part (pos 0 -ℤ z))

  upwards_size : unsigned_abs (pos 0 -ℤ dx *ℤ cross p a b) ≡ unsigned_abs dx * unsigned_abs (cross p a b)
  upwards_size = abs_opposite (dx *ℤ cross p a b) ∙ unsigned_abs-product dx (cross p a b)

  -- far from both ends, and from the line where the place stands beside the segment
  beside : int_le (pos 4 *ℤ squared_distance p a) (pos w *ℤ pos w) ≡ false → int_le (pos 4 *ℤ squared_distance p b) (pos w *ℤ pos w) ≡ false
      → (pos 0 <ℤ along p a b → along p a b <ℤ squared_distance a b → int_le (pos 4 *ℤ (cross p a b *ℤ cross p a b)) (pos w *ℤ pos w *ℤ squared_distance a b) ≡ false)
      → near_segment p a b (pos w) ≡ false
  beside start end line =
      three_ways (int_le (squared_distance a b) (pos 0) || int_le (along p a b) (pos 0)) (int_le (squared_distance a b) (along p a b)) _ _ _ start end
      (λ not_before not_behind. line (below_all (along p a b) (pos 0) (or_parts (int_le (squared_distance a b) (pos 0)) (int_le (along p a b) (pos 0)) not_before).1)
      (below_all (squared_distance a b) (along p a b) not_behind))

  left_of : pos w <ℤ (pos 2 *ℤ (a.x -ℤ p.x)) → pos w <ℤ (pos 2 *ℤ (b.x -ℤ p.x)) → near_segment p a b (pos w) ≡ false
  left_of h k =
      beside (first_far (p.x -ℤ a.x) (p.y -ℤ a.y) w (omega (arith, signed_arith, h, one_part (p.x -ℤ a.x)))) (first_far (p.x -ℤ b.x) (p.y -ℤ b.y) w (omega (arith, signed_arith, k, one_part (p.x -ℤ b.x))))
      (λ some more. line_below w (squared_distance a b) (along p a b) (cross p a b) (dy *ℤ cross p a b) vx (b.x -ℤ p.x) dx (unsigned_abs dy) rows_short some more (unsigned_abs-product dy (cross p a b))
      (omega (arith, signed_arith)) across_foot (omega (arith, signed_arith, h)) k)

  right_of : pos w <ℤ (pos 2 *ℤ (p.x -ℤ a.x)) → pos w <ℤ (pos 2 *ℤ (p.x -ℤ b.x)) → near_segment p a b (pos w) ≡ false
  right_of h k =
      beside (first_far (p.x -ℤ a.x) (p.y -ℤ a.y) w (omega (arith, signed_arith, h, one_part (p.x -ℤ a.x)))) (first_far (p.x -ℤ b.x) (p.y -ℤ b.y) w (omega (arith, signed_arith, k, one_part (p.x -ℤ b.x))))
      (λ some more. line_above w (squared_distance a b) (along p a b) (cross p a b) (dy *ℤ cross p a b) vx (b.x -ℤ p.x) dx (unsigned_abs dy) rows_short some more (unsigned_abs-product dy (cross p a b))
      (omega (arith, signed_arith)) across_foot h (omega (arith, signed_arith, k)))

  below_of : pos w <ℤ (pos 2 *ℤ (a.y -ℤ p.y)) → pos w <ℤ (pos 2 *ℤ (b.y -ℤ p.y)) → near_segment p a b (pos w) ≡ false
  below_of h k =
      beside (second_far (p.x -ℤ a.x) (p.y -ℤ a.y) w (omega (arith, signed_arith, h, one_part (p.y -ℤ a.y)))) (second_far (p.x -ℤ b.x) (p.y -ℤ b.y) w (omega (arith, signed_arith, k, one_part (p.y -ℤ b.y))))
      (λ some more. line_below w (squared_distance a b) (along p a b) (cross p a b) (pos 0 -ℤ dx *ℤ cross p a b) vy (b.y -ℤ p.y) dy (unsigned_abs dx) columns_short some more upwards_size
      (omega (arith, signed_arith)) upwards_foot (omega (arith, signed_arith, h)) k)

  above_of : pos w <ℤ (pos 2 *ℤ (p.y -ℤ a.y)) → pos w <ℤ (pos 2 *ℤ (p.y -ℤ b.y)) → near_segment p a b (pos w) ≡ false
  above_of h k =
      beside (second_far (p.x -ℤ a.x) (p.y -ℤ a.y) w (omega (arith, signed_arith, h, one_part (p.y -ℤ a.y)))) (second_far (p.x -ℤ b.x) (p.y -ℤ b.y) w (omega (arith, signed_arith, k, one_part (p.y -ℤ b.y))))
      (λ some more. line_above w (squared_distance a b) (along p a b) (cross p a b) (pos 0 -ℤ dx *ℤ cross p a b) vy (b.y -ℤ p.y) dy (unsigned_abs dx) columns_short some more upwards_size
      (omega (arith, signed_arith)) upwards_foot h (omega (arith, signed_arith, k)))

-- ---- more than half a width away

-- a number is too low for both ends, or too high
abbrev IsLow : ℤ → ℤ → ℤ → ℤ → Type 0
IsLow one other whole v = ((pos 2 *ℤ v) <ℤ (pos 2 *ℤ one -ℤ whole)) × ((pos 2 *ℤ v) <ℤ (pos 2 *ℤ other -ℤ whole))

abbrev IsHigh : ℤ → ℤ → ℤ → ℤ → Type 0
IsHigh one other whole v = ((pos 2 *ℤ one +ℤ whole) <ℤ (pos 2 *ℤ v)) × ((pos 2 *ℤ other +ℤ whole) <ℤ (pos 2 *ℤ v))

either_none : (a b c d : Bool) → ((a || b) && (c || d)) ≡ false → ((a ≡ false) × (b ≡ false)) ⊎ ((c ≡ false) × (d ≡ false))
either_none a b c d h = elim (and_cases (a || b) (c || d) h) [ inl low ↦ inl (or_parts a b low) | inr high ↦ inr (or_parts c d high) ]

outside_half : (one other whole v : ℤ) → within_half one other whole v ≡ false → IsLow one other whole v ⊎ IsHigh one other whole v
outside_half one other whole v h =
    elim (either_none (int_le (pos 2 *ℤ one -ℤ whole) (pos 2 *ℤ v)) (int_le (pos 2 *ℤ other -ℤ whole) (pos 2 *ℤ v)) (int_le (pos 2 *ℤ v) (pos 2 *ℤ one +ℤ whole)) (int_le (pos 2 *ℤ v) (pos 2 *ℤ other +ℤ whole)) h) [
      | inl low ↦ inl (below_all (pos 2 *ℤ one -ℤ whole) (pos 2 *ℤ v) low.0, below_all (pos 2 *ℤ other -ℤ whole) (pos 2 *ℤ v) low.1)
      | inr high ↦ inr (below_all (pos 2 *ℤ v) (pos 2 *ℤ one +ℤ whole) high.0, below_all (pos 2 *ℤ v) (pos 2 *ℤ other +ℤ whole) high.1)
    ]

pub far_row : (p a b : Spot) (w : ℤ) → pos 0 ≤ℤ w → within_half a.y b.y w p.y ≡ false → near_segment p a b w ≡ false
far_row p a b (negsuc w) g h = absurd (omega (arith, signed_arith, g))
far_row p a b (pos w) g h =
    elim (outside_half a.y b.y (pos w) p.y h) [
      | inl low ↦ below_of p a b w (omega (arith, signed_arith, low.0)) (omega (arith, signed_arith, low.1))
      | inr high ↦ above_of p a b w (omega (arith, signed_arith, high.0)) (omega (arith, signed_arith, high.1))
    ]

pub far_column : (p a b : Spot) (w : ℤ) → pos 0 ≤ℤ w → within_half a.x b.x w p.x ≡ false → near_segment p a b w ≡ false
far_column p a b (negsuc w) g h = absurd (omega (arith, signed_arith, g))
far_column p a b (pos w) g h =
    elim (outside_half a.x b.x (pos w) p.x h) [
      | inl low ↦ left_of p a b w (omega (arith, signed_arith, low.0)) (omega (arith, signed_arith, low.1))
      | inr high ↦ right_of p a b w (omega (arith, signed_arith, high.0)) (omega (arith, signed_arith, high.1))
    ]

-- what isn't far is within
within_from : (within near : Bool) → near ≡ true → (within ≡ false → near ≡ false) → within ≡ true
within_from true near e far = refl
within_from false near e far = sym (far refl) ∙ e

pub near_within : NearPlacesAreWithin
near_within p a b w g near = (
  within_from (within_half a.x b.x w p.x) (near_segment p a b w) near (far_column p a b w g),
  within_from (within_half a.y b.y w p.y) (near_segment p a b w) near (far_row p a b w g),
)
