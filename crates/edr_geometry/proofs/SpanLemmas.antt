-- Whole numbers from one to another: quotients, square roots, and the places of an axis.
use Rattle.std.proofs.Common.{mul-le-mul, ◌≡◌, ℕ, ◌+◌, ◌*◌, ◌<◌, ◌≤◌, arith, Bool, true, false, refl, ap, ap₂, sym, subst, ◌∙◌, inl, inr, cond, List, length, count_by, max, nat_lt, ℤ, pos, negsuc, ◌+ℤ◌, ◌-ℤ◌, ◌*ℤ◌, ◌<ℤ◌, ◌≤ℤ◌, int_le, int_lt, to_z, of_z, w64}
use Rattle.std.specs.Prelude.{◌&&◌, nat_le}
use Rattle.std.specs.Int.{int_min, int_max, int_div_euclid, IsIsqrt}
use Rattle.std.specs.Int.RustNames.{unsigned_abs}
use Rattle.std.proofs.Math.Nat.{mul-le-mul_left}
use Rattle.std.proofs.lemmas.Bool.{cases_lt, and_left, and_right, le-leb, lt-leb, lt-ltb, le-ltb}
use Rattle.std.proofs.lemmas.Int.{by_lt_z}
use Rattle.jiff_core.proofs.SignedLemmas.{signed_arith, one_part, unsigned_abs-product, int_div_euclid-parts, back_small}
use borrow.Author.Differences.{up, down}
use Rattle.edr_axes.specs.Axes.{value_at, SplitsValues}
use Rattle.edr_base.specs.Boxes.{is_between}
use Rattle.edr_geometry.specs.Ranges.{lies_in}
use Rattle.edr_geometry.proofs.Products.{from_yes, from_no, less_yes, less_no, le_same, opposite_times, times_opposite, zero_times}

-- a number as the code reads it
pub back : (z : ℤ) → unsigned_abs z ≤ 1_000_000_000_000_000_000 → to_z w64 (of_z w64 z) ≡ z
back z small = back_small w64 z (omega (arith, small))

-- ---- the places of an axis

both_yes : (a b : Bool) → a ≡ true → (a && b) ≡ b
both_yes a b h = ap (λ c. c && b) h

-- of ascending values, those from a low number to a high one
pub lies_between : (values : List ℤ) (low high : ℤ) (first end : ℕ) → SplitsValues values low → SplitsValues values high → first ≡ count_by (λ v. int_lt v low) values
    → end ≡ max first (count_by (λ v. int_le v high) values) → (place : ℕ) → place < length values → lies_in (first, end) place ≡ is_between low high (value_at values place)
lies_between values low high first end below at_most first_is end_is place inside =
    by_lt_z (value_at values place) low
    (λ under. (let before = (below.below place).0 (inside, under) in
    and_left (nat_le first place) (nat_lt place end) (lt-leb first place (omega (arith, first_is, before)))
    ∙ sym (and_left (int_le low (value_at values place)) (int_le (value_at values place) high) (from_no low (value_at values place) under))))
    (λ from. (let behind : first ≤ place = elim (cases_lt place first) [
      | inl lt ↦ absurd (let under = ((below.below place).1 (omega (arith, first_is, lt))).1 in omega (arith, signed_arith, under, from))
      | inr ge ↦ ge
    ] in
    both_yes (nat_le first place) (nat_lt place end) (le-leb first place behind)
    ∙ by_lt_z high (value_at values place)
    (λ over. (let after : end ≤ place = elim (cases_lt place end) [
      | inl lt ↦ absurd (let within = ((at_most.at_most place).1 (omega (arith, end_is, behind, lt))).1 in omega (arith, signed_arith, within, over))
      | inr ge ↦ ge
    ] in le-ltb place end after ∙ sym (from_no (value_at values place) high over)))
    (λ within. (let counted = (at_most.at_most place).0 (inside, within) in lt-ltb place end (omega (arith, counted, end_is)) ∙ sym (from_yes (value_at values place) high within)))
    ∙ sym (both_yes (int_le low (value_at values place)) (int_le (value_at values place) high) (from_yes low (value_at values place) from))))

-- no place lies in a range without places
pub none_lies : (place : ℕ) → lies_in (0, 0) place ≡ false
none_lies place = and_right (nat_le 0 place) (nat_lt place 0) (le-ltb place 0 (omega arith))

-- ---- spans

-- none lies between a number and a lower one
pub none_between : (low high v : ℤ) → high <ℤ low → is_between low high v ≡ false
none_between low high v h =
    by_lt_z v low
    (λ under. and_left (int_le low v) (int_le v high) (from_no low v under))
    (λ from. and_right (int_le low v) (int_le v high) (from_no v high (omega (arith, signed_arith, h, from))))

regroup : (a b c d : Bool) → ((a && b) && (c && d)) ≡ ((a && c) && (b && d))
regroup true true c d = refl
regroup true false true d = refl
regroup true false false d = refl
regroup false b c d = refl

greater_of : (a b v : ℤ) → int_le (int_max a b) v ≡ (int_le a v && int_le b v)
greater_of a b v =
    by_lt_z b a
    (λ lt. ap (λ c. int_le (cond c a b) v) (less_yes b a lt)
    ∙ by_lt_z v a
    (λ under. from_no a v under ∙ sym (and_left (int_le a v) (int_le b v) (from_no a v under)))
    (λ from. from_yes a v from ∙ sym (ap₂ (λ x y. x && y) (from_yes a v from) (from_yes b v (omega (arith, signed_arith, lt, from))))))
    (λ ge. ap (λ c. int_le (cond c a b) v) (less_no b a ge)
    ∙ by_lt_z v b
    (λ under. from_no b v under ∙ sym (and_right (int_le a v) (int_le b v) (from_no b v under)))
    (λ from. from_yes b v from ∙ sym (ap₂ (λ x y. x && y) (from_yes a v (omega (arith, signed_arith, ge, from))) (from_yes b v from))))

lesser_of : (a b v : ℤ) → int_le v (int_min a b) ≡ (int_le v a && int_le v b)
lesser_of a b v =
    by_lt_z b a
    (λ lt. ap (λ c. int_le v (cond c b a)) (less_yes b a lt)
    ∙ by_lt_z b v
    (λ over. from_no v b over ∙ sym (and_right (int_le v a) (int_le v b) (from_no v b over)))
    (λ to. from_yes v b to ∙ sym (ap₂ (λ x y. x && y) (from_yes v a (omega (arith, signed_arith, lt, to))) (from_yes v b to))))
    (λ ge. ap (λ c. int_le v (cond c b a)) (less_no b a ge)
    ∙ by_lt_z a v
    (λ over. from_no v a over ∙ sym (and_left (int_le v a) (int_le v b) (from_no v a over)))
    (λ to. from_yes v a to ∙ sym (ap₂ (λ x y. x && y) (from_yes v a to) (from_yes v b (omega (arith, signed_arith, ge, to))))))

-- both of two spans
pub both_between : (low high other_low other_high least greatest : ℤ) → least ≡ int_max low other_low → greatest ≡ int_min high other_high
    → (v : ℤ) → is_between least greatest v ≡ (is_between low high v && is_between other_low other_high v)
both_between low high other_low other_high least greatest least_is greatest_is v =
    ap₂ (λ l g. is_between l g v) least_is greatest_is
    ∙ ap₂ (λ x y. x && y) (greater_of low other_low v) (lesser_of high other_high v)
    ∙ regroup (int_le low v) (int_le other_low v) (int_le v high) (int_le v other_high)

-- ---- quotients

times_more : (k : ℕ) (a b : ℤ) → a ≤ℤ b → (pos k *ℤ a) ≤ℤ (pos k *ℤ b)
times_more k a b h =
    let one : up a + down b ≤ up b + down a = omega (arith, signed_arith, h) in
    let more : k * (up a + down b) ≤ k * (up b + down a) = mul-le-mul_left k one in
    omega (arith, signed_arith, more)

quotient_ends : (limit q : ℤ) (k : ℕ) → q ≡ int_div_euclid limit (pos k) → 0 < k → ((pos k *ℤ q) ≤ℤ limit) × (limit <ℤ (pos k *ℤ q +ℤ pos k))
quotient_ends limit q k is some =
    let parts = int_div_euclid-parts limit k some in
    let low : up q * k + down limit ≤ down q * k + up limit = subst (λ z. up z * k + down limit ≤ down z * k + up limit) (sym is) parts.0 in
    let high : down q * k + up limit < up q * k + down limit + k = subst (λ z. down z * k + up limit < up z * k + down limit + k) (sym is) parts.1 in
    (omega (arith, signed_arith, low), omega (arith, signed_arith, high))

-- what a divisor makes at most a limit is at most the quotient that is rounded down
pub quotient_is : (limit divisor q : ℤ) → q ≡ int_div_euclid limit divisor → pos 0 <ℤ divisor → (v : ℤ) → int_le v q ≡ int_le (divisor *ℤ v) limit
quotient_is limit (negsuc k) q is some v = absurd (omega (arith, signed_arith, some))
quotient_is limit (pos k) q is some v =
    let ends = quotient_ends limit q k is (omega (arith, signed_arith, some)) in
    by_lt_z q v
    (λ over. (let next : (q +ℤ pos 1) ≤ℤ v = omega (arith, signed_arith, over) in
    let more = times_more k (q +ℤ pos 1) v next in
    let step : pos k *ℤ (q +ℤ pos 1) ≡ pos k *ℤ q +ℤ pos k = times_next k q in
    from_no v q over ∙ sym (from_no (pos k *ℤ v) limit (omega (arith, signed_arith, ends.1, step, more)))))
    (λ to. (let less = times_more k v q to in
    from_yes v q to ∙ sym (from_yes (pos k *ℤ v) limit (omega (arith, signed_arith, ends.0, less)))))
  where
    times_next : (k : ℕ) (q : ℤ) → pos k *ℤ (q +ℤ pos 1) ≡ pos k *ℤ q +ℤ pos k
    times_next k q =
        let same : up (q +ℤ pos 1) + down q ≡ down (q +ℤ pos 1) + up q + 1 = omega (arith, signed_arith) in
        let times : k * (up (q +ℤ pos 1) + down q) ≡ k * (down (q +ℤ pos 1) + up q + 1) = ap (λ n. k * n) same in
        omega (arith, signed_arith, times)

-- the product of both opposites
pub turned : (a b : ℤ) → (pos 0 -ℤ a) *ℤ (pos 0 -ℤ b) ≡ a *ℤ b
turned a b =
    let one = opposite_times (pos 0 -ℤ a) a (pos 0 -ℤ b) (omega (arith, signed_arith)) in
    let two = times_opposite a (pos 0 -ℤ b) b (omega (arith, signed_arith)) in
    same ((pos 0 -ℤ a) *ℤ (pos 0 -ℤ b)) (a *ℤ (pos 0 -ℤ b)) (a *ℤ b) one two
  where
    same : (m n o : ℤ) → m +ℤ n ≡ pos 0 → n +ℤ o ≡ pos 0 → m ≡ o
    same m n o h k = omega (arith, signed_arith, h, k)

-- of a divisor that is the opposite of a factor
pub opposite_quotient : (factor limit q v : ℤ) → ((w : ℤ) → int_le w q ≡ int_le ((pos 0 -ℤ factor) *ℤ w) limit) → int_le (pos 0 -ℤ q) v ≡ int_le (factor *ℤ v) limit
opposite_quotient factor limit q v is =
    le_same (pos 0 -ℤ q) v (pos 0 -ℤ v) q (omega (arith, signed_arith)) ∙ is (pos 0 -ℤ v) ∙ ap (λ p. int_le p limit) (turned factor v)

-- a factor of 0 makes no number at most a limit below 0
pub nothing_below : (factor limit v : ℤ) → factor ≡ pos 0 → limit <ℤ pos 0 → int_le (factor *ℤ v) limit ≡ false
nothing_below factor limit v is below = ap (λ f. int_le (f *ℤ v) limit) is ∙ from_no (pos 0 *ℤ v) limit (omega (arith, signed_arith, zero_times v, below))

pub at_least_is : (factor limit v : ℤ) → int_le ((pos 0 -ℤ factor) *ℤ v) (pos 0 -ℤ limit) ≡ int_le limit (factor *ℤ v)
at_least_is factor limit v =
    let opposite = opposite_times (pos 0 -ℤ factor) factor v (omega (arith, signed_arith)) in
    le_same ((pos 0 -ℤ factor) *ℤ v) (pos 0 -ℤ limit) limit (factor *ℤ v) (omega (arith, signed_arith, opposite))

-- ---- square roots

-- the numbers at most a root away from a centre have a squared distance that is at most the square
pub root_is : (square root centre : ℤ) → IsIsqrt square root → pos 0 ≤ℤ square → (v : ℤ) → is_between (centre -ℤ root) (centre +ℤ root) v ≡ int_le ((v -ℤ centre) *ℤ (v -ℤ centre)) square
root_is square root centre r positive v =
    let n : ℕ = r.0 in let square_le = r.2 in let next_gt = r.3 in
    let size = unsigned_abs-product (v -ℤ centre) (v -ℤ centre) in
    let d : ℕ = unsigned_abs (v -ℤ centre) in
    elim (cases_lt n d) [
      | inl far ↦
          (let more : (n + 1) * (n + 1) ≤ d * d = mul-le-mul (omega (arith, far)) (omega (arith, far)) in
          outside far ∙ sym (from_no ((v -ℤ centre) *ℤ (v -ℤ centre)) square (omega (arith, signed_arith, more, size, next_gt, positive, one_part square, one_part ((v -ℤ centre) *ℤ (v -ℤ centre)), product_positive (v -ℤ centre)))))
      | inr close ↦
          (let less : d * d ≤ n * n = mul-le-mul close close in
          inside close ∙ sym (from_yes ((v -ℤ centre) *ℤ (v -ℤ centre)) square (omega (arith, signed_arith, less, size, square_le, positive, one_part square, one_part ((v -ℤ centre) *ℤ (v -ℤ centre))))))
    ]
  where
    product_positive : (z : ℤ) → pos 0 ≤ℤ (z *ℤ z)
    product_positive (pos z) = omega (arith, signed_arith)
    product_positive (negsuc z) = omega (arith, signed_arith)

    is : root ≡ pos r.0
    is = r.1

    outside : r.0 < unsigned_abs (v -ℤ centre) → is_between (centre -ℤ root) (centre +ℤ root) v ≡ false
    outside far =
        by_lt_z v centre
        (λ lt. and_left (int_le (centre -ℤ root) v) (int_le v (centre +ℤ root)) (from_no (centre -ℤ root) v (omega (arith, signed_arith, is, far, lt, one_part (v -ℤ centre)))))
        (λ ge. and_right (int_le (centre -ℤ root) v) (int_le v (centre +ℤ root)) (from_no v (centre +ℤ root) (omega (arith, signed_arith, is, far, ge, one_part (v -ℤ centre)))))

    inside : unsigned_abs (v -ℤ centre) ≤ r.0 → is_between (centre -ℤ root) (centre +ℤ root) v ≡ true
    inside close =
        ap₂ (λ a b. a && b)
        (from_yes (centre -ℤ root) v (omega (arith, signed_arith, is, close, one_part (v -ℤ centre))))
        (from_yes v (centre +ℤ root) (omega (arith, signed_arith, is, close, one_part (v -ℤ centre))))

-- a root is at most a number whose next has a greater square
pub root_small : (square root : ℤ) (m n : ℕ) → IsIsqrt square root → unsigned_abs square ≤ m → m < (n + 1) * (n + 1) → unsigned_abs root ≤ n
root_small square root m n r small far =
    elim (cases_lt n r.0) [
      | inl lt ↦ (let more : (n + 1) * (n + 1) ≤ r.0 * r.0 = mul-le-mul (omega (arith, lt)) (omega (arith, lt)) in absurd (omega (arith, more, r.2, small, far)))
      | inr ge ↦ omega (arith, ap unsigned_abs r.1, ge)
    ]
