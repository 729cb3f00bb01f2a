-- Products of whole numbers, and comparisons that go together.
use Rattle.std.proofs.Common.{◌≡◌, ◌+◌, ◌*◌, arith, true, false, ap, ap₂, sym, ◌∙◌, ℤ, pos, ◌+ℤ◌, ◌-ℤ◌, ◌*ℤ◌, ◌<ℤ◌, ◌≤ℤ◌, int_le, int_lt}
use Rattle.std.proofs.Math.IntN.{*ℤ_comm}
use Rattle.std.proofs.lemmas.Int.{ints, by_lt_z}
use Rattle.jiff_core.proofs.SignedLemmas.{signed_arith}
use borrow.Author.Differences.{up, down}

-- ---- sums and differences times a number

pub add-times : (a b c : ℤ) → (a +ℤ b) *ℤ c ≡ a *ℤ c +ℤ b *ℤ c
add-times a b c =
    let same : up (a +ℤ b) + (down a + down b) ≡ down (a +ℤ b) + (up a + up b) = omega (arith, signed_arith) in
    let ups : (up (a +ℤ b) + (down a + down b)) * up c ≡ (down (a +ℤ b) + (up a + up b)) * up c = ap (λ n. n * up c) same in
    let downs : (up (a +ℤ b) + (down a + down b)) * down c ≡ (down (a +ℤ b) + (up a + up b)) * down c = ap (λ n. n * down c) same in
    omega (arith, signed_arith, ups, downs)

pub times-add : (a b c : ℤ) → a *ℤ (b +ℤ c) ≡ a *ℤ b +ℤ a *ℤ c
times-add a b c = *ℤ_comm a (b +ℤ c) ∙ add-times b c a ∙ ap₂ (λ m n. m +ℤ n) (*ℤ_comm b a) (*ℤ_comm c a)

pub times-sub : (a b c : ℤ) → a *ℤ (b -ℤ c) ≡ a *ℤ b -ℤ a *ℤ c
times-sub a b c =
    let same : (b -ℤ c) +ℤ c ≡ b = omega (arith, signed_arith) in
    let spread : a *ℤ b ≡ a *ℤ (b -ℤ c) +ℤ a *ℤ c = ap (λ n. a *ℤ n) (sym same) ∙ times-add a (b -ℤ c) c in
    taken (a *ℤ b) (a *ℤ (b -ℤ c)) (a *ℤ c) spread
  where
    taken : (m n o : ℤ) → m ≡ n +ℤ o → n ≡ m -ℤ o
    taken m n o h = omega (arith, signed_arith, h)

pub zero_times : (n : ℤ) → pos 0 *ℤ n ≡ pos 0
zero_times n = omega (arith, signed_arith)

pub times_zero : (n : ℤ) → n *ℤ pos 0 ≡ pos 0
times_zero n = omega (arith, signed_arith)

-- opposite factors make opposite products
pub opposite_times : (m o n : ℤ) → m +ℤ o ≡ pos 0 → m *ℤ n +ℤ o *ℤ n ≡ pos 0
opposite_times m o n h = sym (add-times m o n) ∙ ap (λ k. k *ℤ n) h ∙ zero_times n

pub times_opposite : (m n o : ℤ) → n +ℤ o ≡ pos 0 → m *ℤ n +ℤ m *ℤ o ≡ pos 0
times_opposite m n o h = sym (times-add m n o) ∙ ap (λ k. m *ℤ k) h ∙ times_zero m

pub opposite_square : (m o : ℤ) → m +ℤ o ≡ pos 0 → m *ℤ m ≡ o *ℤ o
opposite_square m o h = same (m *ℤ m) (o *ℤ m) (o *ℤ o) (opposite_times m o m h) (times_opposite o m o h)
  where
    same : (a b c : ℤ) → a +ℤ b ≡ pos 0 → b +ℤ c ≡ pos 0 → a ≡ c
    same a b c k l = omega (arith, signed_arith, k, l)

-- ---- comparisons

pub from_yes : (a b : ℤ) → a ≤ℤ b → int_le a b ≡ true
from_yes a b h = grind (arith, ints)

pub from_no : (a b : ℤ) → b <ℤ a → int_le a b ≡ false
from_no a b h = grind (arith, ints)

pub less_yes : (a b : ℤ) → a <ℤ b → int_lt a b ≡ true
less_yes a b h = grind (arith, ints)

pub less_no : (a b : ℤ) → b ≤ℤ a → int_lt a b ≡ false
less_no a b h = grind (arith, ints)

-- as far apart, so compared alike
pub le_same : (a b c d : ℤ) → a +ℤ d ≡ c +ℤ b → int_le a b ≡ int_le c d
le_same a b c d h =
    by_lt_z b a
    (λ lt. from_no a b lt ∙ sym (from_no c d (omega (arith, signed_arith, h, lt))))
    (λ ge. from_yes a b ge ∙ sym (from_yes c d (omega (arith, signed_arith, h, ge))))

-- below is at most one less
pub lt_same : (a b c d : ℤ) → (a +ℤ pos 1) +ℤ d ≡ c +ℤ b → int_lt a b ≡ int_le c d
lt_same a b c d h =
    by_lt_z a b
    (λ lt. less_yes a b lt ∙ sym (from_yes c d (omega (arith, signed_arith, h, lt))))
    (λ ge. less_no a b ge ∙ sym (from_no c d (omega (arith, signed_arith, h, ge))))
