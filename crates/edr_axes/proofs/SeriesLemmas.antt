-- Whether a level is in a series.
use Rattle.std.proofs.Common.{◌≡◌, ◌↔◌, IsTrue, Bool, false, ℕ, zero, suc, ◌*◌, ◌/◌, ◌%◌, ◌<◌, ◌≤◌, nat_lt, int_le, refl, sym, ap, ◌∙◌, arith, ℤ, pos, negsuc, neg_ℤ, ◌+ℤ◌, ◌-ℤ◌, ◌*ℤ◌, ◌<ℤ◌, ◌≤ℤ◌, FitsSigned, w64}
use Rattle.std.specs.Int.RustNames.{unsigned_abs}
use Rattle.std.proofs.Math.Nat.{div-eq_of_eq-mul_left, mul-le-mul}
use Rattle.std.proofs.lemmas.Int.{ints, unsigned_abs-mul, fits_signed_from_abs}
use Rattle.std.proofs.lemmas.Bool.{false≢true}
use Rattle.std.proofs.lemmas.Bool.Decides.{nat_tests}
use Rattle.jiff_core.proofs.SignedLemmas.{signed_arith, one_part}
use Rattle.edr_base.specs.Limits.{coordinate_limit}
use Rattle.edr_axes.specs.Levels.{IsLevel, IsInSeries, IsSeries}

-- ---- multiples of a step

pub multiple : (distance step count : ℕ) → 0 < step → distance % step ≡ 0 → IsTrue (nat_lt (distance / step) count) ↔ ((k : ℕ) × (k < count) × (distance ≡ k * step))
multiple distance step count some rest =
    (λ t. (distance / step, grind (arith, nat_tests), omega arith), λ w. (let same = div-eq_of_eq-mul_left some w.2 in let lt = w.1 in grind (arith, nat_tests)))

positive_product : (k : ℕ) (step : ℤ) → pos 0 <ℤ step → pos k *ℤ step ≡ pos (k * unsigned_abs step)
positive_product k (pos m) h = refl
positive_product k (negsuc m) h = absurd (omega (arith, signed_arith, h))

negative_product : (k : ℕ) (step : ℤ) → step <ℤ pos 0 → pos k *ℤ step ≡ neg_ℤ (pos (k * unsigned_abs step))
negative_product k (pos m) h = absurd (omega (arith, signed_arith, h))
negative_product k (negsuc m) h = refl

natural : (n : ℤ) → pos 1 ≤ℤ n → pos (unsigned_abs n) ≡ n
natural (pos m) h = refl
natural (negsuc m) h = absurd (omega (arith, signed_arith, h))

pub below_zero : (step : ℤ) → step ≤ℤ pos 0 → ¬ (step ≡ pos 0) → step <ℤ pos 0
below_zero (pos zero) h other = absurd (other refl)
below_zero (pos (suc m)) h other = absurd (omega (arith, signed_arith, h))
below_zero (negsuc m) h other = omega (arith, signed_arith)

-- ---- a level, its distance from the first, and the size of the step

pub record AreFar (first step level : ℤ) (distance size : ℕ) : Type 0 where
  pub distance_is : distance ≡ unsigned_abs (level -ℤ first)
  pub size_is : size ≡ unsigned_abs step

-- the distance is a multiple of the step, by less than the count
abbrev pub IsMultiple : ℕ → ℕ → ℕ → Type 0
IsMultiple distance size count = (k : ℕ) × (k < count) × (distance ≡ k * size)

pub rising : (n first step level : ℤ) (distance size : ℕ) (b : Bool) → pos 1 ≤ℤ n → pos 0 <ℤ step → first ≤ℤ level → AreFar first step level distance size → IsTrue b ↔ IsMultiple distance size (unsigned_abs n)
    → IsTrue b ↔ IsInSeries n first step level
rising n first step level distance size b some up above far h =
    let count_is = natural n some in
    let d = far.distance_is in (
      λ t. (let w = h.0 t in
          let is : distance ≡ w.0 * unsigned_abs step = w.2 ∙ ap (λ s. w.0 * s) far.size_is in
          let product = positive_product w.0 step up in
          (w.0, omega (arith, signed_arith, w.1, count_is), omega (arith, signed_arith, above, d, is, product, one_part (level -ℤ first)))),
      λ w. (let product = positive_product w.0 step up in
          let is : distance ≡ w.0 * unsigned_abs step = omega (arith, signed_arith, above, d, product, w.2, one_part (level -ℤ first)) in
          h.1 (w.0, omega (arith, signed_arith, w.1, count_is), is ∙ ap (λ s. w.0 * s) (sym far.size_is))),
    )

pub falling : (n first step level : ℤ) (distance size : ℕ) (b : Bool) → pos 1 ≤ℤ n → step <ℤ pos 0 → level ≤ℤ first → AreFar first step level distance size → IsTrue b ↔ IsMultiple distance size (unsigned_abs n)
    → IsTrue b ↔ IsInSeries n first step level
falling n first step level distance size b some down below far h =
    let count_is = natural n some in
    let d = far.distance_is in (
      λ t. (let w = h.0 t in
          let is : distance ≡ w.0 * unsigned_abs step = w.2 ∙ ap (λ s. w.0 * s) far.size_is in
          let product = negative_product w.0 step down in
          (w.0, omega (arith, signed_arith, w.1, count_is), omega (arith, signed_arith, below, d, is, product, one_part (level -ℤ first)))),
      λ w. (let product = negative_product w.0 step down in
          let is : distance ≡ w.0 * unsigned_abs step = omega (arith, signed_arith, below, d, product, w.2, one_part (level -ℤ first)) in
          h.1 (w.0, omega (arith, signed_arith, w.1, count_is), is ∙ ap (λ s. w.0 * s) (sym far.size_is))),
    )

-- a level that lies on the other side of the first
rises_from : (n first step level : ℤ) → pos 0 <ℤ step → level <ℤ first → ¬ (IsInSeries n first step level)
rises_from n first step level up below w = omega (arith, signed_arith, below, positive_product w.0 step up, w.2)

falls_from : (n first step level : ℤ) → step <ℤ pos 0 → first <ℤ level → ¬ (IsInSeries n first step level)
falls_from n first step level down above w = omega (arith, signed_arith, above, negative_product w.0 step down, w.2)

not_in_series : (n first step level : ℤ) (b : Bool) → b ≡ false → ¬ (IsInSeries n first step level) → IsTrue b ↔ IsInSeries n first step level
not_in_series n first step level b is other = (λ t. absurd (false≢true (sym is ∙ t)), λ w. absurd (other w))

pub below_first : (n first step level : ℤ) (b : Bool) → b ≡ false → pos 0 <ℤ step → level <ℤ first → IsTrue b ↔ IsInSeries n first step level
below_first n first step level b is up below = not_in_series n first step level b is (rises_from n first step level up below)

pub above_first : (n first step level : ℤ) (b : Bool) → b ≡ false → step <ℤ pos 0 → first <ℤ level → IsTrue b ↔ IsInSeries n first step level
above_first n first step level b is down above = not_in_series n first step level b is (falls_from n first step level down above)

-- ---- the numbers of a series

product_small : (a b : ℤ) → unsigned_abs a ≤ 100_000_001 → unsigned_abs b ≤ 100_000_000 → unsigned_abs (a *ℤ b) ≤ 10_000_000_100_000_000
product_small a b h k = rw unsigned_abs-mul (omega (arith, mul-le-mul h k))

sum_small : (a b : ℤ) → unsigned_abs a ≤ 100_000_000 → unsigned_abs b ≤ 10_000_000_100_000_000 → unsigned_abs (a +ℤ b) ≤ 10_000_000_200_000_000
sum_small a b h k = omega (arith, signed_arith, one_part a, one_part b, one_part (a +ℤ b))

pub level_fits : (level : ℤ) → IsLevel level → FitsSigned w64 level
level_fits level h = fits_signed_from_abs w64 level (omega arith)

-- what the last level is made of fits 64 bits
pub record Fit (n first step : ℤ) : Type 0 where
  pub less : FitsSigned w64 (n -ℤ pos 1)
  pub product : FitsSigned w64 ((n -ℤ pos 1) *ℤ step)
  pub last : FitsSigned w64 (first +ℤ (n -ℤ pos 1) *ℤ step)

pub series_fits : (n first step : ℤ) → IsLevel n → IsLevel first → IsLevel step → Fit n first step
series_fits n first step n_in first_in step_in =
    let less_in : unsigned_abs (n -ℤ pos 1) ≤ 100_000_001 = omega (arith, signed_arith, one_part n, one_part (n -ℤ pos 1)) in
    let product = (n -ℤ pos 1) *ℤ step in
    let product_in : unsigned_abs product ≤ 10_000_000_100_000_000 = product_small (n -ℤ pos 1) step less_in step_in in
    let last_in : unsigned_abs (first +ℤ product) ≤ 10_000_000_200_000_000 = sum_small first product first_in product_in in
    record {
      less = fits_signed_from_abs w64 (n -ℤ pos 1) (omega arith);
      product = fits_signed_from_abs w64 product (omega arith);
      last = fits_signed_from_abs w64 (first +ℤ product) (omega arith);
    }

pub series_test : (n first step : ℤ) → pos 1 ≤ℤ n → pos 1 ≤ℤ step → IsTrue (int_le (first +ℤ (n -ℤ pos 1) *ℤ step) (pos coordinate_limit)) ↔ IsSeries n first step
series_test n first step some rises =
    (λ t. record { some = some; rises = rises; last_in = grind (arith, ints) }, λ s. (let last = s.last_in in grind (arith, ints)))
