-- The test whether values lie in equal whole steps from the first to the last.
use Rattle.std.specs.Prelude.{int_div, int_rem, ◌==◌}
use Rattle.std.proofs.Common.{◌≡◌, ◌+ℤ◌, ◌*ℤ◌, ◌-ℤ◌, ◌*◌, ◌+◌, ◌-◌, unsigned_abs, ℕ, zero, suc, ◌<◌, ℤ, pos, true, ap, ◌∙◌, subst, arith}
use Rattle.std.proofs.lemmas.Bool.{le-ltb, lt-leb, eq-eqb}
use Rattle.std.proofs.lemmas.Int.{ints, quot-rem, rem_below, unsigned_abs-mul}
use borrow.Author.Differences.{up, down}
use Rattle.covjson_domains.specs.AxisAnswers.{has_whole_steps}
use Rattle.covjson_domains.proofs.SpanLemmas.{one_less, several_steps, one_is, whole_quotient}

-- what is tested of several values
several_tested : (first last : ℤ) (count : ℕ) → 1 < count → has_whole_steps first last (pos count) ≡ (unsigned_abs (int_rem (last -ℤ first) (pos (count - 1))) == 0)
several_tested first last count several =
    several_steps first last (pos count) (le-ltb count 1 (omega arith)) (lt-leb count 1 several)
    ∙ ap (λ (d : ℤ). unsigned_abs (int_rem (last -ℤ first) d) == 0) (one_less count (omega arith))

-- whole steps reach the last value, and so does the one value of a single one
pub reached : (first last : ℤ) (count : ℕ) → 0 < count → has_whole_steps first last (pos count) ≡ true
    → int_div (last -ℤ first) (pos (count - 1)) *ℤ pos (count - 1) ≡ last -ℤ first
reached first last zero some h = absurd (omega arith)
reached first last (suc zero) some h =
    let same = one_is first last h in
    omega (arith, ints)
reached first last (suc (suc more)) some h =
    let count = suc (suc more) in
    let whole = whole_quotient first last (pos count) (le-ltb count 1 (omega arith)) (lt-leb count 1 (omega arith)) h in
    subst (λ (d : ℤ). int_div (last -ℤ first) d *ℤ d ≡ last -ℤ first) (one_less count some) whole

-- a multiple below what it is a multiple of is none
no_times : (k n rest : ℕ) → rest ≡ k * n → rest < n → rest ≡ 0
no_times zero n rest e below = omega arith
no_times (suc k) n rest e below = absurd (omega arith)

-- so many times a sum
times_sum : (a b k : ℤ) (n : ℕ) → k +ℤ b ≡ a → k *ℤ pos n +ℤ b *ℤ pos n ≡ a *ℤ pos n
times_sum a b k n h =
    let sums : up k + up b + down a ≡ up a + down k + down b = omega (arith, ints) in
    let times : (up k + up b + down a) * n ≡ (up a + down k + down b) * n = ap (λ (t : ℕ). t * n) sums in
    omega (arith, ints)

-- a multiple leaves nothing
no_rest : (step : ℤ) (n : ℕ) → 0 < n → unsigned_abs (int_rem (step *ℤ pos n) (pos n)) ≡ 0
no_rest step n some =
    let z = step *ℤ pos n in
    let rest = int_rem z (pos n) in
    let quotient = int_div z (pos n) in
    let whole : quotient *ℤ pos n +ℤ rest ≡ step *ℤ pos n = quot-rem z (pos n) in
    let below : unsigned_abs rest < n = rem_below z (pos n) some in
    let apart = times_sum step quotient (step -ℤ quotient) n (omega (arith, ints)) in
    let times : rest ≡ (step -ℤ quotient) *ℤ pos n = omega (arith, ints) in
    let sizes : unsigned_abs rest ≡ unsigned_abs (step -ℤ quotient) * n = ap unsigned_abs times ∙ unsigned_abs-mul (step -ℤ quotient) (pos n) in
    no_times (unsigned_abs (step -ℤ quotient)) n (unsigned_abs rest) sizes below

-- steps that reach the last value are whole
several_given : (first last step : ℤ) (count : ℕ) → 1 < count → step *ℤ pos (count - 1) ≡ last -ℤ first → has_whole_steps first last (pos count) ≡ true
several_given first last step count several h =
    let none : unsigned_abs (int_rem (last -ℤ first) (pos (count - 1))) ≡ 0 = rw (← h) (no_rest step (count - 1) (omega arith)) in
    several_tested first last count several ∙ eq-eqb (unsigned_abs (int_rem (last -ℤ first) (pos (count - 1)))) 0 none

-- and one value is the first and the last
pub steps_given : (first last step : ℤ) (count : ℕ) → 0 < count → step *ℤ pos (count - 1) ≡ last -ℤ first → has_whole_steps first last (pos count) ≡ true
steps_given first last step zero some h = absurd (omega arith)
steps_given first last step (suc zero) some h =
    let none : last -ℤ first ≡ pos 0 = omega (arith, ints) in
    eq-eqb (unsigned_abs (last -ℤ first)) 0 (ap unsigned_abs none)
steps_given first last step (suc (suc more)) some h = several_given first last step (suc (suc more)) (omega arith) h
