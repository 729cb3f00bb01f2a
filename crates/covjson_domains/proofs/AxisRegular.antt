-- Values in equal steps: those that are computed are the regular ones.
use Rattle.std.specs.Prelude.{int_div}
use Rattle.std.proofs.Common.{◌≡◌, ◌+ℤ◌, ◌*ℤ◌, ◌-ℤ◌, ◌*◌, ◌+◌, ◌-◌, inl, inr, ℕ, zero, suc, ◌<◌, ℤ, pos, negsuc, neg_ℤ, List, length, All, true, refl, sym, ap, ◌∙◌, subst, arith}
use Rattle.std.proofs.lemmas.Bool.{cases_lt}
use Rattle.std.proofs.lemmas.Int.{ints}
use Rattle.std.proofs.lemmas.List.{ext_get_or}
use Rattle.std.proofs.lemmas.List.Elements.{All-from_get_or}
use Rattle.std.proofs.Math.IntN.{*ℤ_comm}
use Rattle.std.proofs.Math.Nat.{eq_of_mul-eq-mul_right}
use borrow.Author.Differences.{up, down, same_in}
use Rattle.edr_axes.specs.Axes.{value_at}
use Rattle.edr_base.specs.Limits.{IsCoordinate}
use Rattle.covjson_domains.specs.Axes.{IsRegular}
use Rattle.covjson_domains.specs.AxisAnswers.{has_whole_steps, stepped, regular}
use Rattle.covjson_domains.proofs.SpanLemmas.{within_ends}
use Rattle.covjson_domains.proofs.AxisWholeSteps.{reached, steps_given}

-- ---- values in steps

-- as many as that
stepped-length : (first step : ℤ) (count : ℕ) → length (stepped first step count) ≡ count
stepped-length first step zero = refl
stepped-length first step (suc count) = ap suc (stepped-length (first +ℤ step) step count)

-- the value at a place is so many steps from the first
stepped_at : (first step : ℤ) (count place : ℕ) → place < count → value_at (stepped first step count) place ≡ first +ℤ pos place *ℤ step
stepped_at first step zero place h = absurd (omega arith)
stepped_at first step (suc count) zero h = omega (arith, ints)
stepped_at first step (suc count) (suc place) h =
    let more = stepped_at (first +ℤ step) step count place (omega arith) in
    omega (arith, ints, more)

-- products with numbers below 0
neg_mul : (m n : ℕ) → neg_ℤ (pos m) *ℤ pos n ≡ neg_ℤ (pos (m * n))
neg_mul zero n = omega (arith, ints)
neg_mul (suc m) n = omega (arith, ints)

-- and the other way round
mul_neg : (a m : ℕ) → pos a *ℤ neg_ℤ (pos m) ≡ neg_ℤ (pos (a * m))
mul_neg a zero = omega (arith, ints)
mul_neg a (suc m) = omega (arith, ints)

-- the product of three numbers
product_assoc : (a : ℕ) (s : ℤ) (n : ℕ) → (pos a *ℤ s) *ℤ pos n ≡ pos a *ℤ (s *ℤ pos n)
product_assoc a (pos s) n = omega (arith, ints)
product_assoc a (negsuc s) n =
    let same : a * suc s * n ≡ a * (suc s * n) = omega arith in
    neg_mul (a * suc s) n ∙ ap (λ (k : ℕ). neg_ℤ (pos k)) same ∙ sym (mul_neg a (suc s * n))

-- the values from the first to the last are regular
pub regular_stands : (first last : ℤ) (count : ℕ) → 0 < count → has_whole_steps first last (pos count) ≡ true → IsRegular first last count (regular first last count)
regular_stands first last count some even =
    let step = int_div (last -ℤ first) (pos (count - 1)) in
    let values = stepped first step count in
    let far : step *ℤ pos (count - 1) ≡ last -ℤ first = reached first last count some even in
    let turned = *ℤ_comm (pos (count - 1)) step in
    record {
      counted = stepped-length first step count;
      starts = stepped_at first step count 0 some ∙ omega (arith, ints);
      ends = stepped_at first step count (count - 1) (omega arith) ∙ omega (arith, ints);
      even = λ place inside.
          let here : value_at values place -ℤ first ≡ pos place *ℤ step = omega (arith, ints, stepped_at first step count place inside) in
          ap (λ (v : ℤ). v *ℤ pos (count - 1)) here ∙ product_assoc place step (count - 1) ∙ ap (λ (v : ℤ). pos place *ℤ v) far;
    }

-- and each of them is a coordinate
pub regular_within : (first last : ℤ) (count : ℕ) → 0 < count → has_whole_steps first last (pos count) ≡ true → IsCoordinate first → IsCoordinate last
    → All IsCoordinate (regular first last count)
regular_within first last count some even a b =
    let step = int_div (last -ℤ first) (pos (count - 1)) in
    let values = stepped first step count in
    let end : last ≡ first +ℤ step *ℤ pos (count - 1) = omega (arith, ints, reached first last count some even) in
    let end_in : IsCoordinate (first +ℤ step *ℤ pos (count - 1)) = subst (λ (v : ℤ). IsCoordinate v) end b in
    All-from_get_or IsCoordinate values (pos 0) (λ place inside.
    let below : place < count = omega (arith, stepped-length first step count) in
    subst (λ (v : ℤ). IsCoordinate v) (sym (stepped_at first step count place below)) (within_ends first step place (count - 1) (omega arith) a end_in))

-- ---- at most one list is regular

-- equal products with a number above 0
cancel : (a b : ℤ) (n : ℕ) → 0 < n → a *ℤ pos n ≡ b *ℤ pos n → a ≡ b
cancel a b n some h =
    let same : (up a + down b) * n ≡ (up b + down a) * n = omega (arith, ints) in
    same_in a b (eq_of_mul-eq-mul_right n some (up a + down b) (up b + down a) same)

module _ (first last : ℤ) (count : ℕ) (v w : List ℤ) (a : IsRegular first last count v) (b : IsRegular first last count w) where
  same_at : (place : ℕ) → place < count → value_at v place ≡ value_at w place
  same_at place inside =
      elim (cases_lt 1 count) [
        | inl several ↦ (let same = cancel (value_at v place -ℤ first) (value_at w place -ℤ first) (count - 1) (omega arith) (a.even place inside ∙ sym (b.even place inside)) in
            omega (arith, ints))
        | inr one ↦ (let start : place ≡ 0 = omega arith in rw start (a.starts ∙ sym b.starts))
      ]

  pub regular_one : v ≡ w
  regular_one = ext_get_or (pos 0) v w (omega (arith, a.counted, b.counted)) (λ place inside. same_at place (omega (arith, a.counted)))

-- the steps of a regular list
step_of : (first last : ℤ) (count : ℕ) (values : List ℤ) → 0 < count → IsRegular first last count values → (step : ℤ) × (step *ℤ pos (count - 1) ≡ last -ℤ first)
step_of first last zero values some r = absurd (omega arith)
step_of first last (suc zero) values some r = let e = sym r.starts ∙ r.ends in (pos 0, omega (arith, ints))
step_of first last (suc (suc more)) values some r = (value_at values 1 -ℤ first, r.even 1 (omega arith) ∙ omega (arith, ints))

-- a regular list is the one that is computed
pub regular_is : (first last : ℤ) (count : ℕ) (values : List ℤ) → 0 < count → IsRegular first last count values
    → (has_whole_steps first last (pos count) ≡ true) × (regular first last count ≡ values)
regular_is first last count values some r =
    let step = step_of first last count values some r in
    let even = steps_given first last step.0 count some step.1 in
    (even, regular_one first last count (regular first last count) values (regular_stands first last count some even) r)
