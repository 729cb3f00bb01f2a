-- Values in equal steps, and the spans that they make.
use Rattle.std.proofs.Common.{◌≡◌, ◌∙◌, inl, inr, FitsSigned, of_z, sym, ◌+ℤ◌, ◌*ℤ◌, ◌-ℤ◌, unsigned_abs, ℕ, suc, zero, ◌==◌, ◌-◌, ◌*◌, ◌<◌, ◌≤◌, ℤ, pos, negsuc, true, false, int_lt, int_le, ◌≤ℤ◌, ◌&&◌, [], ◌∷◌, ◌++◌, arith, ap, refl}
use Rattle.std.specs.Prelude.{int_div, int_rem}
use Rattle.std.proofs.lemmas.Bool.{eqb-true, eqb-false, eq-eqb, ne_eqb, leb-true, and_parts, cases_Bool}
use Rattle.std.proofs.lemmas.Int.{ints, quot-rem, unsigned_abs-mul}
use Rattle.std.proofs.Math.Nat.{mul-le-mul_left}
use mir.Syntax.{w128}
use Rattle.edr_base.specs.Limits.{coordinate_limit, node_limit, IsCoordinate}
use Rattle.covjson_checks.specs.Members.{is_within}
use Rattle.covjson_domains.specs.AxisRows.{IsSpan}
use Rattle.covjson_domains.specs.AxisAnswers.{has_whole_steps, is_span_within, stepped, regular}
use Rattle.covjson_domains.proofs.OrderTests.{at_most_tells}

-- ---- values between the first and the last

-- a place between the first and the last has a value between theirs
pub within_ends : (first step : ℤ) (place most : ℕ) → place ≤ most → IsCoordinate first → IsCoordinate (first +ℤ step *ℤ pos most) → IsCoordinate (first +ℤ pos place *ℤ step)
within_ends first (pos s) place most h a b = grind (arith, ints, mul-le-mul_left s h)
within_ends first (negsuc s) place most h a b = grind (arith, ints, mul-le-mul_left s h)

-- one less than a count that isn't 0
pub one_less : (count : ℕ) → 0 < count → pos count -ℤ pos 1 ≡ pos (count - 1)
one_less count some = omega (arith, ints)

-- a value in steps from one coordinate to another is a coordinate
pub between_ends : (first step : ℤ) (place count : ℕ) → place < count → IsCoordinate first → IsCoordinate (first +ℤ step *ℤ (pos count -ℤ pos 1)) → IsCoordinate (first +ℤ pos place *ℤ step)
between_ends first step place count h a b =
    let less = one_less count (omega arith) in
    within_ends first step place (count - 1) (omega arith) a (rw less at b)

-- and no farther from the first than two coordinates may be apart
pub step_size : (first step : ℤ) (place count : ℕ) → place < count → IsCoordinate first → IsCoordinate (first +ℤ step *ℤ (pos count -ℤ pos 1)) → unsigned_abs (pos place *ℤ step) ≤ 2 * coordinate_limit
step_size first step place count h a b =
    let here = between_ends first step place count h a b in
    omega (arith, ints, here)

-- ---- values in steps

-- one step more
next_step : (first step : ℤ) (place : ℕ) → (first +ℤ step) +ℤ pos place *ℤ step ≡ first +ℤ pos (suc place) *ℤ step
next_step first (pos s) place = omega (arith, ints)
next_step first (negsuc s) place = omega (arith, ints)

-- no step
no_step : (first step : ℤ) → first ≡ first +ℤ pos 0 *ℤ step
no_step first (pos s) = omega (arith, ints)
no_step first (negsuc s) = omega (arith, ints)

-- one value more is the first and all steps before it
pub stepped_more : (first step : ℤ) (place : ℕ) → stepped first step (suc place) ≡ stepped first step place ++ (first +ℤ pos place *ℤ step) ∷ []
stepped_more first step zero = ap (λ v. v ∷ []) (no_step first step)
stepped_more first step (suc place) =
    ap (λ vs. first ∷ vs) (stepped_more (first +ℤ step) step place)
    ∙ ap (λ v. first ∷ (stepped (first +ℤ step) step place ++ v ∷ [])) (next_step first step place)

-- ---- the size of a step

-- a number that is held as 0 is 0
held_zero : (z : ℤ) → FitsSigned w128 z → of_z w128 z ≡ 0 → z ≡ pos 0
held_zero (pos n) fits h = omega (arith, ints)
held_zero (negsuc n) fits h = absurd (omega (arith, ints))

-- and 0 is held as 0
zero_held : (z : ℤ) → z ≡ pos 0 → of_z w128 z ≡ 0
zero_held z h = rw h refl

-- two numbers of which each is 0 where the other is answer the same test
same_test : (m n : ℕ) → (m ≡ 0 → n ≡ 0) → (n ≡ 0 → m ≡ 0) → (m == 0) ≡ (n == 0)
same_test m n there back = elim (cases_Bool (m == 0)) [
  | inl is ↦ is ∙ sym (eq-eqb n 0 (there (eqb-true m 0 is)))
  | inr other ↦ other ∙ sym (ne_eqb n 0 (λ e. eqb-false m 0 other (back e)))
]

-- what is left over is 0 as it is held where its size is
pub same_rest : (z : ℤ) → FitsSigned w128 z → (of_z w128 z == 0) ≡ (unsigned_abs z == 0)
same_rest z fits = same_test (of_z w128 z) (unsigned_abs z) (λ h. ap unsigned_abs (held_zero z fits h)) (λ h. zero_held z (omega (arith, ints)))

-- several values lie in whole steps where nothing is left over
pub several_steps : (first last count : ℤ) → int_lt count (pos 1) ≡ false → int_le count (pos 1) ≡ false
    → has_whole_steps first last count ≡ (unsigned_abs (int_rem (last -ℤ first) (count -ℤ pos 1)) == 0)
several_steps first last count some more = rw (some, more) refl

-- the test tells them
pub span_tells : (first last count : ℤ) → is_span_within first last count ≡ true → IsSpan first last count
span_tells first last count h =
    let a = and_parts (is_within coordinate_limit first && is_within coordinate_limit last && int_le (pos 1) count) (int_le count (pos node_limit)) h in
    let b = and_parts (is_within coordinate_limit first && is_within coordinate_limit last) (int_le (pos 1) count) a.0 in
    let c = and_parts (is_within coordinate_limit first) (is_within coordinate_limit last) b.0 in
    record {
      first_in = leb-true (unsigned_abs first) coordinate_limit c.0;
      last_in = leb-true (unsigned_abs last) coordinate_limit c.1;
      some = at_most_tells (pos 1) count b.1;
      few = at_most_tells count (pos node_limit) a.1;
    }

-- a count above 0 is a natural number
pub whole_count : (count : ℤ) → pos 1 ≤ℤ count → pos (unsigned_abs count) ≡ count
whole_count (pos n) some = refl
whole_count (negsuc n) some = absurd (omega (arith, ints, some))

-- and it isn't below 1
pub some_counted : (count : ℤ) → pos 1 ≤ℤ count → int_lt count (pos 1) ≡ false
some_counted count some = grind (arith, ints)

-- the last value is reached in as many steps where the count is a natural number
pub last_reached : (first step last count : ℤ) → pos 1 ≤ℤ count → first +ℤ step *ℤ (count -ℤ pos 1) ≡ last
    → first +ℤ step *ℤ (pos (unsigned_abs count) -ℤ pos 1) ≡ last
last_reached first step last (pos n) some h = h
last_reached first step last (negsuc n) some h = absurd (omega (arith, ints, some))

-- ---- one value

-- a count of at most 1 that is above 0 is 1
count_one : (count : ℤ) → pos 1 ≤ℤ count → int_le count (pos 1) ≡ true → count ≡ pos 1
count_one count some h = let most = at_most_tells count (pos 1) h in omega (arith, ints, some, most)

-- one value is the first and the last
pub one_is : (first last : ℤ) → has_whole_steps first last (pos 1) ≡ true → first ≡ last
one_is first last h = let none = eqb-true (unsigned_abs (last -ℤ first)) 0 h in omega (arith, ints, none)

-- so no step reaches from the one to the other
pub one_reached : (first last count : ℤ) → pos 1 ≤ℤ count → int_le count (pos 1) ≡ true → has_whole_steps first last count ≡ true
    → first +ℤ pos 0 *ℤ (count -ℤ pos 1) ≡ last
one_reached first last count some most h =
    let one = count_one count some most in
    let same = one_is first last (rw one at h) in
    rw one (omega (arith, ints, same))

-- and it is the list of its values
pub one_regular : (first last count : ℤ) → pos 1 ≤ℤ count → int_le count (pos 1) ≡ true
    → stepped first (pos 0) (unsigned_abs count) ≡ regular first last (unsigned_abs count)
one_regular first last count some most = rw (count_one count some most) refl

-- ---- several values

-- of several values in whole steps, nothing is left over
none_left : (first last count : ℤ) → int_lt count (pos 1) ≡ false → int_le count (pos 1) ≡ false → has_whole_steps first last count ≡ true
    → int_rem (last -ℤ first) (count -ℤ pos 1) ≡ pos 0
none_left first last count some more h =
    let none = eqb-true (unsigned_abs (int_rem (last -ℤ first) (count -ℤ pos 1))) 0 (sym (several_steps first last count some more) ∙ h) in
    omega (arith, ints, none)

-- the quotient, times its divisor, is what was divided
pub whole_quotient : (first last count : ℤ) → int_lt count (pos 1) ≡ false → int_le count (pos 1) ≡ false → has_whole_steps first last count ≡ true
    → int_div (last -ℤ first) (count -ℤ pos 1) *ℤ (count -ℤ pos 1) ≡ last -ℤ first
whole_quotient first last count some more h =
    let none = none_left first last count some more h in
    let whole = quot-rem (last -ℤ first) (count -ℤ pos 1) in
    omega (arith, ints, whole, none)

-- as many whole steps as there are values after the first reach from it to the last
pub several_reached : (first last count : ℤ) → int_lt count (pos 1) ≡ false → int_le count (pos 1) ≡ false → has_whole_steps first last count ≡ true
    → first +ℤ int_div (last -ℤ first) (count -ℤ pos 1) *ℤ (count -ℤ pos 1) ≡ last
several_reached first last count some more h = let whole = whole_quotient first last count some more h in omega (arith, ints, whole)

-- they are those of the list of values
pub several_regular : (first last count : ℤ) → pos 1 ≤ℤ count
    → stepped first (int_div (last -ℤ first) (count -ℤ pos 1)) (unsigned_abs count) ≡ regular first last (unsigned_abs count)
several_regular first last count some =
    let whole = whole_count count some in
    let less : count -ℤ pos 1 ≡ pos (unsigned_abs count - 1) = omega (arith, ints, whole, some) in
    ap (λ d. stepped first (int_div (last -ℤ first) d) (unsigned_abs count)) less

-- and none is longer than the way from the first to the last
pub several_short : (first last count : ℤ) → int_lt count (pos 1) ≡ false → int_le count (pos 1) ≡ false → has_whole_steps first last count ≡ true
    → 0 < unsigned_abs (count -ℤ pos 1) → unsigned_abs (int_div (last -ℤ first) (count -ℤ pos 1)) ≤ unsigned_abs (last -ℤ first)
several_short first last count some more h steps =
    let quotient = int_div (last -ℤ first) (count -ℤ pos 1) in
    let sizes : unsigned_abs quotient * unsigned_abs (count -ℤ pos 1) ≡ unsigned_abs (last -ℤ first) =
    sym (unsigned_abs-mul quotient (count -ℤ pos 1)) ∙ ap unsigned_abs (whole_quotient first last count some more h) in
    omega (arith, sizes, mul-le-mul_left (unsigned_abs quotient) steps)
