-- A test that the numbers of one run pass, and no others.
use Rattle.std.proofs.Common.{◌≡◌, ℕ, zero, suc, ◌+◌, ◌<◌, ◌≤◌, Bool, true, false, refl, sym, ◌∙◌, arith, inl, inr, eqb}
use Rattle.std.specs.Prelude.{◌||◌, ◌⊎◌}
use Rattle.std.specs.List.{filter, range_with_len}
use Rattle.std.proofs.lemmas.Bool.{or_cases}
use Rattle.std.proofs.lemmas.Bool.Decides.{nat_tests}
use Rattle.edr_select.specs.ListLaws.{both}
use Rattle.edr_select.proofs.AscendingOnce.{Rises, Below, among, once_is, filter_range_agree}

rises_run : (low first n : ℕ) → low ≤ first → Rises low (range_with_len first n)
rises_run low first zero h = tt
rises_run low first (suc n) h = (h, rises_run (first + 1) (first + 1) n (omega arith))

below_run : (high first n : ℕ) → first + n ≤ high → Below high (range_with_len first n)
below_run high first zero h = tt
below_run high first (suc n) h = (omega arith, below_run high (first + 1) n (omega arith))

among_run : (first n k : ℕ) → among (range_with_len first n) k ≡ true → (first ≤ k) × (k < first + n)
among_run first zero k h = cc
among_run first (suc n) k h = elim (or_cases (eqb first k) (among (range_with_len (first + 1) n) k) h) [
  | inl here ↦ (let e : first ≡ k = grind (arith, nat_tests) in (omega arith, omega arith))
  | inr later ↦ (let r = among_run (first + 1) n k later in (omega (arith, r.0), omega (arith, r.1)))
]

or_left : (b c : Bool) → b ≡ true → (b || c) ≡ true
or_left b c h = rw h refl

or_right : (b c : Bool) → c ≡ true → (b || c) ≡ true
or_right true c h = refl
or_right false c h = h

order : (a k : ℕ) → a ≤ k → (a ≡ k) ⊎ (a < k)
order a k h = grind arith

run_among : (first n k : ℕ) → first ≤ k → k < first + n → among (range_with_len first n) k ≡ true
run_among first zero k low high = absurd (omega arith)
run_among first (suc n) k low high = elim (order first k low) [
  | inl e ↦ (let same : eqb first k ≡ true = grind (arith, nat_tests) in or_left (eqb first k) (among (range_with_len (first + 1) n) k) same)
  | inr l ↦ or_right (eqb first k) (among (range_with_len (first + 1) n) k) (run_among (first + 1) n k (omega arith) (omega arith))
]

pub run_is : (passes : ℕ → Bool) (count first n : ℕ) → first + n ≤ count → ((k : ℕ) → k < count → passes k ≡ true → (first ≤ k) × (k < first + n))
    → ((k : ℕ) → first ≤ k → k < first + n → passes k ≡ true) → range_with_len first n ≡ filter passes (range_with_len 0 count)
run_is passes count first n inside from to =
    sym (once_is 0 count (range_with_len first n) (rises_run 0 first n (omega arith)) (below_run (0 + count) first n (omega arith)))
    ∙ sym (filter_range_agree passes (among (range_with_len first n)) 0 count (λ k low high. both (passes k) (among (range_with_len first n) k)
    (λ e. let r = from k (omega (arith, high)) e in run_among first n k r.0 r.1)
    (λ e. let r = among_run first n k e in to k r.0 r.1)))
