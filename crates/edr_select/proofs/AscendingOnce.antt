-- Ascending numbers, each once, are told by which numbers they are.
use Rattle.std.proofs.Common.{◌≡◌, ℕ, zero, suc, ◌+◌, ◌<◌, ◌≤◌, Bool, true, false, cond, List, [], ◌∷◌, length, get_or, refl, ap, sym, ◌∙◌, subst, arith, inl, inr, Contains, All, eqb, eq-eqb}
use Rattle.std.specs.Prelude.{◌||◌, ◌==◌, ◌⊎◌}
use Rattle.std.specs.List.{filter, list_any, range_with_len, dedup}
use Rattle.std.specs.List.Sorted.{IsStrictlyIncreasing, IsPermutation, IsSorted}
use Rattle.std.specs.Ordering.{nat_cmp}
use native.Mathlib.Numerals.{unary_clauses}
use Rattle.std.proofs.lemmas.Bool.{or_cases}
use Rattle.std.proofs.lemmas.Bool.Decides.{nat_tests}
use Rattle.std.proofs.lemmas.List.Kept.{Contains-dedup_nat, Contains-from_dedup}
use Rattle.std.proofs.lemmas.List.Sorted.{Contains-permutation, IsPermutation-sym, All-permutation}
use Rattle.std.proofs.lemmas.List.Filters.{All-dedup}
use Rattle.std.proofs.lemmas.Map.Keys.{IsStrictlyIncreasing-dedup}
use Rattle.edr_select.specs.Samples.{ascending_once}
use Rattle.edr_select.specs.ListLaws.{both}

-- the numbers ascend strictly, from one on
abbrev pub Rises : ℕ → List ℕ → Type 0
Rises low [] = Unit {0}
Rises low (x ∷ xs) = (low ≤ x) × Rises (x + 1) xs

abbrev pub Below : ℕ → List ℕ → Type 0
Below high [] = Unit {0}
Below high (x ∷ xs) = (x < high) × Below high xs

abbrev pub among : List ℕ → ℕ → Bool
among xs k = list_any (λ x. x == k) xs

-- tests that agree on a run of numbers give one filter
pub filter_range_agree : (t u : ℕ → Bool) (a n : ℕ) → ((k : ℕ) → a ≤ k → k < a + n → t k ≡ u k) → filter t (range_with_len a n) ≡ filter u (range_with_len a n)
filter_range_agree t u a zero same = refl
filter_range_agree t u a (suc n) same =
    ap (λ b. cond b (a ∷ filter t (range_with_len (a + 1) n)) (filter t (range_with_len (a + 1) n))) (same a (omega arith) (omega arith))
    ∙ ap (λ r. cond (u a) (a ∷ r) r) (filter_range_agree t u (a + 1) n (λ k low high. same k (omega arith) (omega arith)))

lower : (low low' : ℕ) (xs : List ℕ) → low' ≤ low → Rises low xs → Rises low' xs
lower low low' [] h r = tt
lower low low' (x ∷ xs) h r = (omega (arith, r.0), r.1)

none_below : (low k : ℕ) (xs : List ℕ) → Rises low xs → k < low → among xs k ≡ false
none_below low k [] r h = refl
none_below low k (x ∷ xs) r h =
    let later : among xs k ≡ false = none_below (x + 1) k xs r.1 (omega (arith, r.0)) in
    let here : eqb x k ≡ false = let le = r.0 in grind (arith, nat_tests) in
    rw (here, later) refl

order : (a k : ℕ) → a ≤ k → (a ≡ k) ⊎ (a < k)
order a k h = grind arith

move : (a n : ℕ) → a + suc n ≡ (a + 1) + n
move a n = omega arith

-- numbers that ascend strictly in a run are the numbers of the run that are among them
pub once_is : (a n : ℕ) (xs : List ℕ) → Rises a xs → Below (a + n) xs → filter (among xs) (range_with_len a n) ≡ xs
once_is a zero [] r b = refl
once_is a zero (x ∷ xs) r b = absurd (omega (arith, r.0, b.0))
once_is a (suc n) [] r b = once_is (a + 1) n [] tt tt
once_is a (suc n) (x ∷ xs) r b = elim (order a x r.0) [
  | inl e ↦ here e (λ e. once_is (a + 1) n xs (lower (x + 1) (a + 1) xs (omega (arith, e)) r.1) (subst (λ h. Below h xs) (move a n) b.1))
  | inr l ↦ later l (λ l. once_is (a + 1) n (x ∷ xs) (omega (arith, l), r.1) (subst (λ h. Below h (x ∷ xs)) (move a n) b))
]
  where
    here : a ≡ x → (a ≡ x → filter (among xs) (range_with_len (a + 1) n) ≡ xs) → filter (among (x ∷ xs)) (range_with_len a (suc n)) ≡ x ∷ xs
    here e rest_is =
        let rest : filter (among (x ∷ xs)) (range_with_len (a + 1) n) ≡ xs =
        filter_range_agree (among (x ∷ xs)) (among xs) (a + 1) n (λ k low high. let differ : eqb x k ≡ false = grind (arith, nat_tests) in rw differ refl)
        ∙ rest_is e in
        let passes : among (x ∷ xs) a ≡ true = let same : eqb x a ≡ true = grind (arith, nat_tests) in rw same refl in
        ap (λ t. cond t (a ∷ filter (among (x ∷ xs)) (range_with_len (a + 1) n)) (filter (among (x ∷ xs)) (range_with_len (a + 1) n))) passes
        ∙ ap (λ r. a ∷ r) rest ∙ ap (λ y. y ∷ xs) e

    later : a < x → (a < x → filter (among (x ∷ xs)) (range_with_len (a + 1) n) ≡ x ∷ xs) → filter (among (x ∷ xs)) (range_with_len a (suc n)) ≡ x ∷ xs
    later l rest =
        ap (λ t. cond t (a ∷ filter (among (x ∷ xs)) (range_with_len (a + 1) n)) (filter (among (x ∷ xs)) (range_with_len (a + 1) n))) (none_below x a (x ∷ xs) (omega arith, r.1) l)
        ∙ rest l

-- ---- membership

among_from : (xs : List ℕ) (k : ℕ) → among xs k ≡ true → Contains xs k
among_from [] k h = cc
among_from (x ∷ xs) k h = elim (or_cases (eqb x k) (among xs k) h) [
  | inl here ↦ (let e : x ≡ k = grind (arith, nat_tests) in (0, omega arith, e))
  | inr later ↦ let c = among_from xs k later in (suc c.0, omega (arith, c.1), c.2)
]

among_at : (xs : List ℕ) (k i : ℕ) → i < length xs → get_or xs i k ≡ k → among xs k ≡ true
among_at [] k i inside e = absurd (omega arith)
among_at (x ∷ xs) k zero inside e = let same : eqb x k ≡ true = eq-eqb x k e in rw same refl
among_at (x ∷ xs) k (suc i) inside e = or_right (eqb x k) (among xs k) (among_at xs k i (omega arith) e)
  where
    or_right : (b c : Bool) → c ≡ true → (b || c) ≡ true
    or_right true c h = refl
    or_right false c h = h

among_is : (xs : List ℕ) (k : ℕ) → Contains xs k → among xs k ≡ true
among_is xs k h = among_at xs k h.0 h.1 h.2

-- ---- sorted numbers without repeats

rises_from : (low : ℕ) (xs : List ℕ) → IsStrictlyIncreasing xs → ((i : ℕ) → 0 < length xs → low ≤ get_or xs 0 0) → Rises low xs
rises_from low [] up first = tt
rises_from low (x ∷ xs) up first = (first 0 (omega arith), rises_from (x + 1) xs (λ k h. next k (up (suc k) (next_in k h))) (λ i h. first_of (up 0 (omega (arith, h)))))
  where
    one_more : (k : ℕ) → suc k ≡ k + 1
    one_more k = omega arith

    next_in : (k : ℕ) → k + 1 < length xs → suc k + 1 < length (x ∷ xs)
    next_in k h = omega arith

    next : (k : ℕ) → get_or (x ∷ xs) (suc k) 0 < get_or (x ∷ xs) (suc k + 1) 0 → get_or xs k 0 < get_or xs (k + 1) 0
    next k h = subst (λ j. get_or xs k 0 < get_or xs j 0) (one_more k) (simp unary_clauses at h)

    first_of : get_or (x ∷ xs) 0 0 < get_or (x ∷ xs) (0 + 1) 0 → x + 1 ≤ get_or xs 0 0
    first_of h = omega (arith, h)

below_from : (high : ℕ) (xs : List ℕ) → ((k : ℕ) (d : ℕ) → k < length xs → get_or xs k d < high) → Below high xs
below_from high [] h = tt
below_from high (x ∷ xs) h = (h 0 0 (omega arith), below_from high xs (λ k d inside. h (suc k) d (omega (arith, inside))))

-- numbers below a count that ascend strictly are the ascending numbers of any that have the same members
pub ascending_is : (count : ℕ) (xs ys : List ℕ) → IsStrictlyIncreasing ys → All (λ y. y < count) ys → ((k : ℕ) → Contains xs k → Contains ys k) → ((k : ℕ) → Contains ys k → Contains xs k) → ys ≡ ascending_once count xs
ascending_is count xs ys up below to from =
    sym (filter_range_agree (among xs) (among ys) 0 count (λ k low high. both (among xs k) (among ys k) (λ e. among_is ys k (to k (among_from xs k e))) (λ e. among_is xs k (from k (among_from ys k e))))
    ∙ once_is 0 count ys (rises_from 0 ys up (λ i h. omega arith)) (below_from (0 + count) ys (λ k d inside. omega (arith, below k d inside))))

pub sorted_is : (count : ℕ) (numbers sorted : List ℕ) → All (λ n. n < count) numbers → IsPermutation numbers sorted → IsSorted nat_cmp sorted → dedup eqb sorted ≡ ascending_once count numbers
sorted_is count numbers sorted below moved up =
    ascending_is count numbers (dedup eqb sorted) (IsStrictlyIncreasing-dedup sorted up)
    (All-dedup eqb (λ n. n < count) sorted (All-permutation (λ n. n < count) numbers sorted moved below))
    (λ k h. Contains-dedup_nat sorted k (Contains-permutation numbers sorted k moved h))
    (λ k h. Contains-permutation sorted numbers k (IsPermutation-sym numbers sorted moved) (Contains-from_dedup eqb sorted k h))
