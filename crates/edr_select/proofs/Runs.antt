-- Runs of numbers.
use Rattle.std.proofs.Common.{◌≡◌, ℕ, zero, suc, ◌+◌, ◌-◌, ◌≤◌, Bool, true, false, cond, List, [], ◌∷◌, ◌++◌, ap, ap₂, ◌∙◌, sym, arith, append-nil}
use Rattle.std.specs.List.{range_with_len, filter}
use Rattle.edr_select.specs.ListLaws.{kept_more}

range_more : (first n : ℕ) → range_with_len first (n + 1) ≡ range_with_len first n ++ (first + n) ∷ []
range_more first zero = ap (λ k. k ∷ []) (none first)
  where
    none : (k : ℕ) → k ≡ k + 0
    none k = omega arith
range_more first (suc n) = ap (range_with_len first) (one_more n) ∙ ap (λ r. first ∷ r) (range_more (first + 1) n ∙ ap (λ k. range_with_len (first + 1) n ++ k ∷ []) (next first n))
  where
    one_more : (n : ℕ) → suc n + 1 ≡ suc (n + 1)
    one_more n = omega arith

    next : (first n : ℕ) → (first + 1) + n ≡ first + suc n
    next first n = omega arith

-- a run with one number more
pub run_more : (first number : ℕ) (old new : List ℕ) → first ≤ number → old ≡ range_with_len first (number - first) → new ≡ old ++ number ∷ [] → new ≡ range_with_len first ((number + 1) - first)
run_more first number old new from was is =
    is ∙ ap₂ (λ xs k. xs ++ k ∷ []) was (to first number from) ∙ sym (range_more first (number - first)) ∙ ap (range_with_len first) (sym (step first number from))
  where
    to : (first number : ℕ) → first ≤ number → number ≡ first + (number - first)
    to first number h = omega arith

    step : (first number : ℕ) → first ≤ number → (number + 1) - first ≡ (number - first) + 1
    step first number h = omega arith

-- ---- one number more, and whether it passes

pub kept_passing : (passes : ℕ → Bool) (n : ℕ) (old new : List ℕ) → old ≡ filter passes (range_with_len 0 n) → passes n ≡ true → new ≡ old ++ n ∷ [] → new ≡ filter passes (range_with_len 0 (n + 1))
kept_passing passes n old new was here is =
    is ∙ ap (λ xs. xs ++ n ∷ []) was ∙ sym (kept_more passes n ∙ ap (λ b. filter passes (range_with_len 0 n) ++ cond b (n ∷ []) []) here)

pub kept_failing : (passes : ℕ → Bool) (n : ℕ) (old : List ℕ) → old ≡ filter passes (range_with_len 0 n) → passes n ≡ false → old ≡ filter passes (range_with_len 0 (n + 1))
kept_failing passes n old was fails =
    was ∙ sym (append-nil (filter passes (range_with_len 0 n))) ∙ sym (kept_more passes n ∙ ap (λ b. filter passes (range_with_len 0 n) ++ cond b (n ∷ []) []) fails)
