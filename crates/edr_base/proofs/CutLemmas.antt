-- A text is cut at the first place of a mark in one way.
use Rattle.std.proofs.Common.{◌≡◌, ◌≢◌, ℕ, zero, suc, ◌+◌, ◌<◌, ◌≤◌, List, [], ◌∷◌, ◌++◌, length, get_or, take, drop, ap, ◌∙◌, arith, add-one}
use Rattle.std.proofs.Math.Seq.{split_at}
use Rattle.std.specs.List.{Contains}
use Rattle.edr_base.specs.Cuts.{IsCut}

Contains-none : (mark : ℕ) → ¬ (Contains [] mark)
Contains-none mark h = omega (arith, h.1)

Contains-neither : (x : ℕ) (xs : List ℕ) (mark : ℕ) → x ≢ mark → ¬ (Contains xs mark) → ¬ (Contains (x ∷ xs) mark)
Contains-neither x xs mark n p h = at h.0 h.1 h.2
  where
    at : (k : ℕ) → k < length (x ∷ xs) → get_or (x ∷ xs) k mark ≡ mark → ⊥
    at zero l e = n e
    at (suc k) l e = p (k, omega arith, e)

none_before : (text : List ℕ) (mark n : ℕ) → n ≤ length text → ((k : ℕ) → k < n → get_or text k 0 ≢ mark) → ¬ (Contains (take n text) mark)
none_before text mark zero h none = Contains-none mark
none_before [] mark (suc n) h none = absurd (omega arith)
none_before (c ∷ text) mark (suc n) h none =
    Contains-neither c (take n text) mark (none 0 (omega arith)) (none_before text mark n (omega arith) (λ k l. none (suc k) (omega arith)))

-- no place has the mark
pub none_all : (text : List ℕ) (mark n : ℕ) → length text ≤ n → ((k : ℕ) → k < n → get_or text k 0 ≢ mark) → ¬ (Contains text mark)
none_all [] mark n h none = Contains-none mark
none_all (c ∷ text) mark n h none =
    Contains-neither c text mark (none 0 (omega arith)) (none_all text mark (length text) (omega arith) (λ k l. none (suc k) (omega arith)))

-- the cut by places: the mark stands there, and at none before
pub IsCut-at : (text : List ℕ) (mark n : ℕ) → n < length text → get_or text n 0 ≡ mark → ((k : ℕ) → k < n → get_or text k 0 ≢ mark) → IsCut mark text (take n text) (drop (n + 1) text)
IsCut-at text mark n h e none =
    let split : text ≡ take n text ++ get_or text n 0 ∷ drop (n + 1) text = rw add-one (split_at text n 0 h) in
    record { text_is = split ∙ ap (λ m. take n text ++ m ∷ drop (n + 1) text) e; first = none_before text mark n (omega arith) none }
