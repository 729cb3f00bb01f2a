-- The segments of a line by their numbers.
use Rattle.std.proofs.Common.{◌≡◌, ℕ, suc, zero, ◌+◌, ◌-◌, Bool, List, [], ◌∷◌, length, refl, ap, sym, ◌∙◌, arith}
use Rattle.std.specs.Prelude.{◌||◌}
use Rattle.std.specs.List.{list_any, range_with_len}
use Rattle.edr_base.specs.declared.places.Position.{Position}
use Rattle.edr_corridor.specs.Segments.{any_segment, at_segment}

-- numbers from one more on
any_later : (f : ℕ → Bool) (a n : ℕ) → list_any f (range_with_len (suc a) n) ≡ list_any (λ k. f (suc k)) (range_with_len a n)
any_later f a zero = refl
any_later f a (suc n) = ap (λ b. f (suc a) || b) (ap (λ m. list_any f (range_with_len m n)) (next a) ∙ any_later f (a + 1) n)
  where
    next : (a : ℕ) → suc a + 1 ≡ suc (a + 1)
    next a = omega arith

-- a segment passes where that of some number does
pub any_number : (test : Position → Position → Bool) (line : List Position) → any_segment test line ≡ list_any (at_segment test line) (range_with_len 0 (length line - 1))
any_number test [] = refl
any_number test (p ∷ []) = refl
any_number test (p ∷ (q ∷ positions)) =
    ap (λ b. test p q || b) (any_number test (q ∷ positions))
    ∙ (ap (λ b. test p q || b) (sym (any_later (at_segment test (p ∷ (q ∷ positions))) 0 (length (q ∷ positions) - 1)))
    ∙ sym (ap (λ n. list_any (at_segment test (p ∷ (q ∷ positions))) (range_with_len 0 n)) (more (length positions))))
  where
    more : (n : ℕ) → suc (suc n) - 1 ≡ suc (suc n - 1)
    more n = omega arith
