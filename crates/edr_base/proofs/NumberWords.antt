-- A whole number is the one word between the spaces of its text.
use Rattle.std.proofs.Common.{◌≡◌, ℕ, List, [], ◌∷◌, ◌++◌, length, replicate, sym, ap, ◌∙◌, arith, ℤ}
use Rattle.std.proofs.lemmas.List.{append-nil}
use Rattle.edr_base.specs.declared.numbers.Whole.{Whole}
use Rattle.edr_base.specs.declared.numbers.Whole.TheVariants.{Value, TooLarge, NotWhole}
use Rattle.edr_base.specs.Numbers.{IsNumeral, IsWhole, MatchWhole}
use Rattle.edr_base.specs.NumberParts.{IsSplit}
use Rattle.edr_base.specs.SplitLaws.{IsSplit-unique}
use Rattle.edr_base.specs.NumberLaws.{not_space, is_space, spaces-none, whole-parts}

pub whole-from : (text : List ℕ) (a b : ℕ) (t1 word t2 t3 : List ℕ) (v : ℤ) → IsSplit not_space text (replicate a 32) t1 → IsSplit is_space t1 word t2 → IsSplit not_space t2 (replicate b 32) t3
    → length t3 ≡ 0 → IsNumeral word v → IsWhole text v
whole-from text a b t1 word t2 [] v s1 s2 s3 e n =
    let end : t2 ≡ replicate b 32 = s3.text_is ∙ append-nil (replicate b 32) in
    record { before = a; numeral = word; after = b; text_is = s1.text_is ∙ ap (λ l. replicate a 32 ++ l) (s2.text_is ∙ ap (λ l. word ++ l) end); is_numeral = n }
whole-from text a b t1 word t2 (c ∷ t3) v s1 s2 s3 e n = absurd (omega arith)

-- spaces alone stand behind the word of a whole number
pub whole-end : (text : List ℕ) (a b : ℕ) (t1 word t2 t3 : List ℕ) (v : ℤ) → IsSplit not_space text (replicate a 32) t1 → IsSplit is_space t1 word t2 → IsSplit not_space t2 (replicate b 32) t3
    → IsWhole text v → length t3 ≡ 0
whole-end text a b t1 word t2 t3 v s1 s2 s3 w =
    let e = (whole-parts text a t1 word t2 v s1 s2 w).1 in
    let all : IsSplit not_space t2 (replicate w.after 32) [] = record { text_is = e ∙ sym (append-nil (replicate w.after 32)); before = spaces-none w.after; stops = tt } in
    ap length (IsSplit-unique not_space t2 _ _ _ _ s3 all).1

-- an answer is the same for two words that stand for the same values
pub match-same : (r : Whole) (S T : ℤ → Type 0) (limit : ℤ) → ((v : ℤ) → S v → T v) → ((v : ℤ) → T v → S v) → MatchWhole r S limit → MatchWhole r T limit
match-same (Value v) S T limit to from h = (to v h.0, h.1)
match-same TooLarge S T limit to from h = (h.0, to h.0 h.1, h.2)
match-same NotWhole S T limit to from h = λ v t. h v (from v t)
