-- Laws of lines that are said one after another.
use Rattle.std.proofs.Common.{◌≡◌, ℕ, List, [], ◌∷◌, ◌++◌, refl, sym, subst}
use Rattle.edr_console.specs.Saying.{OutputState, Says, SaysAll}

pub says_more : (lines more : List (List ℕ)) (a b c : OutputState) → SaysAll lines a b → SaysAll more b c → SaysAll (lines ++ more) a c
says_more [] more a b c first then = subst (λ (s : OutputState). SaysAll more s c) first then
says_more (line ∷ lines) more a b c first then = (first.0, first.1, says_more lines more first.0 b c first.2 then)

pub says_next : (lines : List (List ℕ)) (line : List ℕ) (a b c : OutputState) → SaysAll lines a b → Says line b c → SaysAll (lines ++ line ∷ []) a c
says_next lines line a b c all one = says_more lines (line ∷ []) a b c all (c, one, refl)

-- one line is all
pub says_alone : (line : List ℕ) (lines : List (List ℕ)) (a b : OutputState) → lines ≡ line ∷ [] → Says line a b → SaysAll lines a b
says_alone line lines a b is one = subst (λ (l : List (List ℕ)). SaysAll l a b) (sym is) (b, one, refl)
