-- The lines of bytes that are read piece by piece.
use Rattle.std.proofs.Common.{◌≡◌, ℕ, suc, ◌==◌, if◌then◌else◌, Bool, true, false, List, [], ◌∷◌, ◌++◌, take, drop, Contains, All, inl, inr, ap, subst, ◌∙◌, refl, append_assoc, arith, ne_eqb}
use Rattle.std.proofs.lemmas.List.{take-append-drop}
use Rattle.std.proofs.lemmas.List.Elements.{Contains-append_cases, Contains-append_left}
use Rattle.edr_feed.specs.Lines.{onto_first, lines_of, ended_lines, joined}
use Rattle.edr_feed.specs.Readings.{IsPlain}

-- ---- no line feed

pub plain_head : (x : ℕ) (xs : List ℕ) → IsPlain (x ∷ xs) → (x == 10) ≡ false
plain_head x xs p = ne_eqb x 10 (λ e. p (0, omega arith, e))

pub plain_tail : (x : ℕ) (xs : List ℕ) → IsPlain (x ∷ xs) → IsPlain xs
plain_tail x xs p h = p (suc h.0, omega (arith, h.1), h.2)

pub plain_none : IsPlain []
plain_none h = omega (arith, h.1)

pub plain_append : (xs ys : List ℕ) → IsPlain xs → IsPlain ys → IsPlain (xs ++ ys)
plain_append xs ys p q h = elim (Contains-append_cases xs ys 10 h) [ inl a ↦ p a | inr b ↦ q b ]

pub plain_take : (n : ℕ) (xs : List ℕ) → IsPlain xs → IsPlain (take n xs)
plain_take n xs p h = p (subst (λ (z : List ℕ). Contains z 10) (take-append-drop n xs) (Contains-append_left (take n xs) (drop n xs) 10 h))

all_head : (l : List ℕ) (ls : List (List ℕ)) → All IsPlain (l ∷ ls) → IsPlain l
all_head l ls p = p 0 l (omega arith)

all_tail : (l : List ℕ) (ls : List (List ℕ)) → All IsPlain (l ∷ ls) → All IsPlain ls
all_tail l ls p = λ k d h. p (suc k) d (omega arith)

-- ---- lines

-- a line without a line feed is the last one
pub plain_line : (line : List ℕ) → IsPlain line → lines_of line ≡ line ∷ []
plain_line [] p = refl
plain_line (x ∷ line) p = rw (plain_head x line p, plain_line line (plain_tail x line p)) refl

-- a line with its line feed is the first one
pub first_line : (line rest : List ℕ) → IsPlain line → lines_of (line ++ 10 ∷ rest) ≡ line ∷ lines_of rest
first_line [] rest p = refl
first_line (x ∷ line) rest p = rw (plain_head x line p, first_line line rest (plain_tail x line p)) refl

-- lines, each with its line feed, are the first ones
pub first_lines : (lines : List (List ℕ)) (rest : List ℕ) → All IsPlain lines → lines_of (joined lines ++ rest) ≡ lines ++ lines_of rest
first_lines [] rest p = refl
first_lines (line ∷ lines) rest p =
    let tail = first_lines lines rest (all_tail line lines p) in
    let head = first_line line (joined lines ++ rest) (all_head line lines p) in
    let apart : ((line ++ 10 ∷ []) ++ joined lines) ++ rest ≡ line ++ 10 ∷ (joined lines ++ rest) = simp append_assoc in
    ap lines_of apart ∙ (head ∙ ap (λ more. line ∷ more) tail)

-- some first line
abbrev IsSome : List (List ℕ) → Type 0
IsSome lines = (line : List ℕ) × (more : List (List ℕ)) × (lines ≡ line ∷ more)

onto_some : (byte : ℕ) (lines : List (List ℕ)) → IsSome (onto_first byte lines)
onto_some byte [] = (byte ∷ [], [], refl)
onto_some byte (line ∷ lines) = (byte ∷ line, lines, refl)

either_some : (test : Bool) (lines others : List (List ℕ)) → IsSome lines → IsSome others → IsSome (if test then lines else others)
either_some true lines others p q = p
either_some false lines others p q = q

-- there is always a line
pub some_line : (bytes : List ℕ) → IsSome (lines_of bytes)
some_line [] = ([], [], refl)
some_line (byte ∷ bytes) = either_some (byte == 10) ([] ∷ lines_of bytes) (onto_first byte (lines_of bytes)) ([], lines_of bytes, refl) (onto_some byte (lines_of bytes))

-- no line of these has ended
pub ended_none : (line : List ℕ) → IsPlain line → ended_lines line ≡ []
ended_none line p = rw (plain_line line p) refl

-- a line with its line feed has ended
pub ended_first : (line rest : List ℕ) → IsPlain line → ended_lines (line ++ 10 ∷ rest) ≡ line ∷ ended_lines rest
ended_first line rest p =
    let some = some_line rest in
    rw (first_line line rest p, some.2) refl

pub ended_firsts : (lines : List (List ℕ)) (rest : List ℕ) → All IsPlain lines → ended_lines (joined lines ++ rest) ≡ lines ++ ended_lines rest
ended_firsts [] rest p = refl
ended_firsts (line ∷ lines) rest p =
    let tail = ended_firsts lines rest (all_tail line lines p) in
    let head = ended_first line (joined lines ++ rest) (all_head line lines p) in
    let apart : ((line ++ 10 ∷ []) ++ joined lines) ++ rest ≡ line ++ 10 ∷ (joined lines ++ rest) = simp append_assoc in
    ap ended_lines apart ∙ (head ∙ ap (λ more. line ∷ more) tail)
