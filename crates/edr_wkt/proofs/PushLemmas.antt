-- Items that are written one after another, with commas between them, and copies of items.
use Rattle.std.proofs.Common.{◌≡◌, ◌==◌, ℕ, zero, suc, false, ◌+◌, ◌<◌, ◌≤◌, List, [], ◌∷◌, ◌++◌, if◌then◌else◌, length, get_or, take, sym, ap, ◌∙◌, append_assoc, arith}
use Rattle.std.specs.List.{flat_map}
use Rattle.std.proofs.lemmas.Bool.Decides.{nat_tests}
use Rattle.std.proofs.lemmas.List.{take_more, take_all, flat_map_more, append-nil}
use Rattle.edr_wkt.specs.Spelling.{joined, in_brackets}

-- what stands before an item, by its place
abbrev comma_at : ℕ → List ℕ
comma_at place = if place == 0 then [] else 44 ∷ []

later : (n : ℕ) → comma_at (suc n) ≡ 44 ∷ []
later n =
    let after : (suc n == 0) ≡ false = grind (arith, nat_tests) in
    ap (λ first. if first then [] else 44 ∷ []) after

joined_push : {A : Type 0} (text : A → List ℕ) (xs : List A) (i : ℕ) (start : List ℕ) (x : A) → i < length xs
    → ((start ++ joined text (take i xs)) ++ comma_at i) ++ text x ≡ start ++ joined text (take i xs ++ x ∷ [])
joined_push text xs zero start x inside =
    ap (λ l. l ++ text x) (append-nil (start ++ []) ∙ append-nil start) ∙ ap (λ l. start ++ l) (sym (append-nil (text x)))
joined_push text [] (suc n) start x inside = absurd (omega (arith, inside))
joined_push text (y ∷ ys) (suc n) start x inside =
    let before = start ++ (text y ++ flat_map (λ z. 44 ∷ text z) (take n ys)) in
    ap (λ l. (before ++ l) ++ text x) (later n)
    ∙ append_assoc before (44 ∷ []) (text x)
    ∙ append_assoc start (text y ++ flat_map (λ z. 44 ∷ text z) (take n ys)) (44 ∷ text x)
    ∙ ap (λ l. start ++ l) (flat_map_more (λ z. 44 ∷ text z) (text y) (take n ys) x)

-- one item more
pub pushed_more : {A : Type 0} (text : A → List ℕ) (xs : List A) (i : ℕ) (x d : A) (start before comma after : List ℕ) → i < length xs → x ≡ get_or xs i d
    → before ≡ start ++ joined text (take i xs) → comma ≡ before ++ comma_at i → after ≡ comma ++ text x → after ≡ start ++ joined text (take (i + 1) xs)
pushed_more text xs i x d start before comma after inside is so_far comma_is after_is =
    after_is ∙ ap (λ l. l ++ text x) (comma_is ∙ ap (λ l. l ++ comma_at i) so_far) ∙ joined_push text xs i start x inside
    ∙ ap (λ l. start ++ joined text l) (ap (λ y. take i xs ++ y ∷ []) is ∙ sym (take_more xs i d inside))

-- all items
pub pushed_all : {A : Type 0} (text : A → List ℕ) (xs : List A) (i : ℕ) (start after : List ℕ) → length xs ≤ i → after ≡ start ++ joined text (take i xs) → after ≡ start ++ joined text xs
pushed_all text xs i start after all is = is ∙ ap (λ l. start ++ joined text l) (take_all i xs all)

-- with a bracket before them and one behind
pub bracketed : (start text before after : List ℕ) → before ≡ (start ++ 40 ∷ []) ++ text → after ≡ before ++ 41 ∷ [] → after ≡ start ++ in_brackets text
bracketed start text before after opened closed =
    closed ∙ (ap (λ l. l ++ 41 ∷ []) opened ∙ (append_assoc (start ++ 40 ∷ []) text (41 ∷ []) ∙ append_assoc start (40 ∷ []) (text ++ 41 ∷ [])))

-- a copy of one item more
pub copied_more : {A : Type 0} (xs : List A) (i : ℕ) (x copy : A) (before after : List A) → i < length xs → x ≡ get_or xs i x → copy ≡ x → before ≡ take i xs → after ≡ before ++ copy ∷ []
    → after ≡ take (i + 1) xs
copied_more xs i x copy before after inside is same so_far pushed =
    pushed ∙ ap (λ l. l ++ copy ∷ []) so_far ∙ ap (λ y. take i xs ++ y ∷ []) (same ∙ is) ∙ sym (take_more xs i x inside)
