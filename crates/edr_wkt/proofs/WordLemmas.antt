-- Marks and words: there is one at the front of a text.
use Rattle.std.proofs.Common.{◌≡◌, ℕ, subst, ◌-◌, ◌<◌, ◌≤◌, Bool, true, false, not, List, [], ◌∷◌, ◌++◌, length, take, drop, get_or, refl, sym, ap, ◌∙◌, arith, ℤ}
use Rattle.std.proofs.lemmas.List.{take_all}
use Rattle.std.proofs.lemmas.Bool.{false≢true}
use Rattle.std.proofs.lemmas.Bool.Decides.{nat_tests}
use Rattle.edr_base.specs.Numbers.{IsNumeral}
use Rattle.edr_base.specs.NumberParts.{NonePass, Stops, IsSplit}
use Rattle.edr_base.specs.SplitLaws.{IsSplit-unique}
use Rattle.edr_base.specs.NumberLaws.{IsOutside, numeral-none_pass, numeral-some}
use Rattle.edr_base.specs.Names.{is_blank}
use Rattle.edr_wkt.specs.Grammar.{is_end, AreBlanks, IsMark, IsNumber}
use Rattle.edr_wkt.specs.Reads.{not_blank, HasNoMark, BeginsWithMark}

not-not : (b : Bool) → not b ≡ false → b ≡ true
not-not true e = refl
not-not false e = absurd (false≢true (sym e))

not-true : (b : Bool) → not b ≡ true → b ≡ false
not-true true e = absurd (false≢true e)
not-true false e = refl

pub blanks-none : (cs : List ℕ) → AreBlanks cs → NonePass not_blank cs
blanks-none [] all = tt
blanks-none (c ∷ cs) all = (ap not all.0, blanks-none cs all.1)

pub blanks-all : (cs : List ℕ) → NonePass not_blank cs → AreBlanks cs
blanks-all [] none = tt
blanks-all (c ∷ cs) none = (not-not (is_blank c) none.0, blanks-all cs none.1)

-- a mark is the end of the blanks at the front
pub mark-split : (mark : ℕ) (text rest : List ℕ) → is_blank mark ≡ false → (m : IsMark mark text rest) → IsSplit not_blank text m.blanks (mark ∷ rest)
mark-split mark text rest e m = record { text_is = m.text_is; before = blanks-none m.blanks m.are_blanks; stops = ap not e }

-- what stands behind a mark at the front, and that there is none
pub behind-some : (mark : ℕ) (text blanks front rest : List ℕ) → IsSplit not_blank text blanks front → front ≡ mark ∷ rest → IsMark mark text rest
behind-some mark text blanks front rest s e = record { blanks = blanks; are_blanks = blanks-all blanks s.before; text_is = s.text_is ∙ ap (λ l. blanks ++ l) e }

pub behind-none : (mark : ℕ) (text blanks front : List ℕ) → is_blank mark ≡ false → IsSplit not_blank text blanks front → ((rest : List ℕ) → ¬ (front ≡ mark ∷ rest)) → (rest : List ℕ) → ¬ (IsMark mark text rest)
behind-none mark text blanks front e s none rest m = none rest (IsSplit-unique not_blank text _ _ _ _ s (mark-split mark text rest e m)).1

-- one mark stands at the front
pub mark-unique : (a b : ℕ) (text x y : List ℕ) → is_blank a ≡ false → is_blank b ≡ false → IsMark a text x → IsMark b text y → (a ≡ b) × (x ≡ y)
mark-unique a b text x y e f m n =
    let same : a ∷ x ≡ b ∷ y = (IsSplit-unique not_blank text _ _ _ _ (mark-split a text x e m) (mark-split b text y f n)).1 in
    (cc, cc)

pub mark-from : (text blanks rest : List ℕ) (mark : ℕ) → IsSplit not_blank text blanks (mark ∷ rest) → BeginsWithMark text mark rest
mark-from text blanks rest mark s = (not-true (is_blank mark) s.stops, record { blanks = blanks; are_blanks = blanks-all blanks s.before; text_is = s.text_is })

pub mark-none : (text blanks : List ℕ) → IsSplit not_blank text blanks [] → HasNoMark text
mark-none text blanks s mark rest e m = let same : [] ≡ mark ∷ rest = (IsSplit-unique not_blank text _ _ _ _ s (mark-split mark text rest e m)).1 in cc

pub outside_end : IsOutside is_end
outside_end = record { plus = refl; minus = refl; point = refl; digit = λ c h. grind (arith, nat_tests) }

end-blank : (c : ℕ) → is_end c ≡ false → not_blank c ≡ true
end-blank c e = grind (arith, nat_tests)

pub word-stops : (text rest : List ℕ) → 0 < length text → NonePass is_end text → Stops not_blank (text ++ rest)
word-stops [] rest h none = absurd (omega arith)
word-stops (c ∷ text) rest h none = end-blank c none.0

-- a number cuts its text
pub number-split : (text : List ℕ) (v : ℤ) (r : List ℕ) → (n : IsNumber text v r) → IsSplit not_blank text n.blanks (n.numeral ++ r) × IsSplit is_end (n.numeral ++ r) n.numeral r
number-split text v r n =
    let none = numeral-none_pass is_end n.numeral v outside_end n.is_numeral in (
      record { text_is = n.text_is; before = blanks-none n.blanks n.are_blanks; stops = word-stops n.numeral r (numeral-some n.numeral v n.is_numeral) none },
      record { text_is = refl; before = none; stops = n.ends },
    )

-- a number is the word at the front of its text
pub number-word : (text blanks front word rest : List ℕ) (v : ℤ) (r : List ℕ) → IsSplit not_blank text blanks front → IsSplit is_end front word rest → IsNumber text v r → IsNumeral word v × (r ≡ rest)
number-word text blanks front word rest v r s t n =
    let cut = number-split text v r n in
    let front_is = (IsSplit-unique not_blank text _ _ _ _ cut.0 s).1 in
    let second : IsSplit is_end front n.numeral r = let P : List ℕ → Type 0 = λ l. IsSplit is_end l n.numeral r in subst P front_is cut.1 in
    let e = IsSplit-unique is_end front _ _ _ _ second t in
    (let P : List ℕ → Type 0 = λ l. IsNumeral l v in subst P e.0 n.is_numeral, e.1)

pub number-from : (text blanks front word rest : List ℕ) (v : ℤ) → IsSplit not_blank text blanks front → IsSplit is_end front word rest → IsNumeral word v → IsNumber text v rest
number-from text blanks front word rest v s t n =
    record { blanks = blanks; numeral = word; are_blanks = blanks-all blanks s.before; is_numeral = n; text_is = s.text_is ∙ ap (λ l. blanks ++ l) t.text_is; ends = t.stops }

-- what a pattern of a first byte and the rest takes
pub first-rest : (xs : List ℕ) → 1 ≤ length xs → xs ≡ get_or xs 0 0 ∷ take (length xs - 1) (drop 1 xs)
first-rest [] h = absurd (omega arith)
first-rest (x ∷ xs) h = ap (λ l. x ∷ l) (sym (take_all (length (x ∷ xs) - 1) xs (omega arith)))

pub first-none : (xs : List ℕ) → length xs < 1 → xs ≡ []
first-none [] h = refl
first-none (x ∷ xs) h = absurd (omega arith)
