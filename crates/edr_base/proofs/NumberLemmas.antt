-- The parts of a numeral, as they are found from its front.
use Rattle.std.proofs.Common.{◌≡◌, ℕ, subst, ◌+◌, ◌<◌, ◌≤◌, not, List, [], ◌∷◌, ◌++◌, length, take, drop, refl, sym, ap, ◌∙◌, arith, ◌-◌, ◌*◌, get_or, map, ap₂, ◌==◌, replicate}
use Rattle.std.proofs.lemmas.List.{map-append, take-append-drop}
use Rattle.std.proofs.lemmas.Bool.Decides.{nat_tests}
use Rattle.std.proofs.lemmas.Str.{digit_value_digit}
use Rattle.std.proofs.lemmas.Str.Parse.{digit_at}
use Rattle.std.proofs.lemmas.Int.Digits.{digits_value_is, digits_value_more, number_after_append, number_after_ge}
use Rattle.edr_base.specs.NumberParts.{NonePass, IsSplit}
use Rattle.std.specs.Int.{IsInRange}
use Rattle.std.specs.Int.Digits.{number_from_digits, number_from_digits_after}
use Rattle.std.specs.Char.{digit_value}
use Rattle.std.specs.Str.Parse.{AllDigits, digits_value}

-- the first digits write no more than all of them
pub digits_value-take-le : (n : ℕ) (ds : List ℕ) → digits_value 10 (take n ds) ≤ digits_value 10 ds
digits_value-take-le n ds =
    let xs = map digit_value (take n ds) in
    let ys = map digit_value (drop n ds) in
    let whole : map digit_value ds ≡ xs ++ ys = ap (map digit_value) (sym (take-append-drop n ds)) ∙ map-append digit_value (take n ds) (drop n ds) in
    let value : number_from_digits 10 (map digit_value ds) ≡ number_from_digits_after 10 (number_from_digits 10 xs) ys = ap (number_from_digits 10) whole ∙ number_after_append 10 0 xs ys in
    omega (arith, digits_value_is 10 ds, digits_value_is 10 (take n ds), value, number_after_ge 10 (number_from_digits 10 xs) ys (omega arith))

-- one digit more
pub digits_value-one_more : (ds : List ℕ) (i : ℕ) → AllDigits 10 ds → i < length ds
    → (48 ≤ get_or ds i 0) × (digits_value 10 (take (i + 1) ds) ≡ digits_value 10 (take i ds) * 10 + (get_or ds i 0 - 48))
digits_value-one_more ds i all h =
    let at : IsInRange 48 57 (get_or ds i 0) = digit_at ds i all h in
    let d = digit_value_digit (get_or ds i 0) at in
    (omega (arith, d), omega (arith, digits_value_more 10 ds i h, d))

-- bytes that are all spaces
pub spaces-front : (cs : List ℕ) → NonePass (λ c. not (c == 32)) cs → cs ≡ replicate (length cs) 32
spaces-front [] none = refl
spaces-front (c ∷ cs) none = let e : c ≡ 32 = grind (arith, nat_tests, none.0) in ap₂ (λ x xs. x ∷ xs) e (spaces-front cs none.1)

pub spaces-split : (text front rest : List ℕ) → IsSplit (λ c. not (c == 32)) text front rest → (spaces : ℕ) × IsSplit (λ c. not (c == 32)) text (replicate spaces 32) rest
spaces-split text front rest s = (length front, let P : List ℕ → Type 0 = λ l. IsSplit (λ c. not (c == 32)) text l rest in subst P (spaces-front front s.before) s)
