-- Steps from piece to piece of a text, and its single bytes and digits.
use Rattle.std.proofs.Common.{◌≡◌, ℕ, ◌+◌, ◌-◌, ◌*◌, ◌/◌, ◌%◌, ◌<◌, ◌≤◌, ◌&&◌, nat_le, Bool, true, false, if◌then◌else◌, ◌⊎◌, inl, inr, List, [], ◌∷◌, ◌++◌, Option, Some, None, refl, ap, ◌∙◌, subst, arith}
use Rattle.std.proofs.lemmas.Bool.{and_parts, and_from, leb-true, le-leb, eqb-true, or_cases, or_left, or_right, eq-eqb}
use Rattle.edr_axes.specs.Instants.{pad2}
use Rattle.edr_axes.specs.InstantGrammar.{IsEitherCase}
use Rattle.edr_axes.specs.InstantPieces.{IsPair, BeginsWithMark}
use Rattle.edr_axes.specs.InstantComputed.{and_next, when, at_end, is_digit, is_letter, two_digits, after_byte, after_letter}

-- ---- one piece after another

-- a piece that is there was made of one before it
pub next_tells : {T U : Type 0} (piece : Option T) (next : T → Option U) (y : U) → and_next piece next ≡ Some y → (x : T) × (piece ≡ Some x) × (next x ≡ Some y)
next_tells None next y h = cc
next_tells (Some x) next y h = (x, refl, h)

-- and it is made where that one is there
pub next_given : {T U : Type 0} (piece : Option T) (next : T → Option U) (x : T) (y : U) → piece ≡ Some x → next x ≡ Some y → and_next piece next ≡ Some y
next_given None next x y h k = cc
next_given (Some z) next x y h k = let same : z ≡ x = cc in rw same k

-- a value that stands under a test is there only where the test is passed
pub when_tells : {T : Type 0} (test : Bool) (value y : T) → when test value ≡ Some y → (test ≡ true) × (value ≡ y)
when_tells true value y h = (refl, cc)
when_tells false value y h = cc

-- and is there where it is
pub when_given : {T : Type 0} (test : Bool) (value y : T) → test ≡ true → value ≡ y → when test value ≡ Some y
when_given true value y h k = ap Some k
when_given false value y h k = cc

-- a value that stands at the end is there only where no bytes are left
pub end_tells : {T : Type 0} (rest : List ℕ) (value y : T) → at_end rest value ≡ Some y → (rest ≡ []) × (value ≡ y)
end_tells [] value y h = (refl, cc)
end_tells (byte ∷ rest) value y h = cc

-- a choice took one of its two ways
pub if_tells : {T : Type 0} (test : Bool) (x y v : T) → (if test then x else y) ≡ v → ((test ≡ true) × (x ≡ v)) ⊎ ((test ≡ false) × (y ≡ v))
if_tells true x y v h = inl (refl, h)
if_tells false x y v h = inr (refl, h)

-- a passed test takes the first way
pub if_given : {T : Type 0} (test : Bool) (x y v : T) → test ≡ true → x ≡ v → (if test then x else y) ≡ v
if_given true x y v h k = k
if_given false x y v h k = cc

-- and a failed one the other
pub else_given : {T : Type 0} (test : Bool) (x y v : T) → test ≡ false → y ≡ v → (if test then x else y) ≡ v
else_given true x y v h k = cc
else_given false x y v h k = k

-- ---- bytes and letters

-- after a byte the text goes on
pub byte_tells : (byte : ℕ) (text rest : List ℕ) → after_byte byte text ≡ Some rest → text ≡ byte ∷ rest
byte_tells byte [] rest h = cc
byte_tells byte (first ∷ more) rest h =
    let p = when_tells _ more rest h in
    let same : first ≡ byte = eqb-true first byte p.0 in
    cc

-- the test of a letter is that of its two cases
pub letter_tells : (capital byte : ℕ) → is_letter capital byte ≡ true → IsEitherCase capital byte
letter_tells capital byte h = elim (or_cases _ _ h) [
  | inl e ↦ inl (eqb-true byte capital e)
  | inr e ↦ inr (eqb-true byte (capital + 32) e)
]

-- a letter in either case passes the test
pub letter_given : (capital byte : ℕ) → IsEitherCase capital byte → is_letter capital byte ≡ true
letter_given capital byte (inl e) = or_left _ _ (eq-eqb byte capital e)
letter_given capital byte (inr e) = or_right _ _ (eq-eqb byte (capital + 32) e)

-- `T` between a date and a time of day
pub mark_tells : (text rest : List ℕ) → after_letter 84 text ≡ Some rest → BeginsWithMark text rest
mark_tells [] rest h = cc
mark_tells (first ∷ more) rest h =
    let p = when_tells (is_letter 84 first) more rest h in
    record { mark = first; mark_is = letter_tells 84 first p.0; text_is = ap (λ t. first ∷ t) p.1 }

-- and it is found
pub mark_given : (text rest : List ℕ) → BeginsWithMark text rest → after_letter 84 text ≡ Some rest
mark_given text rest x = rw x.text_is (when_given (is_letter 84 x.mark) rest rest (letter_given 84 x.mark x.mark_is) refl)

-- ---- two digits

-- a digit lies from `0` to `9`
digit_tells : (byte : ℕ) → is_digit byte ≡ true → (48 ≤ byte) × (byte ≤ 57)
digit_tells byte h =
    let p = and_parts (nat_le 48 byte) (nat_le byte 57) h in
    (leb-true 48 byte p.0, leb-true byte 57 p.1)

-- a number below 10 has a digit
digit_given : (n : ℕ) → n < 10 → is_digit (48 + n) ≡ true
digit_given n h = and_from _ _ (le-leb 48 (48 + n) (omega arith)) (le-leb (48 + n) 57 (omega arith))

-- two digits write a number below 100
pair_of_digits : (a b : ℕ) (rest : List ℕ) → (48 ≤ a) × (a ≤ 57) → (48 ≤ b) × (b ≤ 57)
    → IsPair (a ∷ (b ∷ rest)) ((a - 48) * 10 + (b - 48)) rest
pair_of_digits a b rest h k =
    let tens : a ≡ 48 + ((a - 48) * 10 + (b - 48)) / 10 = omega (arith, h, k) in
    let ones : b ≡ 48 + ((a - 48) * 10 + (b - 48)) % 10 = omega (arith, h, k) in
    (omega (arith, h, k), ap (λ x. x ∷ (b ∷ rest)) tens ∙ ap (λ x. (48 + ((a - 48) * 10 + (b - 48)) / 10) ∷ (x ∷ rest)) ones)

-- two digits that are found are those of the grammar
pub pair_tells : (text : List ℕ) (r : ℕ × List ℕ) → two_digits text ≡ Some r → IsPair text r.0 r.1
pair_tells [] r h = cc
pair_tells (a ∷ []) r h = cc
pair_tells (a ∷ (b ∷ rest)) r h =
    let p = when_tells (is_digit a && is_digit b) ((a - 48) * 10 + (b - 48), rest) r h in
    let digits = and_parts (is_digit a) (is_digit b) p.0 in
    let P : ℕ × List ℕ → Type 0 = λ v. IsPair (a ∷ (b ∷ rest)) v.0 v.1 in
    subst P p.1 (pair_of_digits a b rest (digit_tells a digits.0) (digit_tells b digits.1))

-- a number below 100 is found in its two digits
pub pair_given : (n : ℕ) (rest : List ℕ) → n < 100 → two_digits (pad2 n ++ rest) ≡ Some (n, rest)
pair_given n rest h =
    let value : (48 + n / 10 - 48) * 10 + (48 + n % 10 - 48) ≡ n = omega arith in
    when_given _ _ _ (and_from _ _ (digit_given (n / 10) (omega arith)) (digit_given (n % 10) (omega arith))) (ap (λ v. (v, rest)) value)
