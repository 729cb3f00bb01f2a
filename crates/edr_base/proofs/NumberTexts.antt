-- A numeral's text has one sign, one front of digits and one point.
use Rattle.std.proofs.Common.{◌≡◌, ◌⊎◌, ℕ, subst, ◌<◌, ◌≤◌, ◌==◌, Bool, true, false, List, [], ◌∷◌, length, refl, ap, ◌∙◌, arith, inl, inr}
use Rattle.std.specs.Int.{IsInRange}
use Rattle.std.specs.Char.{digit_value}
use Rattle.std.specs.Str.Parse.{AllDigits, digits_value}
use Rattle.std.proofs.lemmas.Bool.Decides.{nat_tests}
use Rattle.std.proofs.lemmas.Str.{digit_value_digit}
use Rattle.edr_base.specs.Numbers.{IsPoint, IsUnsigned}
use Rattle.edr_base.specs.NumberParts.{NonePass, IsSplit}
use Rattle.edr_base.specs.SplitLaws.{IsSplit-unique}
use Rattle.edr_base.specs.NumberLaws.{not_digit, unsigned-split}

digit-all : (c : ℕ) → not_digit c ≡ false → IsInRange 48 57 c
digit-all c h = grind (arith, nat_tests)

value-small : (c : ℕ) → IsInRange 48 57 c → digit_value c < 10
value-small c h = omega (arith, digit_value_digit c h)

pub digits-all : (ds : List ℕ) → NonePass not_digit ds → AllDigits 10 ds
digits-all [] none = tt
digits-all (d ∷ ds) none = (value-small d (digit-all d none.0), digits-all ds none.1)

-- an unsigned numeral has the digits and the point that stand at its front
pub unsigned-parts : (text ds pt : List ℕ) (n : ℕ) → IsSplit not_digit text ds pt → (u : IsUnsigned text n) → (u.digits ≡ ds) × (u.point ≡ pt)
unsigned-parts text ds pt n s u = IsSplit-unique not_digit text _ _ ds pt (unsigned-split text n u) s

pub unsigned-value : (text ds pt : List ℕ) (n : ℕ) → IsSplit not_digit text ds pt → IsUnsigned text n → n ≡ digits_value 10 ds
unsigned-value text ds pt n s u = u.size_is ∙ ap (digits_value 10) (unsigned-parts text ds pt n s u).0

pub unsigned-not_point : (text ds pt : List ℕ) → IsSplit not_digit text ds pt → ¬ (IsPoint pt) → (n : ℕ) → ¬ (IsUnsigned text n)
unsigned-not_point text ds pt s isnt n u = isnt (subst IsPoint (unsigned-parts text ds pt n s u).1 u.is_point)

some-digit : (ds pt : List ℕ) → (0 < length ds) ⊎ (1 < length pt) → length ds ≡ 0 → length pt < 2 → ⊥
some-digit ds pt (inl h) e l = omega arith
some-digit ds pt (inr h) e l = omega arith

pub unsigned-short : (text ds pt : List ℕ) → IsSplit not_digit text ds pt → length ds ≡ 0 → length pt < 2 → (n : ℕ) → ¬ (IsUnsigned text n)
unsigned-short text ds pt s e l n u =
    let parts = unsigned-parts text ds pt n s u in
    some-digit _ _ u.some (ap length parts.0 ∙ e) (omega (arith, ap length parts.1))

-- what the parts at the front are together
pub unsigned-from : (text ds pt : List ℕ) → IsSplit not_digit text ds pt → IsPoint pt → (0 < length ds) ⊎ (1 < length pt) → IsUnsigned text (digits_value 10 ds)
unsigned-from text ds pt s point some = record { digits = ds; point = pt; text_is = s.text_is; are_digits = digits-all ds s.before; is_point = point; some = some; size_is = refl }

pub some-else : (b : Bool) (m n : ℕ) → b ≡ (m == 0) → ((b ≡ true) × (2 ≤ n)) ⊎ (b ≡ false) → (0 < m) ⊎ (1 < n)
some-else b m n e (inl h) = inr (omega (arith, h.1))
some-else b m n e (inr h) = inl (grind (arith, nat_tests))
