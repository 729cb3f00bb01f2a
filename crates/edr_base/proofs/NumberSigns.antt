-- A numeral has the sign that stands at its front, and a text has one value.
use Rattle.std.proofs.Common.{◌≡◌, ℕ, zero, suc, List, refl, ℤ}
use Rattle.std.specs.Int.RustNames.{unsigned_abs}
use Rattle.edr_base.specs.declared.numbers.Sign.{Sign}
use Rattle.edr_base.specs.declared.numbers.Sign.TheVariants.{NoSign, Plus, Minus}
use Rattle.edr_base.specs.Numbers.{IsUnsigned, IsNumeral, signed}
use Rattle.edr_base.specs.NumberParts.{IsSignSplit}
use Rattle.edr_base.specs.NumberLaws.{numeral-parts}

pub numeral-from : (text rest : List ℕ) (s : Sign) (size : ℕ) → IsSignSplit text s rest → IsUnsigned rest size → IsNumeral text (signed s size)
numeral-from text rest s size p u = record { sign = s; unsigned = rest; size = size; text_is = p.text_is; is_unsigned = u; value_is = refl }

pub numeral-none : (text rest : List ℕ) (s : Sign) → IsSignSplit text s rest → ((size : ℕ) → ¬ (IsUnsigned rest size)) → (v : ℤ) → ¬ (IsNumeral text v)
numeral-none text rest s p none v n = let x = numeral-parts text rest s v p n in none x.0 x.1

pub unsigned_abs-signed : (s : Sign) (n : ℕ) → unsigned_abs (signed s n) ≡ n
unsigned_abs-signed NoSign n = refl
unsigned_abs-signed Plus n = refl
unsigned_abs-signed Minus zero = refl
unsigned_abs-signed Minus (suc n) = refl
