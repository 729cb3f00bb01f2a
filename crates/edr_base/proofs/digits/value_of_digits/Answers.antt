use Rattle.std.proofs.Common.{◌≡◌, ℕ, ◌^◌, ◌<◌, ◌≤◌, Option, Some, None, arith}
use Rattle.std.specs.Prelude.{MatchOption}
use Rattle.edr_base.proofs.DigitLemmas.{all_digits}
use Rattle.edr_base.proofs.digits.value_of_digits.Goals as goal

-- what isn't above the greatest number of 64 bits is held by them
in_64_bits : (found : Option ℕ) (value : ℕ) → MatchOption found (18_446_744_073_709_551_615 < value) (λ size. (size ≡ value) × (size ≤ 18_446_744_073_709_551_615))
    → MatchOption found (2 ^ 64 ≤ value) (λ size. (size ≡ value) × (size < 2 ^ 64))
in_64_bits None value h = omega (arith, h)
in_64_bits (Some size) value h = (h.0, omega (arith, h.1))

pub size_within-requires : goal.size_within-requires
size_within-requires c = all_digits c.args.digits.now c.requires

pub returns : goal.returns
returns c = in_64_bits c.size_within.result _ c.size_within.ensures
