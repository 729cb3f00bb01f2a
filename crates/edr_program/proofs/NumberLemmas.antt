-- The number that a word writes.
use Rattle.std.proofs.Common.{◌≡◌, ℕ, ◌-◌, ◌<◌, ◌≤◌, ◌^◌, true, false, List, length, arith, None, Some, MatchOption}
use Rattle.std.proofs.lemmas.Bool.Decides.{nat_tests}
use Rattle.std.proofs.lemmas.List.Sums.{list_all-from_AllPass}
use Rattle.std.specs.Char.{is_ascii_digit}
use Rattle.std.specs.List.{AllPass}
use Rattle.std.specs.Str.Parse.{digits_value}
use Rattle.std.specs.declared.option.Option.{Option}
use Rattle.edr_program.specs.Numbers.{is_number}

-- the value of 1 to 20 digits, which is none where 64 bits don't hold it
pub answered : (word : List ℕ) (r : Option ℕ) → 0 < length word → length word ≤ 20 → AllPass is_ascii_digit word
    → MatchOption r (2 ^ 64 ≤ digits_value 10 word) (λ n. (n ≡ digits_value 10 word) × (n < 2 ^ 64))
    → MatchOption r (is_number word ≡ false) (λ n. (is_number word ≡ true) × (n ≡ digits_value 10 word))
answered word None some few all m = let told = list_all-from_AllPass is_ascii_digit word all in grind (arith, nat_tests, told, some, few, m)
answered word (Some n) some few all m = let told = list_all-from_AllPass is_ascii_digit word all in (grind (arith, nat_tests, told, some, few, m.0, m.1), m.0)
