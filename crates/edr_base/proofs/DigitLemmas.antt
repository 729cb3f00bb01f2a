-- Digits, as a test and as numbers.
use Rattle.std.proofs.Common.{◌≡◌, ℕ, true, List, [], ◌∷◌, arith}
use Rattle.std.proofs.lemmas.Bool.Decides.{nat_tests}
use Rattle.std.proofs.lemmas.List.Elements.{All-head, All-tail}
use Rattle.std.proofs.lemmas.Str.Parse.{tells_digits}
use Rattle.std.specs.Char.{is_ascii_digit}
use Rattle.std.specs.Int.{IsInRange}
use Rattle.std.specs.List.{AllPass}
use Rattle.std.specs.Str.Parse.{AllDigits}

in_range : (c : ℕ) → is_ascii_digit c ≡ true → IsInRange 48 57 c
in_range c h = grind (arith, nat_tests, h)

-- bytes that pass the test are digits
pub all_digits : (ds : List ℕ) → AllPass is_ascii_digit ds → AllDigits 10 ds
all_digits [] all = tt
all_digits (c ∷ cs) all =
    tells_digits.more c cs (in_range c (All-head (λ x. is_ascii_digit x ≡ true) c cs all)) (all_digits cs (All-tail (λ x. is_ascii_digit x ≡ true) c cs all))
