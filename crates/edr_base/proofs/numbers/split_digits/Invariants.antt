use Rattle.std.proofs.Common.{◌≡◌, ℕ, ◌<◌, not, false, get_or}
use Rattle.std.specs.Char.{is_ascii_digit}
use Rattle.edr_base.proofs.numbers.split_digits.Given as goal

abbrev pub invariant-loop-i : goal.invariant-loop-i
invariant-loop-i l = (k : ℕ) → k < l.i → not (is_ascii_digit (get_or l.text k 0)) ≡ false
