use Rattle.std.proofs.Common.{◌≡◌, ℕ, ◌<◌, ◌==◌, not, false, get_or}
use Rattle.edr_base.proofs.numbers.without_spaces.Given as goal

abbrev pub invariant-loop-i : goal.invariant-loop-i
invariant-loop-i l = (k : ℕ) → k < l.i → not (get_or l.text k 0 == 32) ≡ false
