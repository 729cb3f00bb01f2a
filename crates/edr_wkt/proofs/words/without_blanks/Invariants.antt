use Rattle.std.proofs.Common.{◌≡◌, ℕ, ◌<◌, false, get_or}
use Rattle.edr_wkt.specs.Reads.{not_blank}
use Rattle.edr_wkt.proofs.words.without_blanks.Given as goal

abbrev pub invariant-loop-i : goal.invariant-loop-i
invariant-loop-i l = (k : ℕ) → k < l.i → not_blank (get_or l.text k 0) ≡ false
