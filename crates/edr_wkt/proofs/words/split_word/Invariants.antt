use Rattle.std.proofs.Common.{◌≡◌, ℕ, ◌<◌, false, get_or}
use Rattle.edr_wkt.specs.Grammar.{is_end}
use Rattle.edr_wkt.proofs.words.split_word.Given as goal

abbrev pub invariant-loop-i : goal.invariant-loop-i
invariant-loop-i l = (k : ℕ) → k < l.i → is_end (get_or l.text k 0) ≡ false
