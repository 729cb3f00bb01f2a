use Rattle.std.proofs.Common.{◌≡◌, ℕ, ◌<◌, ◌≤◌, false, get_or}
use Rattle.edr_lines.proofs.spreads.has_asked.Given as goal

abbrev pub invariant-loop-place : goal.invariant-loop-place
invariant-loop-place l = (k : ℕ) → l.fn.range.0 ≤ k → k < l.place → get_or l.asked k false ≡ false
