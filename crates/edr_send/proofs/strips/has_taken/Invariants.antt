use Rattle.std.proofs.Common.{◌≡◌, ℕ, ◌<◌, ◌≤◌, ◌-◌, false}
use Rattle.std.specs.List.{list_any, range_with_len}
use Rattle.edr_select.specs.Framings.{is_set}
use Rattle.edr_send.proofs.strips.has_taken.Given as goal

abbrev pub invariant-loop-y : goal.invariant-loop-y
invariant-loop-y l = (k : ℕ) → l.from ≤ k → k < l.y → list_any (is_set l.frame k) (range_with_len l.left (l.right - l.left)) ≡ false
