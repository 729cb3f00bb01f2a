use Rattle.std.proofs.Common.{◌≡◌, ℕ, ◌<◌, ◌≤◌, false}
use Rattle.edr_select.specs.Framings.{is_set}
use Rattle.edr_send.proofs.strips.row_has_taken.Given as goal

abbrev pub invariant-loop-x : goal.invariant-loop-x
invariant-loop-x l = (k : ℕ) → l.left ≤ k → k < l.x → is_set l.frame l.y k ≡ false
