use Rattle.std.proofs.Common.{◌≡◌, ◌≤◌, ◌<◌, ℕ, true}
use Rattle.edr_select.specs.Framings.{is_set}
use Rattle.edr_send.proofs.strips.row_is_taken.Given as goal

-- each node so far is taken
abbrev pub invariant-loop-x : goal.invariant-loop-x
invariant-loop-x l = (x : ℕ) → l.left ≤ x → x < l.x → is_set l.frame l.y x ≡ true
