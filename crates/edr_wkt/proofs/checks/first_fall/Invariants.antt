use Rattle.std.proofs.Common.{ℕ, ◌≤◌}
use Rattle.edr_wkt.specs.Faults.{FallsAt}
use Rattle.edr_wkt.proofs.checks.first_fall.Given as goal

abbrev pub invariant-loop-i : goal.invariant-loop-i
invariant-loop-i l = (place : ℕ) → place ≤ l.i → ¬ (FallsAt l.positions place)
