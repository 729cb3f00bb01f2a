use Rattle.std.proofs.Common.{◌≡◌, ℕ, ◌-◌, ◌<◌, ◌≤◌, ◌||◌, false, length, get_or, drop}
use Rattle.edr_geometry.specs.Lines.{odd_behind}
use Rattle.edr_geometry.proofs.cuts.join_odd.Given as goal

abbrev pub invariant-pairs : goal.invariant-pairs
invariant-pairs l = record {
  within : l.first ≤ length l.cuts;
  joined : (place : ℕ) → place < length l.fn.mask → (get_or l.mask place false || odd_behind (length l.fn.mask) (drop l.first l.cuts) place) ≡ (get_or l.fn.mask place false || odd_behind (length l.fn.mask) l.cuts place);
}

abbrev pub decreases-pairs : goal.decreases-pairs
decreases-pairs l = length l.cuts - l.first
