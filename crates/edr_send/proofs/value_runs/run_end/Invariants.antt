use Rattle.std.proofs.Common.{ℕ, length, get_or, ◌≡◌, ◌+◌, ◌-◌, ◌<◌, ◌≤◌}
use Rattle.edr_select.specs.declared.plans.GridNode.{GridNode}
use Rattle.edr_send.specs.Bands.{band_of}
use Rattle.edr_send.proofs.value_runs.run_end.Given as goal

abbrev pub invariant-loop-at : goal.invariant-loop-at
invariant-loop-at l = record {
  low : l.from < l.at;
  high : l.at ≤ length l.cells;
  first : (k : ℕ) (d : GridNode) → l.from + 1024 ≤ k → k < l.at → band_of l.shape (get_or l.cells (k - 1) d) ≡ band_of l.shape (get_or l.cells k d);
}

abbrev pub decreases-loop-at : goal.decreases-loop-at
decreases-loop-at l = length l.cells - l.at
