use Rattle.std.proofs.Common.{ℕ, None, true, length, get_or, ◌≡◌, ◌-◌, ◌<◌, ◌≤◌}
use Rattle.edr_send.specs.SeriesTexts.{goes_on}
use Rattle.edr_send.proofs.block_runs.run_end.Given as goal

abbrev pub invariant-loop-at : goal.invariant-loop-at
invariant-loop-at l = record {
  low : l.from < l.at;
  high : l.at ≤ length l.cells;
  run : (k : ℕ) → l.from ≤ k → k < l.at → goes_on (get_or l.cells l.from None) (get_or l.cells k None) ≡ true;
}

abbrev pub decreases-loop-at : goal.decreases-loop-at
decreases-loop-at l = length l.cells - l.at
