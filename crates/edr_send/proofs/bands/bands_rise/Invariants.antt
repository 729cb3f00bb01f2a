use Rattle.std.proofs.Common.{ℕ, ◌≡◌, ◌<◌, ◌≤◌, ◌+◌, get_or}
use Rattle.edr_select.specs.declared.plans.GridNode.{GridNode}
use Rattle.edr_send.specs.Bands.{band_of}
use Rattle.edr_send.proofs.bands.bands_rise.Given as goal

abbrev pub invariant-loop-cell : goal.invariant-loop-cell
invariant-loop-cell l = record {
  none : l.cell-index ≡ 0 → l.greatest ≡ 0;
  last : (i : ℕ) (d : GridNode) → i + 1 ≡ l.cell-index → band_of l.shape (get_or l.cells i d) ≡ l.greatest;
  below : (i : ℕ) (d : GridNode) → i < l.cell-index → band_of l.shape (get_or l.cells i d) ≤ l.greatest;
  rise : (i j : ℕ) (d : GridNode) → i ≤ j → j < l.cell-index → band_of l.shape (get_or l.cells i d) ≤ band_of l.shape (get_or l.cells j d);
}
