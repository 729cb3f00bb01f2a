use Rattle.std.proofs.Common.{◌≡◌, ℕ, ◌<◌, false, length, get_or}
use Rattle.edr_select.proofs.mask_rows.copy_mask.Given as goal

abbrev pub invariant-loop-column : goal.invariant-loop-column
invariant-loop-column l = record {
  long : length l.row ≡ length l.mask;
  same : (k : ℕ) → k < l.column → get_or l.row k false ≡ get_or l.mask k false;
}
