use Rattle.std.proofs.Common.{ℕ, ◌≡◌, ◌<◌, ◌+◌, get_or}
use Rattle.edr_send.proofs.bands.parameters_rise.Given as goal

abbrev pub invariant-loop-parameter : goal.invariant-loop-parameter
invariant-loop-parameter l = record {
  none : l.parameter-index ≡ 0 → l.least ≡ 0;
  last : (i d : ℕ) → i + 1 ≡ l.parameter-index → get_or l.parameters i d + 1 ≡ l.least;
  below : (i d : ℕ) → i < l.parameter-index → get_or l.parameters i d < l.least;
  rise : (i j d : ℕ) → i < j → j < l.parameter-index → get_or l.parameters i d < get_or l.parameters j d;
}
