use Rattle.std.proofs.Common.{ℕ, ◌+◌, ◌<◌}
use Rattle.covjson_value.proofs.Order.{IsBelowNext}
use Rattle.covjson_value.proofs.validity.ascend_by_id.Given as goal

abbrev pub invariant-loop-place : goal.invariant-loop-place
invariant-loop-place l = (k : ℕ) → k + 1 < l.place → IsBelowNext l.parameters k
