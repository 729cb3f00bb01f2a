use Rattle.std.proofs.Common.{ℕ, ◌+◌, ◌<◌}
use Rattle.covjson_value.proofs.InTime.{times_of, IsBeforeNext}
use Rattle.covjson_value.proofs.validity.never_fall.Given as goal

abbrev pub invariant-loop-place : goal.invariant-loop-place
invariant-loop-place l = (k : ℕ) → k + 1 < l.place → IsBeforeNext (times_of l.tuples) k
