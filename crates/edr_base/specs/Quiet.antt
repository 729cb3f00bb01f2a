-- The count of faults of the objects that never fail.
use Rattle.std.specs.Prelude.{◌≤◌}
use Rattle.std.proofs.Common.{arith}
use Rattle.edr_base.specs.Limits.{count_limit}

-- the constant count is within its bound
pub none_bounded : 0 ≤ count_limit
none_bounded = omega arith
