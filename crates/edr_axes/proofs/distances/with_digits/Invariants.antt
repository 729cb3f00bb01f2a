use Rattle.std.proofs.Common.{◌≡◌, ◌≤◌, drop}
use Rattle.std.specs.Str.Parse.{digits_value_after}
use Rattle.edr_base.specs.Limits.{distance_limit}
use Rattle.edr_axes.proofs.distances.with_digits.Given as goal

-- the digits that are left, behind the number so far, write what all write
abbrev pub invariant-loop-digit : goal.invariant-loop-digit
invariant-loop-digit l = (digits_value_after 10 l.more (drop l.digit-index l.digits) ≡ digits_value_after 10 l.size l.digits) × (l.more ≤ distance_limit)
