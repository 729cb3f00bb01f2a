use Rattle.std.proofs.Common.{◌≡◌, drop}
use Rattle.covjson_ranges.specs.RangeAnswers as ranges
use Rattle.covjson_ranges.proofs.ranges.are_owned.Given as goal

-- those before are owned
abbrev pub invariant-loop-name : goal.invariant-loop-name
invariant-loop-name l = ranges.are_owned l.domain (drop l.name-index l.names) ≡ ranges.are_owned l.domain l.names
