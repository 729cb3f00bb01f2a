use Rattle.std.proofs.Common.{◌≡◌, drop}
use Rattle.covjson_ranges.specs.RangeAnswers as ranges
use Rattle.covjson_ranges.proofs.ranges.are_distinct.Given as goal

-- those before don't stand twice
abbrev pub invariant-loop-place : goal.invariant-loop-place
invariant-loop-place l = ranges.are_distinct (drop l.place l.names) ≡ ranges.are_distinct l.names
