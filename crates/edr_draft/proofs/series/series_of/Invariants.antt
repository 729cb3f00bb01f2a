use Rattle.std.proofs.Common.{◌≡◌, ◌++◌, map}
use Rattle.edr_draft.proofs.series.series_of.Given as goal
use Rattle.covjson_value.specs.Coverages.{range_values}

-- the values so far, and those of the ranges that are left
abbrev pub invariant-loop-range : goal.invariant-loop-range
invariant-loop-range l = l.series.items ++ map range_values l.range-iterator.rest.items ≡ map range_values l.fn.ranges
