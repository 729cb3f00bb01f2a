use Rattle.std.proofs.Common.{◌≡◌, take}
use Rattle.std.specs.List.{flat_map}
use Rattle.edr_station.specs.Tallies.{tally_of, and_of}
use Rattle.edr_work.proofs.counting.with_coverage.Given as goal
use Rattle.covjson_value.specs.Coverages.{range_values}

abbrev pub invariant-loop-range : goal.invariant-loop-range
invariant-loop-range l = l.now ≡ and_of l.fn.tally (tally_of (flat_map range_values (take l.range-index l.coverage.ranges)))
