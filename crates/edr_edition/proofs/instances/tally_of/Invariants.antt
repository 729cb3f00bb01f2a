use Rattle.std.proofs.Common.{◌≡◌, take}
use Rattle.edr_edition.specs.Instances.{values_of}
use Rattle.edr_station.specs.Tallies.{tally_of}
use Rattle.edr_edition.proofs.instances.tally_of.Given as goal

abbrev pub invariant-loop-range : goal.invariant-loop-range
invariant-loop-range l = l.tally ≡ tally_of (values_of (take l.range-index l.ranges))
