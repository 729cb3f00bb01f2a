use Rattle.std.proofs.Common.{◌≡◌, take}
use Rattle.edr_station.specs.KeptBlocks.{values_of}
use Rattle.edr_station.specs.Tallies.{tally_of}
use Rattle.edr_station.proofs.station.Station.tally.Given as goal

abbrev pub invariant-loop-parameter : goal.invariant-loop-parameter
invariant-loop-parameter l = l.tally ≡ tally_of (values_of (take l.parameter l.fn.self.series))
