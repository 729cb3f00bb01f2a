use Rattle.std.proofs.Common.{◌≡◌, take}
use Rattle.edr_station.specs.KeptBlocks.{values_of}
use Rattle.edr_station.specs.Tallies.{tally_of}
use Rattle.edr_station.proofs.series.Series.tally.Given as goal

abbrev pub invariant-loop-block : goal.invariant-loop-block
invariant-loop-block l = l.tally ≡ tally_of (values_of (take l.block l.self-inside.blocks))
