use Rattle.edr_station.specs.KeptBlocks.{Filled}
use Rattle.edr_station.proofs.series.packed_blocks.Given as goal

abbrev pub invariant-loop-block : goal.invariant-loop-block
invariant-loop-block l = Filled l.values l.blocks.items l.block
