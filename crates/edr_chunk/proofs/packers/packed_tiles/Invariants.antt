use Rattle.edr_chunk.specs.KeptTiles.{Filled}
use Rattle.edr_chunk.proofs.packers.packed_tiles.Given as goal

abbrev pub invariant-loop-tile : goal.invariant-loop-tile
invariant-loop-tile l = Filled l.shape l.values l.kept.items l.tile
