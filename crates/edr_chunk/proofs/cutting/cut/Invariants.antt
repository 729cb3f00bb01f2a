use Rattle.std.proofs.Common.{◌≡◌}
use Rattle.std.specs.Prelude.{map}
use Rattle.std.specs.List.{range_with_len, flat_map}
use Rattle.edr_chunk.specs.Tiles.{tile_width}
use Rattle.edr_chunk.specs.KeptTiles.{row_value, row_start}
use Rattle.edr_chunk.proofs.cutting.cut.Given as goal

abbrev pub invariant-loop-r : goal.invariant-loop-r
invariant-loop-r l = l.cut.items ≡ flat_map (λ r. map (row_value l.shape l.values (row_start l.tile r)) (range_with_len 0 (tile_width l.shape l.tile))) (range_with_len 0 l.r)
