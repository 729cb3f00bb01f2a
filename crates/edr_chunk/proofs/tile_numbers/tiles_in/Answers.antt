use Rattle.std.proofs.Common.{arith, ◌≡◌, ◌*◌, ap, ◌∙◌}
use Rattle.edr_chunk.specs.Places.{count}
use Rattle.edr_chunk.specs.Tiles.{tiles}
use Rattle.edr_chunk.proofs.PlaceNumbers.{tiles_le}
use Rattle.edr_chunk.proofs.tile_numbers.tiles_in.Goals as goal

pub overflow_mul-result : goal.overflow_mul-result
overflow_mul-result c =
    let coarse = c.tile_shape_of-coarse in
    let same : coarse.result.parameters * c.nodes_of.result ≡ tiles c.args.shape = ap (λ n. coarse.result.parameters * n) c.nodes_of.ensures ∙ ap count coarse.ensures.tiles in
    omega (arith, same, tiles_le c.args.shape c.requires.shape, c.requires.fits)
