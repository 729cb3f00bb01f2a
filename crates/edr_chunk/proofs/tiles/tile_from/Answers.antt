use Rattle.std.proofs.Common.{ℕ, ◌*◌, ap}
use Rattle.edr_chunk.specs.Tiles.{TileValue, tile_side}
use Rattle.edr_chunk.proofs.tiles.tile_from.Goals as goal

pub returns : goal.returns
returns c =
    ap (λ (w : ℕ). let t : TileValue = record { row = c.args.corner.y * tile_side; column = c.args.corner.x * tile_side; width = w; values = c.args.samples } in t) c.min.ensures
