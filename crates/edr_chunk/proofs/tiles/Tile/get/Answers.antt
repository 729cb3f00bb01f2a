use Rattle.std.proofs.Common.{◌≡◌, ◌+◌, ap, ◌∙◌, arith}
use Rattle.edr_chunk.specs.Tiles.{value_in}
use Rattle.edr_chunk.proofs.tiles.Tile.get.Goals as goal

pub returns : goal.returns
returns c =
    let column : c.args.column + 0 ≡ c.args.column = omega arith in
    c.copy_row.ensures.samples 0 (omega arith) ∙ ap (value_in c.args.self.now c.args.row) column
