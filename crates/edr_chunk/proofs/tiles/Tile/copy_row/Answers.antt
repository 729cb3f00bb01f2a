use Rattle.edr_chunk.specs.Tiles.{TileValue, LiesIn, place_in_tile, value_in}
use Rattle.std.proofs.Common.{◌≡◌, ◌+◌, ℤ, List, Option, None, get_or, ap, sym, subst, ◌∙◌, arith}
use Rattle.edr_chunk.proofs.tiles.Tile.copy_row.Goals as goal

pub returns-clause-samples : goal.returns-clause-samples
returns-clause-samples c = λ k h.
    let inside = c.self.inside in
    let own : TileValue = record { row = inside.row; column = inside.column; width = inside.width; values = inside.samples } in
    let first = subst (λ (t : TileValue). LiesIn t c.args.row (c.args.column + 0)) (sym c.self.view_is) (c.requires 0 (omega (arith, h))) in
    let place : place_in_tile own c.args.row c.args.column + k ≡ place_in_tile own c.args.row (c.args.column + k) = omega (arith, first.1) in
    let read : get_or c.copy_to.new.into k None ≡ get_or inside.samples (place_in_tile own c.args.row c.args.column + k) None =
    c.copy_to.ensures.samples k h ∙ ap (λ (list : List (Option ℤ)). get_or list (place_in_tile own c.args.row c.args.column + k) None) c.packed.ensures in
    read ∙ ap (λ n. get_or inside.samples n None) place ∙ ap (λ (t : TileValue). value_in t c.args.row (c.args.column + k)) c.self.view_is
