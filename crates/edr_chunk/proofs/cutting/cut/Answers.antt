use Rattle.std.proofs.Common.{◌≡◌, ℕ, ◌++◌, List, Option, ap, sym, ◌∙◌, arith}
use Rattle.std.specs.Prelude.{ℤ, map}
use Rattle.std.specs.List.{range_with_len, flat_map}
use Rattle.edr_chunk.specs.Tiles.{tile_width}
use Rattle.edr_chunk.specs.KeptTiles.{row_value, row_start}
use Rattle.edr_chunk.proofs.Lists.{flat_map_range_more}
use Rattle.edr_chunk.proofs.cutting.cut.Goals as goal

pub loop-r-preserved : goal.loop-r-preserved
loop-r-preserved c =
    let s = c.args.shape in
    let values = c.args.values.now in
    let r = c.loop-r.r in
    let row_of : ℕ → ℕ → List (Option ℤ) = λ r w. map (row_value s values (row_start c.args.tile r)) (range_with_len 0 w) in
    let rows : ℕ → List (Option ℤ) = λ r. row_of r (tile_width s c.args.tile) in
    c.in_ok-extend_from_slice.ensures.items
    ∙ ap (λ (l : List (Option ℤ)). l ++ c.row_from.result.now) c.loop-r.invariant
    ∙ ap (λ (row : List (Option ℤ)). flat_map rows (range_with_len 0 r) ++ row) (c.row_from.ensures ∙ ap (row_of r) c.min-width.ensures)
    ∙ sym (flat_map_range_more rows r)

pub returns : goal.returns
returns c =
    let s = c.args.shape in
    let rows : ℕ → List (Option ℤ) = λ r. map (row_value s c.args.values.now (row_start c.args.tile r)) (range_with_len 0 (tile_width s c.args.tile)) in
    let all : c.loop-r.r ≡ c.min-height.result = omega (arith, c.loop-r.auto.r-end, c.loop-r-test.false) in
    c.loop-r.invariant ∙ ap (λ (n : ℕ). flat_map rows (range_with_len 0 n)) (all ∙ c.min-height.ensures)
