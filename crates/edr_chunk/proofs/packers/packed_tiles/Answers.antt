use Rattle.std.proofs.Common.{◌+◌, rules, arith, ◌≡◌, ◌++◌, ◌∷◌, [], sym, subst, List, ℕ, Option}
use Rattle.std.specs.Prelude.{ℤ}
use Rattle.edr_chunk.specs.declared.shapes.GridShape.{GridShape}
use Rattle.edr_chunk.specs.Places.{Within, number}
use Rattle.edr_chunk.specs.Tiles.{tiles}
use Rattle.edr_chunk.specs.KeptTiles.{Filled, cut_values}
use Rattle.edr_chunk.proofs.TileLaws.{cut_samples, filled_more}
use Rattle.edr_chunk.proofs.packers.packed_tiles.Goals as goal
use Rattle.edr_base.specs.Limits.{AreSamples}

pub pack-requires : goal.pack-requires
pack-requires c =
    let e : c.deref.result.now ≡ cut_values c.args.shape c.args.values.now c.place_of-place.result = search rules in
    subst AreSamples (sym e) (cut_samples c.args.shape c.args.values.now c.place_of-place.result c.requires.samples)

pub loop-tile-preserved : goal.loop-tile-preserved
loop-tile-preserved c =
    let e : c.push.new.self.items ≡ c.loop-tile.kept.items ++ cut_values c.args.shape c.args.values.now c.place_of-place.result ∷ [] = search rules in
    let w = subst (λ (s : GridShape). Within s c.place_of-place.result) c.tile_shape_of-coarse.ensures.tiles c.place_of-place.ensures.within in
    let n = subst (λ (s : GridShape). number s c.place_of-place.result ≡ c.loop-tile.tile) c.tile_shape_of-coarse.ensures.tiles c.place_of-place.ensures.number in
    subst (λ (k : List (List (Option ℤ))). Filled c.args.shape c.args.values.now k (c.loop-tile.tile + 1)) (sym e)
    (filled_more c.args.shape c.args.values.now c.loop-tile.kept.items c.loop-tile.tile c.place_of-place.result c.loop-tile.invariant w n)

pub returns : goal.returns
returns c =
    let e : c.loop-tile.tile ≡ tiles c.args.shape = omega arith in
    subst (λ (n : ℕ). Filled c.args.shape c.args.values.now c.loop-tile.kept.items n) e c.loop-tile.invariant
