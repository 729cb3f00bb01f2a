use Rattle.std.proofs.Common.{rules, ◌≡◌, ◌<◌, ◌*◌, ◌-◌, [], sym, ap, subst, List, ℕ, Option, length, min, get_or, ◌∙◌}
use Rattle.std.specs.Prelude.{ℤ, map}
use Rattle.std.proofs.lemmas.List.{get_or_default}
use Rattle.edr_chunk.specs.declared.shapes.GridShape.{GridShape}
use Rattle.edr_chunk.specs.declared.shapes.GridPlace.{GridPlace}
use Rattle.edr_chunk.specs.Places.{Within, number}
use Rattle.edr_chunk.specs.AllPlaces.{places}
use Rattle.edr_chunk.specs.Tiles.{TileValue, IsTile}
use Rattle.edr_chunk.specs.Grids.{Values}
use Rattle.edr_chunk.specs.KeptTiles.{stored}
use Rattle.edr_chunk.proofs.TileLaws.{opened}
use Rattle.edr_chunk.proofs.packed_grid.PackedGrid.open.Goals as goal

abbrev cut_at : GridShape → GridPlace → List (Option ℤ) → TileValue
cut_at s corner values = record { row = corner.y * 64; column = corner.x * 64; width = min (s.columns - corner.x * 64) 64; values = values }

abbrev view_at : GridShape → List (List (Option ℤ)) → Values
view_at s kept = record { shape = s; values = map (stored s kept) (places s) }

pub returns-clause-ok : goal.returns-clause-ok
returns-clause-ok c =
    let s : GridShape = c.self.inside.shape in
    let corner : GridPlace = c.place_of-corner.result in
    let kept : List (List (Option ℤ)) = c.self.inside.kept.items in
    let k : ℕ = c.args.tile in
    let below : k < length kept = search rules in
    let w = subst (λ (s : GridShape). Within s corner) c.tile_shape_of.ensures.tiles c.place_of-corner.ensures.within in
    let n = subst (λ (s : GridShape). number s corner ≡ k) c.tile_shape_of.ensures.tiles c.place_of-corner.ensures.number in
    let read : c.in_ok-samples.samples ≡ get_or kept k [] = c.in_ok-samples.ensures ∙ c.index.ensures ∙ get_or_default kept k c.index.result.now [] below in
    let made : c.tile_from.result ≡ cut_at s corner (get_or kept k []) = c.tile_from.ensures ∙ ap (cut_at s corner) read in
    subst (λ (g : Values). IsTile g k c.tile_from.result) c.self.view_is
    (subst (λ (t : TileValue). IsTile (view_at s kept) k t) (sym made) (opened s kept k corner c.self.invariant w n))

pub returns-clause-read : goal.returns-clause-read
returns-clause-read c = c.in_ok-append.ensures.ok

pub tile_from-requires : goal.tile_from-requires
tile_from-requires c =
    subst (λ (s : GridShape). Within s c.place_of-corner.result) c.tile_shape_of.ensures.tiles c.place_of-corner.ensures.within
