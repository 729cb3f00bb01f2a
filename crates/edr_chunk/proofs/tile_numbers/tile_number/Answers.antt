use Rattle.edr_chunk.specs.Places.{Within, count, number}
use Rattle.edr_chunk.specs.declared.shapes.GridShape.{GridShape}
use Rattle.std.proofs.Common.{◌≡◌, ◌<◌, sym, ap, subst, ℕ, ◌^◌, ◌∙◌, arith}
use Rattle.edr_chunk.specs.Tiles.{tile_shape, tile_place, tile_of, tiles}
use Rattle.edr_chunk.specs.PlaceLaws.{number-below}
use Rattle.edr_chunk.proofs.PlaceNumbers.{tile_within, tiles_le}
use Rattle.edr_chunk.proofs.tile_numbers.tile_number.Goals as goal

pub returns-clause-number : goal.returns-clause-number
returns-clause-number c = c.number.ensures.number ∙ ap (λ (s : GridShape). number s (tile_place c.args.place)) c.tile_shape_of.ensures.tiles

pub returns-clause-below : goal.returns-clause-below
returns-clause-below c =
    let s = c.args.shape in
    let is : c.number.result ≡ tile_of s c.args.place = c.number.ensures.number ∙ ap (λ (s : GridShape). number s (tile_place c.args.place)) c.tile_shape_of.ensures.tiles in
    subst (λ (k : ℕ). k < tiles s) (sym is) (number-below (tile_shape s) (tile_place c.args.place) (tile_within s c.args.place c.requires.within))

pub number-requires-clause-within : goal.number-requires-clause-within
number-requires-clause-within c =
    subst (λ (s : GridShape). Within s (tile_place c.args.place)) (sym c.tile_shape_of.ensures.tiles) (tile_within c.args.shape c.args.place c.requires.within)

pub number-requires-clause-fits : goal.number-requires-clause-fits
number-requires-clause-fits c =
    let fewer = tiles_le c.args.shape c.requires.shape in
    subst (λ (s : GridShape). count s < 2 ^ 64) (sym c.tile_shape_of.ensures.tiles) (omega (arith, fewer, c.requires.fits))
