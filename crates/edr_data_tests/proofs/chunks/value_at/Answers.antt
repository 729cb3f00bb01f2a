use Rattle.std.proofs.Common.{sym, subst}
use Rattle.edr_chunk.specs.declared.shapes.GridShape.{GridShape}
use Rattle.edr_chunk.specs.Places.{Within}
use Rattle.edr_data_tests.proofs.chunks.value_at.Goals as goal

pub tile_of-requires : goal.tile_of-requires
tile_of-requires c = subst (λ (s : GridShape). Within s c.place_of-place.result) c.shape.ensures.same c.place_of-place.ensures.within

pub get-requires : goal.get-requires
get-requires c = c.in_ok-tile.ensures.ok.lies c.place_of-place.result
    (subst (λ (s : GridShape). Within s c.place_of-place.result) c.shape.ensures.same c.place_of-place.ensures.within)
    (sym c.tile_of.ensures.number)
