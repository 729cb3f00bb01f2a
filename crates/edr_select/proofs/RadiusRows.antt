-- What a radius selects of small grids.
use Rattle.std.proofs.Common.{◌≡◌, ℕ, pos, negsuc, false, true, [], ◌∷◌, refl, Some, None}
use Rattle.edr_base.specs.declared.places.Position.{Position}
use Rattle.edr_base.specs.declared.refusals.Refusal.TheVariants.{NoLevels, NoSamples}
use Rattle.edr_wkt.specs.declared.geometry.Geometry.TheVariants.{Points}
use Rattle.edr_chunk.specs.AllPlaces.{places}
use Rattle.covjson_value.specs.declared.domains.Domain.TheVariants as domain
use Rattle.edr_query.specs.declared.shapes.Shape.{Shape}
use Rattle.edr_query.specs.declared.shapes.Shape.TheVariants as shape
use Rattle.edr_select.specs.Selections.{needed}
use Rattle.edr_select.specs.Documents.{document}
use Rattle.edr_select.specs.Checks.{refused_query}
use Rattle.edr_select.proofs.RowData.{has, t0, t1, place, at, at_level, point, space, grids, on, ys, xs, flat, column, ask, only, one, frame}

-- within a distance of a point
abbrev within : ℕ → Position → Shape
within metres centre = shape.Radius (point centre) (pos metres)

-- of a point with z
abbrev within_at : ℕ → Position → Shape
within_at metres centre = shape.Radius (Points false true false (centre ∷ [])) (pos metres)

-- a node at exactly the distance belongs; of the second row only a missing sample is selected, and the row stands in the frame
at_the_distance : document (on flat) (ask (within 100 (at 100 0)) (only t0) None) ≡ frame (t0 ∷ []) ys xs (has 10 ∷ has 11 ∷ has 12 ∷ None ∷ None ∷ None ∷ [])
unfolding places
at_the_distance = refl

a_metre_less : document (on flat) (ask (within 99 (at 100 0)) (only t0) None) ≡ frame (t0 ∷ []) (pos 0 ∷ []) (pos 100 ∷ []) (has 11 ∷ [])
unfolding places
a_metre_less = refl

two_times : document (on flat) (ask (within 100 (at 200 100)) None None)
    ≡ frame (t0 ∷ t1 ∷ []) ys (pos 100 ∷ pos 200 ∷ []) (None ∷ has 12 ∷ None ∷ has 15 ∷ None ∷ has 22 ∷ has 24 ∷ has 25 ∷ [])
unfolding places
two_times = refl

-- the squares of the greatest distances are compared as they are
from_the_farthest_point : document (on flat) (ask (within 400000000 (place (negsuc 99999999) (negsuc 99999999))) (only t0) None)
    ≡ frame (t0 ∷ []) ys xs (has 10 ∷ has 11 ∷ has 12 ∷ has 13 ∷ None ∷ has 15 ∷ [])
unfolding places
from_the_farthest_point = refl

-- a missing sample alone is selected, and no refusal applies
missing_alone : document (on flat) (ask (within 0 (at 100 100)) (only t0) None) ≡ frame (t0 ∷ []) (pos 100 ∷ []) (pos 100 ∷ []) (None ∷ [])
unfolding places
missing_alone = refl

missing_is_answered : refused_query (grids (flat ∷ [])) (ask (within 0 (at 100 100)) (only t0) None) ≡ None
unfolding places
missing_is_answered = refl

between_nodes : refused_query (grids (flat ∷ [])) (ask (within 49 (at 50 50)) None None) ≡ Some NoSamples
unfolding places
between_nodes = refl

-- ---- the z of the point is a single level

level_of_the_point : document (on column) (ask (within_at 0 (at_level 0 0 20)) None None)
    ≡ one space (domain.Grid (Some (t0 ∷ [])) (Some (pos 20 ∷ [])) (pos 0 ∷ []) (pos 0 ∷ [])) (has 7 ∷ [])
unfolding places
level_of_the_point = refl

no_nearest_level : refused_query (grids (column ∷ [])) (ask (within_at 0 (at_level 0 0 19)) None None) ≡ Some NoSamples
unfolding places
no_nearest_level = refl

no_levels : refused_query (grids (flat ∷ [])) (ask (within_at 0 (at_level 0 0 0)) None None) ≡ Some NoLevels
unfolding places
no_levels = refl

-- ---- the tiles: one for each time

tiles_of_both_times : needed (on flat) (ask (within 100 (at 100 0)) None None) ≡ 0 ∷ 1 ∷ []
unfolding places
tiles_of_both_times = refl

tile_of_the_second_time : needed (on flat) (ask (within 100 (at 100 0)) (only t1) None) ≡ 1 ∷ []
unfolding places
tile_of_the_second_time = refl

no_tile : needed (on flat) (ask (within 49 (at 50 50)) None None) ≡ []
unfolding places
no_tile = refl
