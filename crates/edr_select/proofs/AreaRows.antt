-- What an area selects of small grids.
use Rattle.std.proofs.Common.{◌≡◌, pos, negsuc, false, true, List, [], ◌∷◌, refl, Some, None}
use Rattle.edr_base.specs.declared.places.Position.{Position}
use Rattle.edr_base.specs.declared.refusals.Refusal.TheVariants.{NoSamples}
use Rattle.edr_axes.specs.declared.levels.Levels.TheVariants as levels
use Rattle.edr_wkt.specs.declared.geometry.Geometry.TheVariants.{Polygons}
use Rattle.edr_chunk.specs.AllPlaces.{places}
use Rattle.covjson_value.specs.declared.domains.Domain.TheVariants as domain
use Rattle.edr_query.specs.declared.shapes.Shape.{Shape}
use Rattle.edr_query.specs.declared.shapes.Shape.TheVariants as shape
use Rattle.edr_select.specs.Selections.{needed}
use Rattle.edr_select.specs.Documents.{document}
use Rattle.edr_select.specs.Checks.{refused_query}
use Rattle.edr_select.proofs.RowData.{has, t0, t1, place, at, polygon, space, grids, on, ys, xs, flat, column, ask, only, one, frame}

-- inside a POLYGON, by its outer ring and those of its holes
abbrev inside : List (List Position) → Shape
inside rings = shape.Area (Polygons false false false (polygon rings ∷ []))

-- POLYGON((0 0,200 0,0 100,0 0))
abbrev triangle : Shape
triangle = inside ((at 0 0 ∷ at 200 0 ∷ at 0 100 ∷ at 0 0 ∷ []) ∷ [])

-- POLYGON((-50 -50,250 -50,250 150,-50 150,-50 -50),(50 0,150 0,150 120,50 120,50 0))
abbrev with_hole : Shape
with_hole = inside (
    (place (negsuc 49) (negsuc 49) ∷ place (pos 250) (negsuc 49) ∷ at 250 150 ∷ place (negsuc 49) (pos 150) ∷ place (negsuc 49) (negsuc 49) ∷ [])
    ∷ (at 50 0 ∷ at 150 0 ∷ at 150 120 ∷ at 50 120 ∷ at 50 0 ∷ []) ∷ [])

-- MULTIPOLYGON(((0 0,50 0,50 50,0 0)),((150 50,200 50,200 100,150 50)))
abbrev two : Shape
two = shape.Area (Polygons true false false (
    polygon ((at 0 0 ∷ at 50 0 ∷ at 50 50 ∷ at 0 0 ∷ []) ∷ [])
    ∷ polygon ((at 150 50 ∷ at 200 50 ∷ at 200 100 ∷ at 150 50 ∷ []) ∷ []) ∷ []))

-- nodes on edges and at vertices belong; two nodes of the frame aren't selected
edges_and_vertices : document (on flat) (ask triangle (only t0) None) ≡ frame (t0 ∷ []) ys xs (has 10 ∷ has 11 ∷ has 12 ∷ has 13 ∷ None ∷ None ∷ [])
unfolding places
edges_and_vertices = refl

-- a node on a hole's border belongs, one inside the hole doesn't
hole : document (on flat) (ask with_hole (only t1) None) ≡ frame (t1 ∷ []) ys xs (has 20 ∷ has 21 ∷ has 22 ∷ has 23 ∷ None ∷ has 25 ∷ [])
unfolding places
hole = refl

-- of two polygons each selects one node; the frame is about both
several : document (on flat) (ask two (only t0) None) ≡ frame (t0 ∷ []) ys xs (has 10 ∷ None ∷ None ∷ None ∷ None ∷ has 15 ∷ [])
unfolding places
several = refl

both_times : document (on flat) (ask two None None)
    ≡ frame (t0 ∷ t1 ∷ []) ys xs (has 10 ∷ None ∷ None ∷ None ∷ None ∷ has 15 ∷ has 20 ∷ None ∷ None ∷ None ∷ None ∷ has 25 ∷ [])
unfolding places
both_times = refl

-- the frame's last row has a missing sample alone: POLYGON((100 0,101 0,100 100,100 0))
missing_border : document (on flat) (ask (inside ((at 100 0 ∷ at 101 0 ∷ at 100 100 ∷ at 100 0 ∷ []) ∷ [])) (only t0) None)
    ≡ frame (t0 ∷ []) ys (pos 100 ∷ []) (has 11 ∷ None ∷ [])
unfolding places
missing_border = refl

-- POLYGON((10 10,90 10,90 90,10 10))
abbrev between_nodes : Shape
between_nodes = inside ((at 10 10 ∷ at 90 10 ∷ at 90 90 ∷ at 10 10 ∷ []) ∷ [])

no_samples : refused_query (grids (flat ∷ [])) (ask between_nodes None None) ≡ Some NoSamples
unfolding places
no_samples = refl

is_answered : refused_query (grids (flat ∷ [])) (ask triangle (only t0) None) ≡ None
unfolding places
is_answered = refl

-- ---- levels are those of `z`

levels_between : document (on column) (ask triangle None (Some (levels.Between (pos 0) (pos 10))))
    ≡ one space (domain.Grid (Some (t0 ∷ [])) (Some (pos 0 ∷ pos 10 ∷ [])) (pos 0 ∷ []) (pos 0 ∷ [])) (has 5 ∷ None ∷ [])
unfolding places
levels_between = refl

all_levels : document (on column) (ask triangle None None)
    ≡ one space (domain.Grid (Some (t0 ∷ [])) (Some (pos 0 ∷ pos 10 ∷ pos 20 ∷ [])) (pos 0 ∷ []) (pos 0 ∷ [])) (has 5 ∷ None ∷ has 7 ∷ [])
unfolding places
all_levels = refl

-- ---- tiles: one for each time, and for each level

tiles_by_time : needed (on flat) (ask triangle (only t1) None) ≡ 1 ∷ []
unfolding places
tiles_by_time = refl

tiles_by_level : needed (on column) (ask triangle None (Some (levels.Series (pos 2) (pos 0) (pos 20)))) ≡ 0 ∷ 2 ∷ []
unfolding places
tiles_by_level = refl
