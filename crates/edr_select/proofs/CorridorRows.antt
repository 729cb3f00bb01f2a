-- What a corridor selects of small grids.
use Rattle.std.proofs.Common.{◌≡◌, ℕ, pos, negsuc, false, true, [], ◌∷◌, option_map, refl, Option, Some, None}
use Rattle.edr_base.specs.declared.refusals.Refusal.TheVariants.{NoLevels, NoSamples}
use Rattle.edr_axes.specs.declared.levels.Levels.TheVariants as levels
use Rattle.edr_wkt.specs.declared.geometry.Geometry.{Geometry}
use Rattle.edr_wkt.specs.declared.geometry.Geometry.TheVariants.{Line}
use Rattle.edr_chunk.specs.AllPlaces.{places}
use Rattle.covjson_value.specs.declared.domains.Domain.TheVariants as domain
use Rattle.edr_query.specs.declared.shapes.Shape.{Shape}
use Rattle.edr_query.specs.declared.shapes.Shape.TheVariants as shape
use Rattle.edr_select.specs.Selections.{needed}
use Rattle.edr_select.specs.Documents.{document}
use Rattle.edr_select.specs.Checks.{refused_query}
use Rattle.edr_select.proofs.RowData.{has, t0, t1, place, at, at_level, at_time, line, space, grids, on, ys, xs, flat, column, ask, only, one, frame}

abbrev along : Geometry → ℕ → Option ℕ → Shape
along geometry width height = shape.Corridor geometry (pos width) (option_map pos height)

-- LINESTRING(0 50,200 50)
abbrev between_rows : Geometry
between_rows = line (at 0 50 ∷ at 200 50 ∷ [])

-- the width is the whole one: its halves lie on both sides
whole_width : document (on flat) (ask (along between_rows 100 None) (only t1) None) ≡ frame (t1 ∷ []) ys xs (has 20 ∷ has 21 ∷ has 22 ∷ has 23 ∷ has 24 ∷ has 25 ∷ [])
unfolding places
whole_width = refl

a_metre_narrower : refused_query (grids (flat ∷ [])) (ask (along between_rows 99 None) (only t1) None) ≡ Some NoSamples
unfolding places
a_metre_narrower = refl

-- round its ends: LINESTRING(150 0,160 0)
round_the_ends : document (on flat) (ask (along (line (at 150 0 ∷ at 160 0 ∷ [])) 100 None) (only t0) None) ≡ frame (t0 ∷ []) (pos 0 ∷ []) (pos 100 ∷ pos 200 ∷ []) (has 11 ∷ has 12 ∷ [])
unfolding places
round_the_ends = refl

-- a line of two segments, one after the other; the frame's corner isn't selected: LINESTRING(0 0,0 100,100 100)
round_a_corner : document (on flat) (ask (along (line (at 0 0 ∷ at 0 100 ∷ at 100 100 ∷ [])) 0 None) (only t1) None)
    ≡ frame (t1 ∷ []) ys (pos 0 ∷ pos 100 ∷ []) (has 20 ∷ None ∷ has 23 ∷ has 24 ∷ [])
unfolding places
round_a_corner = refl

-- ---- m: the times from one end of the segment to the other, both included

-- LINESTRINGM(0 0 1704067200,200 0 1704070800)
times_of_the_ends : document (on flat) (ask (along (Line false true (at_time 0 0 t0 ∷ at_time 200 0 t1 ∷ [])) 0 None) None None)
    ≡ frame (t0 ∷ t1 ∷ []) (pos 0 ∷ []) xs (has 10 ∷ has 11 ∷ has 12 ∷ has 20 ∷ has 21 ∷ has 22 ∷ [])
unfolding places
times_of_the_ends = refl

-- each segment has times of its own: LINESTRINGM(0 0 1704067200,100 0 1704067201,200 100 1704070800)
times_of_each : document (on flat) (ask (along (Line false true (at_time 0 0 t0 ∷ at_time 100 0 (pos 1704067201) ∷ at_time 200 100 t1 ∷ [])) 0 None) None None)
    ≡ frame (t0 ∷ t1 ∷ []) ys xs (has 10 ∷ has 11 ∷ None ∷ None ∷ None ∷ None ∷ None ∷ has 21 ∷ None ∷ None ∷ None ∷ has 25 ∷ [])
unfolding places
times_of_each = refl

-- LINESTRINGM(100 0 1704067201,150 -1000 1704067202,150 -2000 1704070801): the first segment meets a node and no time, the second a time and no node
abbrev place_and_time_apart : Geometry
place_and_time_apart = Line false true (
    at_time 100 0 (pos 1704067201) ∷ record (place (pos 150) (negsuc 999)) { m = pos 1704067202 } ∷ record (place (pos 150) (negsuc 1999)) { m = pos 1704070801 } ∷ [])

one_segment_takes_all : refused_query (grids (flat ∷ [])) (ask (along place_and_time_apart 100 None) None None) ≡ Some NoSamples
unfolding places
one_segment_takes_all = refl

-- ---- levels: the height is the whole one

-- LINESTRING(0 0,0 0)
abbrev upright : Geometry
upright = line (at 0 0 ∷ at 0 0 ∷ [])

about_a_level : document (on column) (ask (along upright 0 (Some 20)) None (Some (levels.At (pos 10))))
    ≡ one space (domain.Grid (Some (t0 ∷ [])) (Some (pos 0 ∷ pos 10 ∷ pos 20 ∷ [])) (pos 0 ∷ []) (pos 0 ∷ [])) (has 5 ∷ None ∷ has 7 ∷ [])
unfolding places
about_a_level = refl

a_metre_lower : document (on column) (ask (along upright 0 (Some 19)) None (Some (levels.At (pos 10))))
    ≡ one space (domain.Grid (Some (t0 ∷ [])) (Some (pos 10 ∷ [])) (pos 0 ∷ []) (pos 0 ∷ [])) (None ∷ [])
unfolding places
a_metre_lower = refl

-- without a height `z` selects, and a height alone has no effect
without_height : document (on column) (ask (along upright 0 None) None (Some (levels.Between (pos 10) (pos 20))))
    ≡ one space (domain.Grid (Some (t0 ∷ [])) (Some (pos 10 ∷ pos 20 ∷ [])) (pos 0 ∷ []) (pos 0 ∷ [])) (None ∷ has 7 ∷ [])
unfolding places
without_height = refl

height_alone : document (on column) (ask (along upright 0 (Some 1)) None None)
    ≡ one space (domain.Grid (Some (t0 ∷ [])) (Some (pos 0 ∷ pos 10 ∷ pos 20 ∷ [])) (pos 0 ∷ []) (pos 0 ∷ [])) (has 5 ∷ None ∷ has 7 ∷ [])
unfolding places
height_alone = refl

height_without_levels : document (on flat) (ask (along between_rows 100 (Some 1)) (only t1) None) ≡ frame (t1 ∷ []) ys xs (has 20 ∷ has 21 ∷ has 22 ∷ has 23 ∷ has 24 ∷ has 25 ∷ [])
unfolding places
height_without_levels = refl

-- LINESTRING Z(0 0 5,0 0 8) of height 5: twice a level lies from 5 to 21
height_about_z : document (on column) (ask (along (Line true false (at_level 0 0 5 ∷ at_level 0 0 8 ∷ [])) 0 (Some 5)) None None)
    ≡ one space (domain.Grid (Some (t0 ∷ [])) (Some (pos 10 ∷ [])) (pos 0 ∷ []) (pos 0 ∷ [])) (None ∷ [])
unfolding places
height_about_z = refl

-- the same downwards, and from end to end
z_downwards : document (on column) (ask (along (Line true false (at_level 0 0 20 ∷ at_level 0 0 0 ∷ [])) 0 (Some 0)) None None)
    ≡ one space (domain.Grid (Some (t0 ∷ [])) (Some (pos 0 ∷ pos 10 ∷ pos 20 ∷ [])) (pos 0 ∷ []) (pos 0 ∷ [])) (has 5 ∷ None ∷ has 7 ∷ [])
unfolding places
z_downwards = refl

no_levels : refused_query (grids (flat ∷ [])) (ask (along (Line true false (at_level 0 50 0 ∷ at_level 200 50 0 ∷ [])) 100 (Some 0)) None None) ≡ Some NoLevels
unfolding places
no_levels = refl

tiles_by_level : needed (on column) (ask (along upright 0 (Some 20)) None (Some (levels.At (pos 20)))) ≡ 1 ∷ 2 ∷ []
unfolding places
tiles_by_level = refl
