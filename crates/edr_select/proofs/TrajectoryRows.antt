-- What a trajectory selects of small grids.
use Rattle.std.proofs.Common.{◌≡◌, ℕ, ℤ, pos, negsuc, false, true, List, [], ◌∷◌, refl, Option, Some, None}
use Rattle.edr_base.specs.declared.places.Position.{Position}
use Rattle.edr_base.specs.declared.refusals.Refusal.TheVariants.{NoLevels, NoSamples}
use Rattle.edr_axes.specs.declared.levels.Levels.TheVariants as levels
use Rattle.edr_wkt.specs.declared.geometry.Geometry.{Geometry}
use Rattle.edr_wkt.specs.declared.geometry.Geometry.TheVariants.{Line}
use Rattle.edr_chunk.specs.AllPlaces.{places}
use Rattle.covjson_value.specs.declared.domains.Domain.TheVariants as domain
use Rattle.covjson_value.specs.declared.coverages.Document.{Document}
use Rattle.covjson_value.specs.declared.coverages.Document.TheVariants.{Many}
use Rattle.edr_query.specs.declared.shapes.Shape.{Shape}
use Rattle.edr_query.specs.declared.shapes.Shape.TheVariants as shape
use Rattle.edr_select.specs.Selections.{needed}
use Rattle.edr_select.specs.Documents.{document}
use Rattle.edr_select.specs.Checks.{refused_query}
use Rattle.edr_select.proofs.RowData.{has, t0, t1, place, at, at_level, at_time, at_both, line, plane, space, grids, on, flat, column, ask, only, coverage, one}

abbrev through : Geometry → Shape
through geometry = shape.Trajectory geometry

-- a reply without levels
abbrev route : List Position → List (Option ℤ) → Document
route steps values = one plane (domain.Trajectory None false steps) values

abbrev step : ℕ → ℕ → ℤ → Position
step x y t = at_time x y t

-- ---- vertices without a time of their own

-- LINESTRING(0 0,10 0,200 100,900 0): the second is nearest to the same node as the first, and the last one is outside
repeats_and_outside : document (on flat) (ask (through (line (at 0 0 ∷ at 10 0 ∷ at 200 100 ∷ at 900 0 ∷ []))) (only t0) None)
    ≡ route (step 0 0 t0 ∷ step 200 100 t0 ∷ []) (has 10 ∷ has 15 ∷ [])
unfolding places
repeats_and_outside = refl

-- LINESTRING(50 50,51 51): on a tie the lower value
ties : document (on flat) (ask (through (line (at 50 50 ∷ at 51 51 ∷ []))) (only t1) None) ≡ route (step 0 0 t1 ∷ step 100 100 t1 ∷ []) (has 20 ∷ has 24 ∷ [])
unfolding places
ties = refl

-- a node that is met again later stands again: LINESTRING(0 0,200 0,0 0)
there_and_back : document (on flat) (ask (through (line (at 0 0 ∷ at 200 0 ∷ at 0 0 ∷ []))) (only t0) None) ≡ route (step 0 0 t0 ∷ step 200 0 t0 ∷ step 0 0 t0 ∷ []) (has 10 ∷ has 12 ∷ has 10 ∷ [])
unfolding places
there_and_back = refl

-- vertices outside are left out, and their neighbours become neighbours: LINESTRING(0 0,-1 0,0 0,100 101,100 100)
outside_between : document (on flat) (ask (through (line (at 0 0 ∷ place (negsuc 0) (pos 0) ∷ at 0 0 ∷ at 100 101 ∷ at 100 100 ∷ []))) (only t0) None)
    ≡ route (step 0 0 t0 ∷ step 100 100 t0 ∷ []) (has 10 ∷ None ∷ [])
unfolding places
outside_between = refl

all_outside : refused_query (grids (flat ∷ [])) (ask (through (line (at 201 0 ∷ at 900 0 ∷ []))) None None) ≡ Some NoSamples
unfolding places
all_outside = refl

-- LINESTRING(0 0,200 0): one for each time
each_time : document (on flat) (ask (through (line (at 0 0 ∷ at 200 0 ∷ []))) None None)
    ≡ Many (coverage plane None (domain.Trajectory None false (step 0 0 t0 ∷ step 200 0 t0 ∷ [])) (has 10 ∷ has 12 ∷ [])
    ∷ coverage plane None (domain.Trajectory None false (step 0 0 t1 ∷ step 200 0 t1 ∷ [])) (has 20 ∷ has 22 ∷ []) ∷ [])
unfolding places
each_time = refl

-- ---- m is the time of a vertex

-- LINESTRINGM(0 0 1704067200,200 100 1704070800)
own_times : document (on flat) (ask (through (Line false true (step 0 0 t0 ∷ step 200 100 t1 ∷ []))) None None)
    ≡ route (step 0 0 t0 ∷ step 200 100 t1 ∷ []) (has 10 ∷ has 25 ∷ [])
unfolding places
own_times = refl

-- half an hour is a tie, and a second later is nearer to the hour: LINESTRINGM(0 0 1704069000,0 0 1704069001)
ties_of_times : document (on flat) (ask (through (Line false true (step 0 0 (pos 1704069000) ∷ step 0 0 (pos 1704069001) ∷ []))) None None)
    ≡ route (step 0 0 t0 ∷ step 0 0 t1 ∷ []) (has 10 ∷ has 20 ∷ [])
unfolding places
ties_of_times = refl

-- times before the first and after the last are outside: LINESTRINGM(0 0 1704067199,100 0 1704067200,200 0 1704070801)
times_outside : document (on flat) (ask (through (Line false true (step 0 0 (pos 1704067199) ∷ step 100 0 t0 ∷ step 200 0 (pos 1704070801) ∷ []))) None None)
    ≡ route (step 100 0 t0 ∷ []) (has 11 ∷ [])
unfolding places
times_outside = refl

-- ---- levels

-- LINESTRING Z(0 0 15,0 0 20): 15 is a tie
own_levels : document (on column) (ask (through (Line true false (at_level 0 0 15 ∷ at_level 0 0 20 ∷ []))) None None)
    ≡ one space (domain.Trajectory None true (at_both 0 0 10 t0 ∷ at_both 0 0 20 t0 ∷ [])) (None ∷ has 7 ∷ [])
unfolding places
own_levels = refl

-- LINESTRING Z(0 0 16,0 0 21): above the highest level
levels_outside : document (on column) (ask (through (Line true false (at_level 0 0 16 ∷ at_level 0 0 21 ∷ []))) None None)
    ≡ one space (domain.Trajectory None true (at_both 0 0 20 t0 ∷ [])) (has 7 ∷ [])
unfolding places
levels_outside = refl

-- LINESTRING ZM(0 0 0 1704067200,0 0 20 1704067200)
own_times_and_levels : document (on column) (ask (through (Line true true (at_both 0 0 0 t0 ∷ at_both 0 0 20 t0 ∷ []))) None None)
    ≡ one space (domain.Trajectory None true (at_both 0 0 0 t0 ∷ at_both 0 0 20 t0 ∷ [])) (has 5 ∷ has 7 ∷ [])
unfolding places
own_times_and_levels = refl

-- without z, one for each level of `z`
each_level : document (on column) (ask (through (line (at 0 0 ∷ at 0 0 ∷ []))) None (Some (levels.Series (pos 2) (pos 0) (pos 20))))
    ≡ Many (coverage space None (domain.Trajectory (Some (pos 0)) false (step 0 0 t0 ∷ [])) (has 5 ∷ [])
    ∷ coverage space None (domain.Trajectory (Some (pos 20)) false (step 0 0 t0 ∷ [])) (has 7 ∷ []) ∷ [])
unfolding places
each_level = refl

one_level : document (on column) (ask (through (line (at 0 0 ∷ at 0 0 ∷ []))) None (Some (levels.At (pos 20)))) ≡ one space (domain.Trajectory (Some (pos 20)) false (step 0 0 t0 ∷ [])) (has 7 ∷ [])
unfolding places
one_level = refl

no_levels : refused_query (grids (flat ∷ [])) (ask (through (Line true false (at_level 0 0 0 ∷ at_level 200 0 0 ∷ []))) None None) ≡ Some NoLevels
unfolding places
no_levels = refl

-- ---- tiles

tiles_of_both_times : needed (on flat) (ask (through (Line false true (step 0 0 t0 ∷ step 200 100 t1 ∷ []))) None None) ≡ 0 ∷ 1 ∷ []
unfolding places
tiles_of_both_times = refl

tiles_by_level : needed (on column) (ask (through (Line true false (at_level 0 0 20 ∷ at_level 0 0 0 ∷ []))) None None) ≡ 0 ∷ 2 ∷ []
unfolding places
tiles_by_level = refl
