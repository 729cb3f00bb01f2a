-- What a position selects of small grids.
use Rattle.std.proofs.Common.{◌≡◌, pos, negsuc, false, true, List, [], ◌∷◌, refl, Some, None}
use Rattle.edr_base.specs.declared.places.Position.{Position}
use Rattle.edr_base.specs.declared.refusals.Refusal.TheVariants.{NoLevels, NoSamples}
use Rattle.edr_axes.specs.declared.times.Times.TheVariants as times
use Rattle.edr_axes.specs.declared.levels.Levels.TheVariants as levels
use Rattle.edr_wkt.specs.declared.geometry.Geometry.TheVariants.{Points}
use Rattle.edr_chunk.specs.AllPlaces.{places}
use Rattle.covjson_value.specs.declared.domains.Domain.TheVariants as domain
use Rattle.covjson_value.specs.declared.coverages.Document.TheVariants.{Many}
use Rattle.edr_query.specs.declared.pages.Page.TheVariants.{Ask}
use Rattle.edr_query.specs.declared.shapes.Shape.{Shape}
use Rattle.edr_query.specs.declared.shapes.Shape.TheVariants as shape
use Rattle.edr_select.specs.Documents.{document}
use Rattle.edr_select.specs.Refusals.{refused}
use Rattle.edr_select.proofs.RowData.{has, t0, t1, place, at, at_level, point, plane, space, edition_of, on, flat, column, ask, only, coverage, one}

abbrev near : Position → Shape
near p = shape.Position (point p)

abbrev near_each : List Position → Shape
near_each positions = shape.Position (Points true false false positions)

-- on a tie the lower value
tie_of_x : document (on flat) (ask (near (at 50 0)) (only t0) None) ≡ one plane (domain.Point (Some t0) None (pos 0) (pos 0)) (has 10 ∷ [])
unfolding places
tie_of_x = refl

tie_of_y : document (on flat) (ask (near (at 51 50)) (only t0) None) ≡ one plane (domain.Point (Some t0) None (pos 0) (pos 100)) (has 11 ∷ [])
unfolding places
tie_of_y = refl

a_metre_outside : refused (edition_of flat) (Ask (ask (near (place (negsuc 0) (pos 0))) (only t0) None)) ≡ Some NoSamples
unfolding places
a_metre_outside = refl

corner : document (on flat) (ask (near (at 200 100)) None None) ≡ one plane (domain.PointSeries (t0 ∷ t1 ∷ []) None (pos 100) (pos 200)) (has 15 ∷ has 25 ∷ [])
unfolding places
corner = refl

-- until half an hour past midnight
until_half_past : document (on flat) (ask (near (at 50 0)) (Some (times.Between None (Some (pos 1704069000)))) None)
    ≡ document (on flat) (ask (near (at 50 0)) (only t0) None)
unfolding places
until_half_past = refl

-- a time selects the same time alone, and none near it
no_such_time : refused (edition_of flat) (Ask (ask (near (at 50 0)) (only (pos 1704067800)) None)) ≡ Some NoSamples
unfolding places
no_such_time = refl

no_levels : refused (edition_of flat) (Ask (ask (near (at 0 0)) None (Some (levels.At (pos 0))))) ≡ Some NoLevels
unfolding places
no_levels = refl

-- ---- several points

-- MULTIPOINT(0 0,0 0,900 900): one node twice, and one point outside
repeat_and_outside : document (on flat) (ask (near_each (at 0 0 ∷ at 0 0 ∷ at 900 900 ∷ [])) (only t0) None) ≡ one plane (domain.MultiPoint (Some t0) false (at 0 0 ∷ [])) (has 10 ∷ [])
unfolding places
repeat_and_outside = refl

-- MULTIPOINT((200 100),(0 0)): by ascending y, then x
each_by_its_place : document (on flat) (ask (near_each (at 200 100 ∷ at 0 0 ∷ [])) None None)
    ≡ Many (coverage plane None (domain.PointSeries (t0 ∷ t1 ∷ []) None (pos 0) (pos 0)) (has 10 ∷ has 20 ∷ [])
    ∷ coverage plane None (domain.PointSeries (t0 ∷ t1 ∷ []) None (pos 100) (pos 200)) (has 15 ∷ has 25 ∷ []) ∷ [])
unfolding places
each_by_its_place = refl

-- ---- levels

profile : document (on column) (ask (near (at 0 0)) None None) ≡ one space (domain.VerticalProfile (Some t0) (pos 0 ∷ pos 10 ∷ pos 20 ∷ []) (pos 0) (pos 0)) (has 5 ∷ None ∷ has 7 ∷ [])
unfolding places
profile = refl

levels_of_a_series : document (on column) (ask (near (at 0 0)) None (Some (levels.Series (pos 2) (pos 0) (pos 20))))
    ≡ one space (domain.VerticalProfile (Some t0) (pos 0 ∷ pos 20 ∷ []) (pos 0) (pos 0)) (has 5 ∷ has 7 ∷ [])
unfolding places
levels_of_a_series = refl

missing_level : document (on column) (ask (near (at 0 0)) None (Some (levels.At (pos 10)))) ≡ one space (domain.Point (Some t0) (Some (pos 10)) (pos 0) (pos 0)) (None ∷ [])
unfolding places
missing_level = refl

no_such_level : refused (edition_of column) (Ask (ask (near (at 0 0)) None (Some (levels.At (pos 5))))) ≡ Some NoSamples
unfolding places
no_such_level = refl

-- POINT Z(0 0 20)
level_of_the_point : document (on column) (ask (shape.Position (Points false true false (at_level 0 0 20 ∷ []))) None None)
    ≡ one space (domain.Point (Some t0) (Some (pos 20)) (pos 0) (pos 0)) (has 7 ∷ [])
unfolding places
level_of_the_point = refl
