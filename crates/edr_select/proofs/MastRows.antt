-- What queries select of a station with levels.
use Rattle.std.proofs.Common.{◌≡◌, ℤ, pos, false, true, codes, List, [], ◌∷◌, map, refl, Option, Some, None}
use Rattle.std.specs.List.{range_with_len}
use Rattle.edr_base.specs.declared.refusals.Refusal.TheVariants.{NoSamples}
use Rattle.edr_axes.specs.declared.times.Times.{Times}
use Rattle.edr_axes.specs.declared.levels.Levels.{Levels}
use Rattle.edr_axes.specs.declared.levels.Levels.TheVariants as levels
use Rattle.edr_wkt.specs.declared.geometry.Geometry.{Geometry}
use Rattle.edr_wkt.specs.declared.geometry.Geometry.TheVariants.{Points, Line}
use Rattle.covjson_value.specs.declared.domains.Domain.{Domain}
use Rattle.covjson_value.specs.declared.domains.Domain.TheVariants as domain
use Rattle.covjson_value.specs.declared.coverages.Coverage.{Coverage}
use Rattle.covjson_value.specs.declared.coverages.Document.TheVariants.{One, Many}
use Rattle.edr_station.specs.Stations.{StationValue}
use Rattle.edr_edition.specs.Stores.{Subject}
use Rattle.edr_query.specs.declared.shapes.Shape.TheVariants as shape
use Rattle.edr_query.specs.Values.{QueryValue}
use Rattle.edr_station.specs.Blocks.{blocks_of}
use Rattle.edr_select.specs.Selections.{needed}
use Rattle.edr_select.specs.Documents.{document}
use Rattle.edr_select.specs.Checks.{refused_query}
use Rattle.edr_select.proofs.RowData.{has, t0, t1, hour, at_level, at_both, spot, space, sites, among, ask_sites, only, coverage}

-- two times and two levels; the last time lacks the lower one
abbrev mast : StationValue
mast = record {
  id = codes "M";
  label = codes "Mast";
  x = pos 0;
  y = pos 0;
  ts = t0 ∷ t1 ∷ [];
  zs = Some (pos 10 ∷ pos 50 ∷ []);
  series = (has 1 ∷ has 2 ∷ None ∷ has 4 ∷ []) ∷ [];
}

abbrev alone : Subject
alone = among (mast ∷ [])

abbrev located : Option Times → Option Levels → QueryValue
located = ask_sites (shape.Location (codes "M"))

abbrev of_mast : Domain → List (Option ℤ) → Coverage
of_mast over values = coverage space (Some (codes "M")) over values

all_samples : document alone (located None None)
    ≡ One (of_mast (domain.Grid (Some (t0 ∷ t1 ∷ [])) (Some (pos 10 ∷ pos 50 ∷ [])) (pos 0 ∷ []) (pos 0 ∷ [])) (has 1 ∷ has 2 ∷ None ∷ has 4 ∷ []))
all_samples = refl

one_level : document alone (located None (Some (levels.At (pos 50)))) ≡ One (of_mast (domain.PointSeries (t0 ∷ t1 ∷ []) (Some (pos 50)) (pos 0) (pos 0)) (has 2 ∷ has 4 ∷ []))
one_level = refl

one_time : document alone (located (only t1) None) ≡ One (of_mast (domain.VerticalProfile (Some t1) (pos 10 ∷ pos 50 ∷ []) (pos 0) (pos 0)) (None ∷ has 4 ∷ []))
one_time = refl

one_time_and_level : document alone (located (only t0) (Some (levels.At (pos 10)))) ≡ One (of_mast (domain.Point (Some t0) (Some (pos 10)) (pos 0) (pos 0)) (has 1 ∷ []))
one_time_and_level = refl

no_such_level : refused_query (sites (mast ∷ [])) (located None (Some (levels.At (pos 30)))) ≡ Some NoSamples
no_such_level = refl

-- POINT Z(0 0 10): the z of the point is a single level
level_of_the_point : document alone (ask_sites (shape.Radius (Points false true false (at_level 0 0 10 ∷ [])) (pos 0)) (only t1) None)
    ≡ Many (of_mast (domain.Point (Some t1) (Some (pos 10)) (pos 0) (pos 0)) (None ∷ []) ∷ [])
level_of_the_point = refl

in_a_box_of_levels : document alone (ask_sites (shape.Cube (spot 0 0) (spot 0 0) (Some (pos 11, pos 50))) None None)
    ≡ Many (of_mast (domain.PointSeries (t0 ∷ t1 ∷ []) (Some (pos 50)) (pos 0) (pos 0)) (has 2 ∷ has 4 ∷ []) ∷ [])
in_a_box_of_levels = refl

-- ---- corridors

-- LINESTRING Z(0 0 20,0 0 30) of height 20: from 10 to 40
height_about_z : document alone (ask_sites (shape.Corridor (Line true false (at_level 0 0 20 ∷ at_level 0 0 30 ∷ [])) (pos 0) (Some (pos 20))) None None)
    ≡ Many (of_mast (domain.PointSeries (t0 ∷ t1 ∷ []) (Some (pos 10)) (pos 0) (pos 0)) (has 1 ∷ None ∷ []) ∷ [])
height_about_z = refl

-- LINESTRING ZM(0 0 50 1704067200,0 0 50 1704067200,0 0 10 1704067201,0 0 10 1704070800) of height 0
abbrev down : Geometry
down = Line true true (at_both 0 0 50 t0 ∷ at_both 0 0 50 t0 ∷ at_both 0 0 10 (pos 1704067201) ∷ at_both 0 0 10 t1 ∷ [])

-- times and levels that are no product: the first time at both levels, the second at the lower one
no_product : document alone (ask_sites (shape.Corridor down (pos 0) (Some (pos 0))) None None)
    ≡ Many (of_mast (domain.Grid (Some (t0 ∷ t1 ∷ [])) (Some (pos 10 ∷ pos 50 ∷ [])) (pos 0 ∷ []) (pos 0 ∷ [])) (has 1 ∷ has 2 ∷ None ∷ None ∷ []) ∷ [])
no_product = refl

-- ---- blocks of 256 values, in the order time, level

abbrev long : StationValue
long = record mast { ts = map hour (range_with_len 0 200); series = map has (range_with_len 0 400) ∷ [] }

two_blocks : blocks_of long ≡ 2
two_blocks = refl

last_of_the_first : needed (among (long ∷ [])) (located (only (hour 127)) None) ≡ 0 ∷ []
last_of_the_first = refl

first_of_the_second : needed (among (long ∷ [])) (located (only (hour 128)) None) ≡ 1 ∷ []
first_of_the_second = refl
