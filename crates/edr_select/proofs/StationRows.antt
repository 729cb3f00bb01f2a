-- What queries select of a few stations without levels.
use Rattle.std.proofs.Common.{◌≡◌, ℕ, ℤ, pos, false, true, codes, [], ◌∷◌, refl, Some, None}
use Rattle.edr_base.specs.declared.refusals.Refusal.TheVariants.{NoLevels, NoSamples}
use Rattle.edr_axes.specs.declared.times.Times.TheVariants as times
use Rattle.edr_axes.specs.declared.levels.Levels.TheVariants as levels
use Rattle.edr_wkt.specs.declared.geometry.Geometry.TheVariants.{Line, Polygons}
use Rattle.covjson_value.specs.declared.domains.Domain.TheVariants as domain
use Rattle.covjson_value.specs.declared.coverages.Coverage.{Coverage}
use Rattle.covjson_value.specs.declared.coverages.Document.TheVariants.{One, Many}
use Rattle.edr_station.specs.Stations.{StationValue}
use Rattle.edr_edition.specs.Stores.{Subject}
use Rattle.edr_query.specs.declared.shapes.Shape.{Shape}
use Rattle.edr_query.specs.declared.shapes.Shape.TheVariants as shape
use Rattle.edr_select.specs.Selections.{needed}
use Rattle.edr_select.specs.Documents.{document}
use Rattle.edr_select.specs.Checks.{refused_query}
use Rattle.edr_select.proofs.RowData.{has, t0, t1, at, at_time, spot, point, line, polygon, plane, sites, among, ask_sites, only, coverage}

-- A at 0, 0 has two times, B at 100, 0 has the second one alone
abbrev alpha : StationValue
alpha = record {
  id = codes "A";
  label = codes "Alpha";
  x = pos 0;
  y = pos 0;
  ts = t0 ∷ t1 ∷ [];
  zs = None;
  series = (has 1 ∷ has 2 ∷ []) ∷ [];
}

abbrev beta : StationValue
beta = record { id = codes "B"; label = codes "Beta"; x = pos 100; y = pos 0; ts = t1 ∷ []; zs = None; series = (has 3 ∷ []) ∷ [] }

abbrev both : Subject
both = among (alpha ∷ beta ∷ [])

-- the coverages of their replies
abbrev alpha_series : Coverage
alpha_series = coverage plane (Some (codes "A")) (domain.PointSeries (t0 ∷ t1 ∷ []) None (pos 0) (pos 0)) (has 1 ∷ has 2 ∷ [])

abbrev alpha_point : ℤ → ℕ → Coverage
alpha_point time value = coverage plane (Some (codes "A")) (domain.Point (Some time) None (pos 0) (pos 0)) (has value ∷ [])

abbrev beta_point : Coverage
beta_point = coverage plane (Some (codes "B")) (domain.Point (Some t1) None (pos 0) (pos 100)) (has 3 ∷ [])

abbrev within : ℕ → Shape
within metres = shape.Radius (point (at 0 0)) (pos metres)

-- ---- a collection of coverages, by the ids of the stations

within_a_radius : document both (ask_sites (within 100) None None) ≡ Many (alpha_series ∷ beta_point ∷ [])
within_a_radius = refl

-- also of one station: B is a metre too far
a_metre_less : document both (ask_sites (within 99) None None) ≡ Many (alpha_series ∷ [])
a_metre_less = refl

-- a station without a selected sample is left out: B hasn't the first time
at_the_first_time : document both (ask_sites (within 100) (only t0) None) ≡ Many (alpha_point t0 1 ∷ [])
at_the_first_time = refl

at_the_second_time : document both (ask_sites (within 100) (only t1) None) ≡ Many (alpha_point t1 2 ∷ beta_point ∷ [])
at_the_second_time = refl

-- POLYGON((0 0,100 0,100 100,0 0)): at its vertices
in_an_area : document both (ask_sites (shape.Area (Polygons false false false (polygon ((at 0 0 ∷ at 100 0 ∷ at 100 100 ∷ at 0 0 ∷ []) ∷ []) ∷ []))) None None)
    ≡ Many (alpha_series ∷ beta_point ∷ [])
in_an_area = refl

in_a_box : document both (ask_sites (shape.Cube (spot 1 0) (spot 100 0) None) None None) ≡ Many (beta_point ∷ [])
in_a_box = refl

-- LINESTRING(50 10,50 0): B is as far from its end as A
along_a_line : document both (ask_sites (shape.Corridor (line (at 50 10 ∷ at 50 0 ∷ [])) (pos 100) None) None None) ≡ Many (alpha_series ∷ beta_point ∷ [])
along_a_line = refl

-- LINESTRING M(0 0 1704067200,50 0 1704067200,100 0 1704070800): each station by its own segment
along_a_line_in_time : document both (ask_sites (shape.Corridor (Line false true (at_time 0 0 t0 ∷ at_time 50 0 t0 ∷ at_time 100 0 t1 ∷ [])) (pos 0) None) None None)
    ≡ Many (alpha_point t0 1 ∷ beta_point ∷ [])
along_a_line_in_time = refl

no_station_there : refused_query (sites (alpha ∷ beta ∷ [])) (ask_sites (shape.Cube (spot 1 1) (spot 99 99) None) None None) ≡ Some NoSamples
no_station_there = refl

-- ---- one station

by_id : document both (ask_sites (shape.Location (codes "B")) None None) ≡ One beta_point
by_id = refl

series_by_id : document both (ask_sites (shape.Location (codes "A")) None None) ≡ One alpha_series
series_by_id = refl

until_the_first_time : document both (ask_sites (shape.Location (codes "A")) (Some (times.Between None (Some t0))) None) ≡ One (alpha_point t0 1)
until_the_first_time = refl

without_the_first_time : refused_query (sites (alpha ∷ beta ∷ [])) (ask_sites (shape.Location (codes "B")) (only t0) None) ≡ Some NoSamples
without_the_first_time = refl

no_levels : refused_query (sites (alpha ∷ beta ∷ [])) (ask_sites (shape.Location (codes "B")) None (Some (levels.At (pos 0)))) ≡ Some NoLevels
no_levels = refl

-- ---- blocks: one for each station and parameter, or several

blocks_of_both : needed both (ask_sites (within 100) None None) ≡ 0 ∷ 1 ∷ []
blocks_of_both = refl

block_of_the_second : needed both (ask_sites (shape.Location (codes "B")) None None) ≡ 1 ∷ []
block_of_the_second = refl

no_block : needed both (ask_sites (shape.Location (codes "B")) (only t0) None) ≡ []
no_block = refl
