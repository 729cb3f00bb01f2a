-- Which tiles of a wide grid and which blocks of long series hold a selected sample.
use Rattle.std.proofs.Common.{◌≡◌, ℕ, ℤ, ◌+◌, ◌*◌, ◌%◌, pos, false, true, codes, List, [], ◌∷◌, map, refl, Option, Some, None}
use Rattle.std.specs.List.{range_with_len}
use Rattle.edr_axes.specs.declared.times.Times.{Times}
use Rattle.edr_wkt.specs.declared.geometry.Geometry.TheVariants.{Points, Polygons}
use Rattle.edr_chunk.specs.AllPlaces.{places}
use Rattle.covjson_value.specs.declared.domains.Domain.TheVariants as domain
use Rattle.covjson_value.specs.declared.coverages.Document.{Document}
use Rattle.covjson_value.specs.declared.coverages.Document.TheVariants.{One}
use Rattle.edr_station.specs.Stations.{StationValue}
use Rattle.edr_edition.specs.Values.{InstanceValue}
use Rattle.edr_edition.specs.Stores.{Subject}
use Rattle.edr_query.specs.declared.shapes.Shape.TheVariants as shape
use Rattle.edr_query.specs.Values.{QueryValue}
use Rattle.edr_select.specs.Selections.{needed}
use Rattle.edr_select.specs.Documents.{document}
use Rattle.edr_select.proofs.RowData.{has, t0, hour, at, spot, line, polygon, temp, plane, on, among, ask, ask_sites, only, coverage}

-- 65 nodes, 100 metres apart: the last one stands in a second tile
abbrev wide : InstanceValue
wide = record {
  id = codes "1";
  parameters = temp ∷ [];
  ts = t0 ∷ [];
  zs = None;
  ys = pos 0 ∷ [];
  xs = map (λ k. pos (k * 100)) (range_with_len 0 65);
  grid = record { shape = record { parameters = 1; times = 1; levels = 1; rows = 1; columns = 65 }; values = map has (range_with_len 0 65) };
}

-- POLYGON((0 0,300 0,0 300,0 0))
area_in_the_first : needed (on wide) (ask (shape.Area (Polygons false false false (polygon ((at 0 0 ∷ at 300 0 ∷ at 0 300 ∷ at 0 0 ∷ []) ∷ []) ∷ []))) None None) ≡ 0 ∷ []
unfolding places
area_in_the_first = refl

-- MULTIPOINT((6400 0),(0 0))
first_and_last : needed (on wide) (ask (shape.Position (Points true false false (at 6400 0 ∷ at 0 0 ∷ []))) None None) ≡ 0 ∷ 1 ∷ []
unfolding places
first_and_last = refl

box_up_to_the_border : needed (on wide) (ask (shape.Cube (spot 0 0) (spot 6399 0) None) None None) ≡ 0 ∷ []
unfolding places
box_up_to_the_border = refl

box_over_the_border : needed (on wide) (ask (shape.Cube (spot 6300 0) (spot 6400 0) None) None None) ≡ 0 ∷ 1 ∷ []
unfolding places
box_over_the_border = refl

-- LINESTRING(6400 0,6500 0)
corridor_in_the_second : needed (on wide) (ask (shape.Corridor (line (at 6400 0 ∷ at 6500 0 ∷ [])) (pos 0) None) None None) ≡ 1 ∷ []
unfolding places
corridor_in_the_second = refl

-- ---- stations of 300 hours, one after the other: each has two blocks

abbrev series : List ℕ → ℕ → StationValue
series id k = record {
  id = id;
  label = id;
  x = pos (k * 1000);
  y = pos (k * 500);
  ts = map hour (range_with_len 0 300);
  zs = None;
  series = map (λ m. has ((7 + k + m) % 10)) (range_with_len 0 300) ∷ [];
}

abbrev two : Subject
two = among (series (codes "s00") 0 ∷ series (codes "s01") 1 ∷ [])

abbrev located : List ℕ → Option Times → QueryValue
located id when = ask_sites (shape.Location id) when None

blocks_of_the_first : needed two (located (codes "s00") None) ≡ 0 ∷ 1 ∷ []
blocks_of_the_first = refl

blocks_of_the_second : needed two (located (codes "s01") None) ≡ 2 ∷ 3 ∷ []
blocks_of_the_second = refl

last_of_a_block : needed two (located (codes "s01") (only (hour 255))) ≡ 2 ∷ []
last_of_a_block = refl

first_of_the_next : needed two (located (codes "s01") (only (hour 256))) ≡ 3 ∷ []
first_of_the_next = refl

abbrev second_at : ℤ → ℕ → Document
second_at time value = One (coverage plane (Some (codes "s01")) (domain.Point (Some time) None (pos 500) (pos 1000)) (has value ∷ []))

value_of_the_last : document two (located (codes "s01") (only (hour 255))) ≡ second_at (hour 255) 3
value_of_the_last = refl

value_of_the_next : document two (located (codes "s01") (only (hour 256))) ≡ second_at (hour 256) 4
value_of_the_next = refl
