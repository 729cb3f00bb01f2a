-- What a box selects of small grids.
use Rattle.std.proofs.Common.{◌≡◌, ℕ, pos, codes, List, [], ◌∷◌, refl, Option, Some, None}
use Rattle.edr_base.specs.declared.places.Spot.{Spot}
use Rattle.edr_base.specs.declared.refusals.Refusal.TheVariants.{UnknownParameterName, NoLevels, NoSamples}
use Rattle.edr_axes.specs.declared.levels.Levels.TheVariants as levels
use Rattle.edr_chunk.specs.AllPlaces.{places}
use Rattle.covjson_value.specs.declared.domains.Domain.TheVariants as domain
use Rattle.covjson_value.specs.declared.coverages.Parameter.{Parameter}
use Rattle.covjson_value.specs.declared.coverages.NdArray.{NdArray}
use Rattle.covjson_value.specs.declared.coverages.Document.{Document}
use Rattle.covjson_value.specs.declared.coverages.Document.TheVariants.{One}
use Rattle.edr_edition.specs.Values.{InstanceValue}
use Rattle.edr_query.specs.declared.shapes.Shape.{Shape}
use Rattle.edr_query.specs.declared.shapes.Shape.TheVariants as shape
use Rattle.edr_query.specs.Values.{QueryValue}
use Rattle.edr_select.specs.Selections.{needed}
use Rattle.edr_select.specs.Documents.{document}
use Rattle.edr_select.specs.Checks.{refused_query}
use Rattle.edr_select.proofs.RowData.{has, t0, t1, spot, temp, plane, space, grids, on, ys, flat, column, ask, only, one, frame}

-- a box without and with levels
abbrev box : Spot → Spot → Shape
box lo hi = shape.Cube lo hi None

abbrev box_of_levels : Spot → Spot → ℕ → ℕ → Shape
box_of_levels lo hi low high = shape.Cube lo hi (Some (pos low, pos high))

borders : document (on flat) (ask (box (spot 0 0) (spot 100 100)) (only t0) None) ≡ frame (t0 ∷ []) ys (pos 0 ∷ pos 100 ∷ []) (has 10 ∷ has 11 ∷ has 13 ∷ None ∷ [])
unfolding places
borders = refl

a_metre_from_the_border : document (on flat) (ask (box (spot 1 1) (spot 199 100)) (only t1) None) ≡ frame (t1 ∷ []) (pos 100 ∷ []) (pos 100 ∷ []) (has 24 ∷ [])
unfolding places
a_metre_from_the_border = refl

between_nodes : refused_query (grids (flat ∷ [])) (ask (box (spot 1 1) (spot 99 99)) None None) ≡ Some NoSamples
unfolding places
between_nodes = refl

-- a box of one place
one_place : document (on flat) (ask (box (spot 200 0) (spot 200 0)) None None) ≡ frame (t0 ∷ t1 ∷ []) (pos 0 ∷ []) (pos 200 ∷ []) (has 12 ∷ has 22 ∷ [])
unfolding places
one_place = refl

-- ---- levels

with_levels : document (on column) (ask (box_of_levels (spot 0 0) (spot 0 0) 10 20) None None)
    ≡ one space (domain.Grid (Some (t0 ∷ [])) (Some (pos 10 ∷ pos 20 ∷ [])) (pos 0 ∷ []) (pos 0 ∷ [])) (None ∷ has 7 ∷ [])
unfolding places
with_levels = refl

without_levels : document (on column) (ask (box (spot 0 0) (spot 0 0)) None None)
    ≡ one space (domain.Grid (Some (t0 ∷ [])) (Some (pos 0 ∷ pos 10 ∷ pos 20 ∷ [])) (pos 0 ∷ []) (pos 0 ∷ [])) (has 5 ∷ None ∷ has 7 ∷ [])
unfolding places
without_levels = refl

by_z : document (on column) (ask (box (spot 0 0) (spot 0 0)) None (Some (levels.At (pos 10))))
    ≡ one space (domain.Grid (Some (t0 ∷ [])) (Some (pos 10 ∷ [])) (pos 0 ∷ []) (pos 0 ∷ [])) (None ∷ [])
unfolding places
by_z = refl

between_levels : refused_query (grids (column ∷ [])) (ask (box_of_levels (spot 0 0) (spot 0 0) 11 19) None None) ≡ Some NoSamples
unfolding places
between_levels = refl

no_levels : refused_query (grids (flat ∷ [])) (ask (box_of_levels (spot 0 0) (spot 100 100) 0 0) None None) ≡ Some NoLevels
unfolding places
no_levels = refl

tiles_by_level : needed (on column) (ask (box_of_levels (spot 0 0) (spot 0 0) 10 20) None None) ≡ 1 ∷ 2 ∷ []
unfolding places
tiles_by_level = refl

-- ---- parameters, and tiles by parameter

abbrev wind : Parameter
wind = record { id = codes "wind"; lang = codes "en"; label = codes "Wind"; unit = None }

-- two parameters on one row of two nodes
abbrev pair : InstanceValue
pair = record {
  id = codes "1";
  parameters = temp ∷ wind ∷ [];
  ts = t0 ∷ [];
  zs = None;
  ys = pos 0 ∷ [];
  xs = pos 0 ∷ pos 100 ∷ [];
  grid = record { shape = record { parameters = 2; times = 1; levels = 1; rows = 1; columns = 2 }; values = has 1 ∷ has 2 ∷ has 3 ∷ None ∷ [] };
}

abbrev row_of_two : Option (List (List ℕ)) → QueryValue
row_of_two names = record (ask (box (spot 0 0) (spot 100 0)) None None) { parameters = names }

abbrev row_of_values : List Parameter → List NdArray → Document
row_of_values parameters ranges = One (record {
  id = None;
  domain = domain.Grid (Some (t0 ∷ [])) None (pos 0 ∷ []) (pos 0 ∷ pos 100 ∷ []);
  referencing = plane;
  parameters = parameters;
  ranges = ranges;
})

all_parameters : document (on pair) (row_of_two None) ≡ row_of_values (temp ∷ wind ∷ []) (record { values = has 1 ∷ has 2 ∷ [] } ∷ record { values = has 3 ∷ None ∷ [] } ∷ [])
unfolding places
all_parameters = refl

-- in the order of their ids
asked_by_name : document (on pair) (row_of_two (Some (codes "wind" ∷ codes "temp" ∷ []))) ≡ document (on pair) (row_of_two None)
unfolding places
asked_by_name = refl

one_parameter : document (on pair) (row_of_two (Some (codes "wind" ∷ []))) ≡ row_of_values (wind ∷ []) (record { values = has 3 ∷ None ∷ [] } ∷ [])
unfolding places
one_parameter = refl

tiles_of_all : needed (on pair) (row_of_two None) ≡ 0 ∷ 1 ∷ []
unfolding places
tiles_of_all = refl

tile_of_one : needed (on pair) (row_of_two (Some (codes "wind" ∷ []))) ≡ 1 ∷ []
unfolding places
tile_of_one = refl

unknown_name : refused_query (grids (pair ∷ [])) (row_of_two (Some (codes "temp" ∷ codes "rain" ∷ []))) ≡ Some UnknownParameterName
unknown_name = refl
