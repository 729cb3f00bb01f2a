-- How tiles are kept: for private clauses.
use Rattle.std.specs.Prelude.{◌≡◌, ℕ, ℤ, ◌+◌, ◌*◌, ◌-◌, ◌/◌, ◌%◌, ◌^◌, ◌<◌, min, List, [], length, map, Option, None}
use Rattle.std.specs.List.{slice_index_or, range_with_len, flat_map}
use Rattle.edr_chunk.specs.declared.shapes.GridShape.{GridShape}
use Rattle.edr_chunk.specs.declared.shapes.GridPlace.{GridPlace}
use Rattle.edr_chunk.specs.RowMajor.{place_in_row}
use Rattle.edr_chunk.specs.Places.{Within, count, number, IsShape}
use Rattle.edr_chunk.specs.AllPlaces.{at}
use Rattle.edr_chunk.specs.Tiles.{tile_side, with_parameters, tile_place, tiles, tile_of, tile_height, tile_width}
use Rattle.edr_base.specs.Limits.{HasSample}

-- one parameter of a shape, and a shape with one more
abbrev pub one_of : GridShape → GridShape
one_of shape = with_parameters shape 1

abbrev pub one_more : GridShape → GridShape
one_more shape = with_parameters shape (shape.parameters + 1)

-- the value so many columns behind a place
abbrev pub row_value : GridShape → List (Option ℤ) → GridPlace → ℕ → Option ℤ
row_value shape values place column =
    slice_index_or values (number shape (at place.parameter place.t place.z place.y (place.x + column))) None

-- the first place of a row of a tile
abbrev pub row_start : GridPlace → ℕ → GridPlace
row_start tile row = at tile.parameter tile.t tile.z (place_in_row tile.y tile_side row) (tile.x * tile_side)

-- the values of a tile, row by row
abbrev pub cut_values : GridShape → List (Option ℤ) → GridPlace → List (Option ℤ)
cut_values shape values tile =
    flat_map (λ row. map (row_value shape values (row_start tile row)) (range_with_len 0 (tile_width shape tile)))
    (range_with_len 0 (tile_height shape tile))

-- where a place's value stands in its tile, and what kept tiles have at a place
abbrev pub inner : GridShape → GridPlace → ℕ
inner shape place = place_in_row (place.y % tile_side) (min (shape.columns - place.x / tile_side * tile_side) tile_side) (place.x % tile_side)

abbrev pub stored : GridShape → List (List (Option ℤ)) → GridPlace → Option ℤ
stored shape kept place = slice_index_or (slice_index_or kept (tile_of shape place) []) (inner shape place) None

-- tiles are kept as a shape asks, which may have no parameter yet: each is whole, and its values are samples
pub record AreTiles (shape : GridShape) (kept : List (List (Option ℤ))) : Type 0 where
  pub one : IsShape (one_of shape)
  pub fits : count shape < 2 ^ 64
  pub many : length kept ≡ tiles shape
  pub long : (place : GridPlace) → Within shape place
      → length (slice_index_or kept (tile_of shape place) []) ≡ tile_height shape (tile_place place) * tile_width shape (tile_place place)
  pub samples : (place : GridPlace) → Within shape place → HasSample (stored shape kept place)

-- and the shape has at least one parameter
pub record IsPacked (shape : GridShape) (kept : List (List (Option ℤ))) : Type 0 where
  pub sides : IsShape shape
  pub stand : AreTiles shape kept

-- the first tiles have the values of a list
pub record Filled (shape : GridShape) (values : List (Option ℤ)) (kept : List (List (Option ℤ))) (filled : ℕ) : Type 0 where
  pub many : length kept ≡ filled
  pub each : (place : GridPlace) → Within shape place → tile_of shape place < filled
      → slice_index_or kept (tile_of shape place) [] ≡ cut_values shape values (tile_place place)
