-- Laws of places and of tiles, for the proofs of callers.
use Rattle.std.specs.Prelude.{◌≡◌, ℕ, ◌<◌, ◌≤◌, Bool, true, List, All, map, length}
use Rattle.std.specs.List.{slice_index_or, range_with_len, list_any}
use Rattle.edr_base.specs.Limits.{node_limit}
use Rattle.edr_chunk.specs.declared.shapes.GridShape.{GridShape}
use Rattle.edr_chunk.specs.declared.shapes.GridPlace.{GridPlace}
use Rattle.edr_chunk.specs.Places.{Within, IsShape, count, number}
use Rattle.edr_chunk.specs.AllPlaces.{places}
use Rattle.edr_chunk.specs.Tiles.{tile_shape, tile_place, tiles, tile_of}

-- a place of a shape that passes a test
pub record Found (test : GridPlace → Bool) (shape : GridShape) : Type 0 where
  pub place : GridPlace
  pub within : Within shape place
  pub passes : test place ≡ true

-- all places: their numbers are those from 0 on, and they are the places within the shape
pub record PlacesAreListed (shape : GridShape) : Type 0 where
  pub numbers : map (number shape) (places shape) ≡ range_with_len 0 (count shape)
  pub long : length (places shape) ≡ count shape
  pub within : All (Within shape) (places shape)
  pub listed : (place other : GridPlace) → Within shape place → slice_index_or (places shape) (number shape place) other ≡ place
  pub found : (test : GridPlace → Bool) → list_any test (places shape) ≡ true → Found test shape
  pub finds : (test : GridPlace → Bool) (place : GridPlace) → Within shape place → test place ≡ true → list_any test (places shape) ≡ true

-- what all places have, read at the number of one
abbrev pub ReadsByNumber : Type 0 → Type 0
ReadsByNumber A =
    (value_of : GridPlace → A) (shape : GridShape) (place : GridPlace) (default : A) → Within shape place
    → slice_index_or (map value_of (places shape)) (number shape place) default ≡ value_of place

-- a list that is read at the number of each place is the list
abbrev pub ReadsWhole : Type 0 → Type 0
ReadsWhole A =
    (values : List A) (shape : GridShape) (default : A) → length values ≡ count shape
    → map (λ place. slice_index_or values (number shape place) default) (places shape) ≡ values

-- what agrees within a shape agrees over all its places
abbrev pub AgreesWithin : Type 0 → Type 0
AgreesWithin A =
    (value_of other_of : GridPlace → A) (shape : GridShape) → ((place : GridPlace) → Within shape place → value_of place ≡ other_of place)
    → map value_of (places shape) ≡ map other_of (places shape)

-- tiles are told by their numbers, as places are
pub record TilesAreNumbered (shape : GridShape) : Type 0 where
  pub within : (place : GridPlace) → Within shape place → Within (tile_shape shape) (tile_place place)
  pub below : (place : GridPlace) → Within shape place → tile_of shape place < tiles shape
  pub once : (place other : GridPlace) → Within shape place → Within shape other → tile_of shape place ≡ tile_of shape other
      → tile_place place ≡ tile_place other
  pub coarse : IsShape shape → IsShape (tile_shape shape)
  pub few : IsShape shape → tiles shape ≤ count shape

-- a place whose tile has a number
pub record PlaceInTile (shape : GridShape) (tile : ℕ) : Type 0 where
  pub place : GridPlace
  pub within : Within shape place
  pub numbered : tile_of shape place ≡ tile

-- no tile is empty: each number below how many tiles there are is that of some place's tile
abbrev pub TilesHavePlaces : GridShape → Type 0
TilesHavePlaces shape = (tile : ℕ) → tile < tiles shape → PlaceInTile shape tile

-- no side is longer than a parameter may have nodes
pub record SidesAreSmall (shape : GridShape) : Type 0 where
  pub times : shape.times ≤ node_limit
  pub levels : shape.levels ≤ node_limit
  pub rows : shape.rows ≤ node_limit
  pub columns : shape.columns ≤ node_limit
