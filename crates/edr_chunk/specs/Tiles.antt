-- The tiles of a grid: 64 by 64 nodes of one parameter, time and level, fewer at the last row and the last column of tiles.
use Rattle.std.specs.Prelude.{◌≡◌, ℕ, ℤ, ◌+◌, ◌*◌, ◌-◌, ◌/◌, ◌<◌, ◌≤◌, min, List, length, Option, None}
use Rattle.std.specs.List.{slice_index_or}
use Rattle.edr_chunk.specs.declared.shapes.GridShape.{GridShape}
use Rattle.edr_chunk.specs.declared.shapes.GridPlace.{GridPlace}
use Rattle.edr_chunk.specs.RowMajor.{place_in_row}
use Rattle.edr_chunk.specs.Places.{Within, count, number}
use Rattle.edr_chunk.specs.Grids.{Values, value}

-- a shape with so many parameters
abbrev pub with_parameters : GridShape → ℕ → GridShape
with_parameters shape parameters = record {
  parameters = parameters;
  times = shape.times;
  levels = shape.levels;
  rows = shape.rows;
  columns = shape.columns;
}

-- how many rows and how many columns of nodes a tile has at most
abbrev pub tile_side : ℕ
tile_side = 64

-- how many tiles stand along an axis of so many nodes
abbrev pub tiles_along : ℕ → ℕ
tiles_along nodes = (nodes + (tile_side - 1)) / tile_side

-- how many parameters, times, levels, rows of tiles and columns of tiles there are
abbrev pub tile_shape : GridShape → GridShape
tile_shape shape = record {
  parameters = shape.parameters;
  times = shape.times;
  levels = shape.levels;
  rows = tiles_along shape.rows;
  columns = tiles_along shape.columns;
}

-- where the tile of a place stands among them
abbrev pub tile_place : GridPlace → GridPlace
tile_place place = record { parameter = place.parameter; t = place.t; z = place.z; y = place.y / tile_side; x = place.x / tile_side }

-- how many tiles there are, and the number of a place's tile: in the order parameter, t, z, row and column of tiles
abbrev pub tiles : GridShape → ℕ
tiles shape = count (tile_shape shape)

abbrev pub tile_of : GridShape → GridPlace → ℕ
tile_of shape place = number (tile_shape shape) (tile_place place)

-- how many rows and columns of the grid the tile at a place among the tiles has: a side, or what is left at the last row and
-- the last column of tiles
abbrev pub tile_height : GridShape → GridPlace → ℕ
tile_height shape corner = min (shape.rows - corner.y * tile_side) tile_side

abbrev pub tile_width : GridShape → GridPlace → ℕ
tile_width shape corner = min (shape.columns - corner.x * tile_side) tile_side

-- the place of a node of that tile, so many rows and columns behind the tile's first node
abbrev pub node_at : GridPlace → ℕ → ℕ → GridPlace
node_at corner down right = record { parameter = corner.parameter; t = corner.t; z = corner.z; y = place_in_row corner.y tile_side down; x = place_in_row corner.x tile_side right }

-- an opened tile: the grid's row and column of its first value, how many columns it has, and its values row by row
pub record TileValue : Type 0 where
  pub row : ℕ
  pub column : ℕ
  pub width : ℕ
  pub values : List (Option ℤ)

-- where the value of a node stands, which is told by its row and its column of the grid
abbrev pub place_in_tile : TileValue → ℕ → ℕ → ℕ
place_in_tile tile row column = place_in_row (row - tile.row) tile.width (column - tile.column)

-- a node lies in a tile
abbrev pub LiesIn : TileValue → ℕ → ℕ → Type 0
LiesIn tile row column =
    (tile.row ≤ row) × (tile.column ≤ column) × (column < tile.column + tile.width)
    × (place_in_tile tile row column < length tile.values)

-- the tile's value at that node
abbrev pub value_in : TileValue → ℕ → ℕ → Option ℤ
value_in tile row column = slice_index_or tile.values (place_in_tile tile row column) None

-- what the tile of a number is: it stands at the place of that number among the tiles, begins at the row and the column of
-- the first node there, is as wide as the grid has columns there, has one value for each of its nodes and no more, and each
-- is the grid's value at that node; so all places whose tile it is lie in it, with the grid's values
pub record IsTile (grid : Values) (tile : ℕ) (opened : TileValue) : Type 0 where
  pub corner : GridPlace
  pub within : Within (tile_shape grid.shape) corner
  pub numbered : number (tile_shape grid.shape) corner ≡ tile
  pub row : opened.row ≡ corner.y * tile_side
  pub column : opened.column ≡ corner.x * tile_side
  pub width : opened.width ≡ tile_width grid.shape corner
  pub long : length opened.values ≡ tile_height grid.shape corner * opened.width
  pub each : (down right : ℕ) → down < tile_height grid.shape corner → right < tile_width grid.shape corner
      → slice_index_or opened.values (place_in_row down opened.width right) None ≡ value grid (node_at corner down right)
  pub lies : (place : GridPlace) → Within grid.shape place → tile_of grid.shape place ≡ tile → LiesIn opened place.y place.x
  pub same : (place : GridPlace) → Within grid.shape place → tile_of grid.shape place ≡ tile → value_in opened place.y place.x ≡ value grid place
