-- Strips: the rows of a frame in one row of tiles, whose values are read tile by tile; for private clauses.
use Rattle.std.specs.Prelude.{◌≡◌, ℕ, ◌+◌, ◌-◌, ◌*◌, ◌≤◌, min, max, Bool, if◌then◌else◌, ℤ, List, [], ◌∷◌, length, Option, None}
use Rattle.std.specs.List.{list_any, range_with_len, slice_index_or}
use Rattle.edr_chunk.specs.RowMajor.{place_in_row}
use Rattle.edr_chunk.specs.declared.shapes.GridShape.{GridShape}
use Rattle.edr_chunk.specs.AllPlaces.{at}
use Rattle.edr_chunk.specs.Tiles.{tile_side, tile_of}
use Rattle.edr_select.specs.Framings.{FrameValue, is_set}

-- the truth values of a frame are those of its rows, and its columns have them
pub record HasMask (frame : FrameValue) : Type 0 where
  pub left : frame.left ≤ frame.column
  pub right : frame.column + frame.columns ≤ frame.left + frame.width
  pub mask : length frame.mask ≡ frame.rows * frame.width

-- the rows from one up to another are among those of a frame
pub record HasRows (frame : FrameValue) (from to : ℕ) : Type 0 where
  pub low : frame.row ≤ from
  pub order : from ≤ to
  pub high : to ≤ frame.row + frame.rows

-- so are columns
pub record HasColumns (frame : FrameValue) (left right : ℕ) : Type 0 where
  pub low : frame.column ≤ left
  pub order : left ≤ right
  pub high : right ≤ frame.column + frame.columns

-- a node of some rows and columns is taken
abbrev pub some_taken : FrameValue → ℕ → ℕ → ℕ → ℕ → Bool
some_taken frame from to left right = list_any (λ y. list_any (is_set frame y) (range_with_len left (right - left))) (range_with_len from (to - from))

-- of the values of the rows from one on, that of a node
abbrev pub shown : FrameValue → ℕ → List (Option ℤ) → ℕ → ℕ → Option ℤ
shown frame from values y x = slice_index_or values (place_in_row (y - from) frame.columns (x - frame.column)) None

-- ---- tiles

-- the columns of a frame in a column of tiles
abbrev pub left_of : FrameValue → ℕ → ℕ
left_of frame across = max (across * tile_side) frame.column

abbrev pub right_of : FrameValue → ℕ → ℕ
right_of frame across = min (across * tile_side + tile_side) (frame.column + frame.columns)

-- the number of the tile of a row in a column of tiles
abbrev pub tile_across : GridShape → ℕ → ℕ → ℕ → ℕ → ℕ → ℕ
tile_across shape parameter t z y across = tile_of shape (at parameter t z y (across * tile_side))

-- that tile, where it has a node that is taken
abbrev pub tile_read : GridShape → FrameValue → ℕ → ℕ → ℕ → ℕ → ℕ → ℕ → List ℕ
tile_read shape frame parameter t z from to across =
    if some_taken frame from to (left_of frame across) (right_of frame across) then tile_across shape parameter t z from across ∷ [] else []
