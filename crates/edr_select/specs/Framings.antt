-- One coverage over a frame, of which some nodes are taken.
use Rattle.std.specs.Prelude.{◌≡◌, ℕ, ◌+◌, ◌-◌, ◌*◌, ◌<◌, ◌≤◌, Bool, false, if◌then◌else◌, ℤ, List, [], length, map, All, Option, None, Some, option_to_list}
use Rattle.std.specs.List.{flat_map, range_with_len, slice_index_or}
use Rattle.covjson_value.specs.declared.coverages.NdArray.{NdArray}
use Rattle.covjson_value.specs.declared.coverages.Coverage.{Coverage}
use Rattle.covjson_value.specs.Domains.{count_of}
use Rattle.covjson_write.specs.Writers.{IsHead, with_ranges}
use Rattle.edr_chunk.specs.RowMajor.{place_in_row}
use Rattle.edr_chunk.specs.declared.shapes.GridShape.{GridShape}
use Rattle.edr_chunk.specs.Places.{IsShape}
use Rattle.edr_chunk.specs.Grids as chunk
use Rattle.edr_chunk.specs.Grids.{value}
use Rattle.edr_select.specs.declared.plans.GridNode.{GridNode}
use Rattle.edr_select.specs.Listings.{place_at, tiles_of_range}
use Rattle.edr_select.specs.Listings.{NumbersRise}

-- some times and levels of a grid, and a box of its nodes; for each row of the box a truth value for each of some columns of the
-- grid, which are those of the box and maybe more
pub record FrameValue : Type 0 where
  pub times : List ℕ
  pub levels : List ℕ
  pub row : ℕ  -- the first row, and how many there are
  pub rows : ℕ
  pub column : ℕ  -- the first column, and how many there are
  pub columns : ℕ
  pub left : ℕ  -- the first column with a truth value, and how many there are
  pub width : ℕ
  pub mask : List Bool

pub record FramingValue : Type 0 where
  pub shape : GridShape
  pub parameters : List ℕ  -- the places of the parameters that are asked
  pub head : Coverage
  pub frame : FrameValue

-- ---- the nodes of a frame

-- the node of a row and a column is taken
abbrev pub is_set : FrameValue → ℕ → ℕ → Bool
is_set frame y x = slice_index_or frame.mask (place_in_row (y - frame.row) frame.width (x - frame.left)) false

-- a node, where it is taken
abbrev pub cell_at : FrameValue → ℕ → ℕ → ℕ → ℕ → Option GridNode
cell_at frame t z y x = if is_set frame y x then Some (record { t = t; z = z; y = y; x = x }) else None

-- those of a row, of some rows, and of all rows
abbrev pub row_cells : FrameValue → ℕ → ℕ → ℕ → List (Option GridNode)
row_cells frame t z y = map (cell_at frame t z y) (range_with_len frame.column frame.columns)

abbrev pub strip_cells : FrameValue → ℕ → ℕ → ℕ → ℕ → List (Option GridNode)
strip_cells frame t z from rows = flat_map (row_cells frame t z) (range_with_len from rows)

abbrev pub plane_cells : FrameValue → ℕ → ℕ → List (Option GridNode)
plane_cells frame t z = strip_cells frame t z frame.row frame.rows

-- those of all times and levels, in the order t, z, y, x
abbrev pub frame_cells : FrameValue → List (Option GridNode)
frame_cells frame = flat_map (λ t. flat_map (plane_cells frame t) frame.levels) frame.times

-- the nodes that are taken
abbrev pub taken : List (Option GridNode) → List GridNode
taken cells = flat_map option_to_list cells

-- ---- the coverage over a grid

-- the value of a parameter at a node that is taken, and none at another
abbrev pub cell_value : chunk.Values → ℕ → Option GridNode → Option ℤ
cell_value grid parameter None = None
cell_value grid parameter (Some cell) = value grid (place_at parameter cell)

abbrev pub framed_range : chunk.Values → FrameValue → ℕ → NdArray
framed_range grid frame parameter = record { values = map (cell_value grid parameter) (frame_cells frame) }

abbrev pub framed_coverage : chunk.Values → FramingValue → Coverage
framed_coverage grid framing = with_ranges framing.head (map (framed_range grid framing.frame) framing.parameters)

-- the tiles of the values that are taken, in the order of the text
abbrev pub framed_tiles : FramingValue → List ℕ
framed_tiles framing = flat_map (tiles_of_range framing.shape (taken (frame_cells framing.frame))) framing.parameters

-- ---- every framing

-- it lies in a grid of a shape
pub record IsFrame (shape : GridShape) (frame : FrameValue) : Type 0 where
  pub times : All (λ t. t < shape.times) frame.times
  pub times_rise : NumbersRise frame.times
  pub levels : All (λ z. z < shape.levels) frame.levels
  pub levels_rise : NumbersRise frame.levels
  pub rows : frame.row + frame.rows ≤ shape.rows
  pub columns : frame.column + frame.columns ≤ shape.columns
  pub left : frame.left ≤ frame.column
  pub right : frame.column + frame.columns ≤ frame.left + frame.width
  pub mask : length frame.mask ≡ frame.rows * frame.width

-- how many nodes it has
abbrev pub node_count : FrameValue → ℕ
node_count frame = length frame.times * (length frame.levels * (frame.rows * frame.columns))

pub record IsFraming (framing : FramingValue) : Type 0 where
  pub shape : IsShape framing.shape
  pub parameters : All (λ parameter. parameter < framing.shape.parameters) framing.parameters
  pub parameters_rise : NumbersRise framing.parameters
  pub head : IsHead framing.head
  pub bare : framing.head.ranges ≡ []
  pub as_many : length framing.head.parameters ≡ length framing.parameters
  pub count : count_of framing.head.domain ≡ node_count framing.frame
  pub frame : IsFrame framing.shape framing.frame
