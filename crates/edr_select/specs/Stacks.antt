-- One coverage over a stack of planes, of which some nodes are taken: of each plane others.
use Rattle.std.specs.Prelude.{◌≡◌, ℕ, ◌+◌, ◌*◌, ◌<◌, ◌≤◌, Bool, List, [], ◌∷◌, length, map, All, Option}
use Rattle.std.specs.List.{flat_map, range_with_len, slice_index_or, slice_range}
use Rattle.covjson_value.specs.declared.coverages.NdArray.{NdArray}
use Rattle.covjson_value.specs.declared.coverages.Coverage.{Coverage}
use Rattle.covjson_value.specs.Domains.{count_of}
use Rattle.covjson_write.specs.Writers.{IsHead, with_ranges}
use Rattle.edr_chunk.specs.declared.shapes.GridShape.{GridShape}
use Rattle.edr_chunk.specs.RowMajor.{place_in_row}
use Rattle.edr_chunk.specs.Places.{IsShape}
use Rattle.edr_chunk.specs.Grids as chunk
use Rattle.edr_select.specs.declared.plans.GridNode.{GridNode}
use Rattle.edr_select.specs.Listings.{tiles_of_range, NumbersRise}
use Rattle.edr_select.specs.Framings.{FrameValue, plane_cells, taken, cell_value}

-- some times and levels of a grid, and a box of its nodes
pub record SidesValue : Type 0 where
  pub times : List ℕ
  pub levels : List ℕ
  pub row : ℕ  -- the first row, and how many there are
  pub rows : ℕ
  pub column : ℕ  -- the first column, and how many there are
  pub columns : ℕ

-- the nodes of the box at each time and level, and for each a truth value, in the order t, z, y, x
pub record StackValue : Type 0 where
  pub sides : SidesValue
  pub mask : List Bool

pub record StackingValue : Type 0 where
  pub shape : GridShape
  pub parameters : List ℕ  -- the places of the parameters that are asked
  pub head : Coverage
  pub stack : StackValue

-- ---- planes

-- how many nodes a plane has, and how many planes there are
abbrev pub plane_size : SidesValue → ℕ
plane_size sides = sides.rows * sides.columns

abbrev pub plane_count : SidesValue → ℕ
plane_count sides = length sides.times * length sides.levels

-- the number of the plane of a time and a level, which are told by their numbers among those of the stack
abbrev pub plane_number : SidesValue → ℕ → ℕ → ℕ
plane_number sides i j = place_in_row i (length sides.levels) j

abbrev pub time_at : SidesValue → ℕ → ℕ
time_at sides i = slice_index_or sides.times i 0

abbrev pub level_at : SidesValue → ℕ → ℕ
level_at sides j = slice_index_or sides.levels j 0

-- that plane, as a frame
abbrev pub plane_at : StackValue → ℕ → ℕ → FrameValue
plane_at stack i j = record {
  times = time_at stack.sides i ∷ [];
  levels = level_at stack.sides j ∷ [];
  row = stack.sides.row;
  rows = stack.sides.rows;
  column = stack.sides.column;
  columns = stack.sides.columns;
  left = stack.sides.column;
  width = stack.sides.columns;
  mask = slice_range stack.mask (plane_number stack.sides i j * plane_size stack.sides) (plane_number stack.sides i j * plane_size stack.sides + plane_size stack.sides);
}

-- ---- the nodes of a stack

abbrev pub cells_of_plane : StackValue → ℕ → ℕ → List (Option GridNode)
cells_of_plane stack i j = plane_cells (plane_at stack i j) (time_at stack.sides i) (level_at stack.sides j)

abbrev pub cells_of_time : StackValue → ℕ → List (Option GridNode)
cells_of_time stack i = flat_map (cells_of_plane stack i) (range_with_len 0 (length stack.sides.levels))

-- those of all planes, in the order t, z, y, x
abbrev pub stack_cells : StackValue → List (Option GridNode)
stack_cells stack = flat_map (cells_of_time stack) (range_with_len 0 (length stack.sides.times))

-- ---- the coverage over a grid

abbrev pub stacked_range : chunk.Values → StackValue → ℕ → NdArray
stacked_range grid stack parameter = record { values = map (cell_value grid parameter) (stack_cells stack) }

abbrev pub stacked_coverage : chunk.Values → StackingValue → Coverage
stacked_coverage grid stacking = with_ranges stacking.head (map (stacked_range grid stacking.stack) stacking.parameters)

-- the tiles of the values that are taken, in the order of the text
abbrev pub stacked_tiles : StackingValue → List ℕ
stacked_tiles stacking = flat_map (tiles_of_range stacking.shape (taken (stack_cells stacking.stack))) stacking.parameters

-- ---- every stacking

-- the sides lie in a grid of a shape
pub record AreSides (shape : GridShape) (sides : SidesValue) : Type 0 where
  pub times : All (λ t. t < shape.times) sides.times
  pub times_rise : NumbersRise sides.times
  pub levels : All (λ z. z < shape.levels) sides.levels
  pub levels_rise : NumbersRise sides.levels
  pub rows : sides.row + sides.rows ≤ shape.rows
  pub columns : sides.column + sides.columns ≤ shape.columns

-- how many nodes they have
abbrev pub stack_count : SidesValue → ℕ
stack_count sides = plane_count sides * plane_size sides

pub record IsStack (shape : GridShape) (stack : StackValue) : Type 0 where
  pub sides : AreSides shape stack.sides
  pub mask : length stack.mask ≡ stack_count stack.sides

pub record IsStacking (stacking : StackingValue) : Type 0 where
  pub shape : IsShape stacking.shape
  pub parameters : All (λ parameter. parameter < stacking.shape.parameters) stacking.parameters
  pub parameters_rise : NumbersRise stacking.parameters
  pub head : IsHead stacking.head
  pub bare : stacking.head.ranges ≡ []
  pub as_many : length stacking.head.parameters ≡ length stacking.parameters
  pub count : count_of stacking.head.domain ≡ stack_count stacking.stack.sides
  pub stack : IsStack stacking.shape stacking.stack
