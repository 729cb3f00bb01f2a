-- The truth values of the nodes of a stack, and where a box sets them; for the calls that plan, and private clauses.
use Rattle.std.specs.Prelude.{◌≡◌, ℕ, ◌+◌, ◌-◌, ◌*◌, ◌<◌, ◌≤◌, ◌^◌, ◌==◌, Bool, true, false, ◌&&◌, ◌||◌, List, length}
use Rattle.std.specs.List.{All, slice_index_or}
use Rattle.edr_base.specs.Limits.{node_limit}
use Rattle.edr_chunk.specs.RowMajor.{place_in_row}
use Rattle.edr_geometry.specs.Ranges.{lies_in}
use Rattle.edr_corridor.specs.declared.boxes.Rectangle.{Rectangle}
use Rattle.edr_corridor.specs.declared.boxes.SegmentBox.{SegmentBox}
use Rattle.edr_select.specs.Listings.{NumbersRise}
use Rattle.edr_select.specs.Stacks.{SidesValue, plane_size, time_at, level_at}
use Rattle.edr_select.specs.Masks.{AreAmong}
use Rattle.edr_lines.specs.Taken.{NodeTest}
use Rattle.edr_lines.specs.Boxes.{has_node}

-- the truth values of sides can be counted, and there are no more rows and columns than a grid has nodes
pub record IsSmall (sides : SidesValue) : Type 0 where
  pub planes : length sides.times * length sides.levels * plane_size sides < 2 ^ 63
  pub rows : sides.row + sides.rows ≤ node_limit
  pub columns : sides.column + sides.columns ≤ node_limit

-- ---- for private clauses

-- the places of a range were set
pub record RangeSet (range : ℕ × ℕ) (old new : List Bool) : Type 0 where
  pub full : length new ≡ length old
  pub set : (k : ℕ) → k < length old → slice_index_or new k false ≡ (slice_index_or old k false || lies_in range k)

-- a row lies in some sides
pub record RowFits (sides : SidesValue) (row : ℕ) : Type 0 where
  pub low : sides.row ≤ row
  pub high : row < sides.row + sides.rows

-- rows lie in some sides
pub record RowsFit (sides : SidesValue) (rows : ℕ × ℕ) : Type 0 where
  pub low : sides.row ≤ rows.0
  pub ordered : rows.0 ≤ rows.1
  pub high : rows.1 ≤ sides.row + sides.rows

-- columns lie in some sides
pub record ColumnsFit (sides : SidesValue) (columns : ℕ × ℕ) : Type 0 where
  pub left : sides.column ≤ columns.0
  pub ordered : columns.0 ≤ columns.1
  pub right : columns.1 ≤ sides.column + sides.columns

-- a rectangle lies in some sides
pub record RectangleFits (sides : SidesValue) (rectangle : Rectangle) : Type 0 where
  pub low : sides.row ≤ rectangle.rows.0
  pub ordered : rectangle.rows.0 ≤ rectangle.rows.1
  pub high : rectangle.rows.1 ≤ sides.row + sides.rows
  pub columns : ColumnsFit sides rectangle.columns

-- the rectangles of a box lie in some sides
abbrev pub BoxFits : SidesValue → SegmentBox → Type 0
BoxFits sides box = All (RectangleFits sides) box.rectangles.items

-- the node of a row and of some columns
abbrev pub is_in_row : ℕ → ℕ × ℕ → ℕ → ℕ → Bool
is_in_row row columns y x = (y == row) && lies_in columns x

-- a node of some rows
abbrev pub is_among_rows : ℕ × ℕ → ℕ → ℕ → Bool
is_among_rows rows y x = lies_in rows y

-- where the truth value of a node of a plane stands
abbrev pub node_number : SidesValue → ℕ → ℕ → ℕ
node_number sides y x = place_in_row (y - sides.row) sides.columns (x - sides.column)

-- a node of some sides
abbrev pub InBox : SidesValue → ℕ → ℕ → Type 0
InBox sides = AreAmong sides.row sides.rows sides.column sides.columns

-- the nodes of a plane that pass a test were set
pub record PlaneSet (sides : SidesValue) (test : ℕ → ℕ → Bool) (old new : List Bool) : Type 0 where
  pub full : length new ≡ length old
  pub set : (y x : ℕ) → InBox sides y x → slice_index_or new (node_number sides y x) false ≡ (slice_index_or old (node_number sides y x) false || test y x)

-- where the truth value of a node stands among the planes of one time, of which each is told by the number of its level
abbrev pub level_number : SidesValue → ℕ → ℕ → ℕ → ℕ
level_number sides j y x = place_in_row j (plane_size sides) (node_number sides y x)

-- a test of the nodes of one time: by a level, a row and a column
abbrev pub LevelTest : Type 0
LevelTest = ℕ → ℕ → ℕ → Bool

-- the nodes of the planes of one time that pass were set
pub record LevelsSet (sides : SidesValue) (test : LevelTest) (old new : List Bool) : Type 0 where
  pub full : length new ≡ length old
  pub set : (j y x : ℕ) → j < length sides.levels → InBox sides y x
      → slice_index_or new (level_number sides j y x) false ≡ (slice_index_or old (level_number sides j y x) false || test (level_at sides j) y x)

-- those of one plane were
pub record LevelSet (sides : SidesValue) (test : LevelTest) (number : ℕ) (old new : List Bool) : Type 0 where
  pub full : length new ≡ length old
  pub set : (j y x : ℕ) → j < length sides.levels → InBox sides y x
      → slice_index_or new (level_number sides j y x) false ≡ (slice_index_or old (level_number sides j y x) false || ((j == number) && test (level_at sides j) y x))

-- how many truth values the planes of one time have
abbrev pub time_size : SidesValue → ℕ
time_size sides = length sides.levels * plane_size sides

-- where the truth value of a node stands among those of all times
abbrev pub time_number : SidesValue → ℕ → ℕ → ℕ → ℕ → ℕ
time_number sides i j y x = place_in_row i (time_size sides) (level_number sides j y x)

-- the nodes of a stack that pass were set
pub record TimesSet (sides : SidesValue) (test : NodeTest) (old new : List Bool) : Type 0 where
  pub full : length new ≡ length old
  pub set : (i j y x : ℕ) → i < length sides.times → j < length sides.levels → InBox sides y x
      → slice_index_or new (time_number sides i j y x) false ≡ (slice_index_or old (time_number sides i j y x) false || test (time_at sides i) (level_at sides j) y x)

-- those of one time were
pub record TimeSet (sides : SidesValue) (test : NodeTest) (number : ℕ) (old new : List Bool) : Type 0 where
  pub full : length new ≡ length old
  pub set : (i j y x : ℕ) → i < length sides.times → j < length sides.levels → InBox sides y x
      → slice_index_or new (time_number sides i j y x) false
      ≡ (slice_index_or old (time_number sides i j y x) false || ((i == number) && test (time_at sides i) (level_at sides j) y x))

-- a box takes the node of a level, a row and a column at the times of its range
abbrev pub takes_below : SegmentBox → LevelTest
takes_below box z y x = lies_in box.levels z && has_node box y x

-- where the range of a box has a level of the sides, its nodes lie in these
abbrev pub LevelsFit : SidesValue → SegmentBox → Type 0
LevelsFit sides box = (j : ℕ) → j < length sides.levels → lies_in box.levels (level_at sides j) ≡ true → BoxFits sides box

-- where its ranges have a time and a level of the sides
abbrev pub TimesFit : SidesValue → SegmentBox → Type 0
TimesFit sides box = (i j : ℕ) → i < length sides.times → j < length sides.levels → lies_in box.times (time_at sides i) ≡ true
    → lies_in box.levels (level_at sides j) ≡ true → BoxFits sides box

-- the times and the levels of sides rise
pub record DoRise (sides : SidesValue) : Type 0 where
  pub times : NumbersRise sides.times
  pub levels : NumbersRise sides.levels
