-- Which nodes of a plane a shape takes, as a box with a truth value a node; for the calls that plan, and private clauses.
use Rattle.std.specs.Prelude.{◌≡◌, ⊤, ℕ, ◌+◌, ◌-◌, ◌*◌, ◌<◌, ◌≤◌, min, max, Bool, true, false, ℤ, ◌<ℤ◌, ◌≤ℤ◌, List, [], ◌∷◌, length, map, take, drop}
use Rattle.std.specs.List.{All, AllByRecursion, list_any, slice_index_or}
use Rattle.edr_base.specs.declared.places.Position.{Position}
use Rattle.edr_base.specs.declared.places.Spot.{Spot}
use Rattle.edr_base.specs.Boxes.{in_box}
use Rattle.edr_wkt.specs.declared.geometry.Geometry.{Geometry}
use Rattle.edr_wkt.specs.declared.geometry.Polygon.{Polygon}
use Rattle.edr_wkt.specs.Geometries.{positions_of}
use Rattle.edr_wkt.specs.Faults.{IsClosed}
use Rattle.edr_axes.specs.Axes.{value_at}
use Rattle.edr_geometry.specs.Planar as plane
use Rattle.edr_geometry.specs.Planar.{in_disc, in_polygons}
use Rattle.edr_geometry.specs.Limits.{IsSpot, IsPlacedPolygon}
use Rattle.edr_geometry.specs.Masks.{row_of, column_of}
use Rattle.edr_edition.specs.Values.{InstanceValue}
use Rattle.edr_query.specs.declared.shapes.Shape.{Shape}
use Rattle.edr_query.specs.declared.shapes.Shape.TheVariants as at
use Rattle.edr_query.specs.Values.{QueryValue}
use Rattle.edr_select.specs.declared.reaches.Reach.{Reach}
use Rattle.edr_select.specs.declared.mask_rows.RowEnds.{RowEnds}
use Rattle.edr_select.specs.Choices.{takes_node, time_places, level_places}
use Rattle.edr_select.specs.Wanted.{levels_asked, in_areas}
use Rattle.edr_select.specs.Framings.{FrameValue}
use Rattle.edr_chunk.specs.RowMajor.{place_in_row}

-- the shape is a disc, some polygons or a box
abbrev pub IsArea : Shape → Type 0
IsArea (at.Position geometry) = ⊥
IsArea (at.Radius geometry within) = ⊤
IsArea (at.Area geometry) = ⊤
IsArea (at.Cube lo hi levels) = ⊤
IsArea (at.Trajectory geometry) = ⊥
IsArea (at.Corridor geometry width height) = ⊥
IsArea (at.Location id) = ⊥

-- a place is taken
abbrev pub takes_spot : Shape → Spot → Bool
takes_spot (at.Radius geometry within) spot = list_any (λ p. in_disc spot (plane.spot_of p) within) (positions_of geometry)
takes_spot (at.Area geometry) spot = in_areas geometry spot
takes_spot (at.Cube lo hi levels) spot = in_box spot lo hi
takes_spot other spot = false

-- the geometry is the point of a place
pub record IsCentre (geometry : Geometry) (centre : Spot) : Type 0 where
  pub alone : map plane.spot_of (positions_of geometry) ≡ centre ∷ []
  pub placed : IsSpot centre

-- its rings are closed
abbrev pub IsClosedPolygon : Polygon → Type 0
IsClosedPolygon polygon = AllByRecursion IsClosed polygon.rings

-- the geometry is some polygons, whose rings are closed
pub record HasPolygons (geometry : Geometry) (polygons : List Polygon) : Type 0 where
  pub in_each : (spot : Spot) → in_areas geometry spot ≡ in_polygons spot polygons
  pub placed : All IsPlacedPolygon polygons
  pub closed : AllByRecursion IsClosedPolygon polygons

-- no place left of the left x, right of the right one, below the low y or above the high one is taken
pub record LiesIn (shape : Shape) (reach : Reach) : Type 0 where
  pub before : (spot : Spot) → spot.x <ℤ reach.left → takes_spot shape spot ≡ false
  pub behind : (spot : Spot) → reach.right <ℤ spot.x → takes_spot shape spot ≡ false
  pub below : (spot : Spot) → spot.y <ℤ reach.low → takes_spot shape spot ≡ false
  pub above : (spot : Spot) → reach.high <ℤ spot.y → takes_spot shape spot ≡ false

-- ---- for private clauses

-- a box of rows and columns, and for each of its rows a truth value for each of some columns of the grid
pub record MaskValue : Type 0 where
  pub row : ℕ  -- the first row, and how many there are
  pub rows : ℕ
  pub column : ℕ  -- the first column, and how many there are
  pub columns : ℕ
  pub left : ℕ  -- the first column with a truth value, and how many there are
  pub width : ℕ
  pub bits : List Bool

-- no node is taken
abbrev pub NoneTaken : InstanceValue → Shape → Type 0
NoneTaken i shape = (y x : ℕ) → y < length i.ys → x < length i.xs → takes_node i shape y x ≡ false

-- a node of the row is taken
pub record TakesInRow (i : InstanceValue) (shape : Shape) (y : ℕ) : Type 0 where
  pub column : ℕ
  pub inside : column < length i.xs
  pub takes : takes_node i shape y column ≡ true

-- a node of the column is taken
pub record TakesInColumn (i : InstanceValue) (shape : Shape) (x : ℕ) : Type 0 where
  pub row : ℕ
  pub inside : row < length i.ys
  pub takes : takes_node i shape row x ≡ true

-- a row and a column are among so many from some on
pub record AreAmong (row rows column columns : ℕ) (y x : ℕ) : Type 0 where
  pub low : row ≤ y
  pub high : y < row + rows
  pub left : column ≤ x
  pub right : x < column + columns

-- they lie in the box
abbrev pub InBox : MaskValue → ℕ → ℕ → Type 0
InBox mask = AreAmong mask.row mask.rows mask.column mask.columns

-- the box is the least one with all nodes that are taken, and the truth values say which these are
pub record IsMask (i : InstanceValue) (shape : Shape) (mask : MaskValue) : Type 0 where
  pub rows : mask.row + mask.rows ≤ length i.ys
  pub columns : mask.column + mask.columns ≤ length i.xs
  pub some_rows : 1 ≤ mask.rows
  pub some_columns : 1 ≤ mask.columns
  pub left : mask.left ≤ mask.column
  pub right : mask.column + mask.columns ≤ mask.left + mask.width
  pub full : length mask.bits ≡ mask.rows * mask.width
  pub bits : (y x : ℕ) → mask.row ≤ y → y < mask.row + mask.rows → mask.left ≤ x → x < mask.left + mask.width
      → slice_index_or mask.bits (place_in_row (y - mask.row) mask.width (x - mask.left)) false ≡ takes_node i shape y x
  pub outside : (y x : ℕ) → y < length i.ys → x < length i.xs → takes_node i shape y x ≡ true → InBox mask y x
  pub first_row : TakesInRow i shape mask.row
  pub last_row : TakesInRow i shape (mask.row + mask.rows - 1)
  pub first_column : TakesInColumn i shape mask.column
  pub last_column : TakesInColumn i shape (mask.column + mask.columns - 1)

-- the frame of some times and levels, and of a mask
abbrev pub frame_at : List ℕ → List ℕ → MaskValue → FrameValue
frame_at times levels mask = record {
  times = times;
  levels = levels;
  row = mask.row;
  rows = mask.rows;
  column = mask.column;
  columns = mask.columns;
  left = mask.left;
  width = mask.width;
  mask = mask.bits;
}

-- the frame has the times and levels that a query takes, and a mask
abbrev pub frame_with : InstanceValue → QueryValue → MaskValue → FrameValue
frame_with i q mask = frame_at (time_places q.times i.ts) (level_places (levels_asked q) i.zs) mask

-- an x is from the left one to the right one, and a y from the low one to the high one
pub record IsReached (reach : Reach) (p : Position) : Type 0 where
  pub left : reach.left ≤ℤ p.x
  pub right : p.x ≤ℤ reach.right
  pub low : reach.low ≤ℤ p.y
  pub high : p.y ≤ℤ reach.high

abbrev pub IsReachedRing : Reach → List Position → Type 0
IsReachedRing reach ring = All (IsReached reach) ring

abbrev pub IsReachedPolygon : Reach → Polygon → Type 0
IsReachedPolygon reach polygon = All (IsReachedRing reach) polygon.rings

-- it reaches as far, and maybe farther
pub record IsWider (old new : Reach) : Type 0 where
  pub left : new.left ≤ℤ old.left
  pub right : old.right ≤ℤ new.right
  pub low : new.low ≤ℤ old.low
  pub high : old.high ≤ℤ new.high

-- no node of the rows from one to before another is taken
abbrev pub NoneIn : InstanceValue → Shape → ℕ → ℕ → Type 0
NoneIn i shape from end = (y x : ℕ) → from ≤ y → y < end → x < length i.xs → takes_node i shape y x ≡ false

-- only nodes of these rows can be taken
pub record LiesInRows (i : InstanceValue) (shape : Shape) (from end : ℕ) : Type 0 where
  pub ordered : from ≤ end
  pub inside : end ≤ length i.ys
  pub before : NoneIn i shape 0 from
  pub behind : NoneIn i shape end (length i.ys)

-- some columns of a grid: the first, and the x of each
pub record ColumnsValue : Type 0 where
  pub left : ℕ
  pub xs : List ℤ

-- only nodes of these columns can be taken
pub record LiesInColumns (i : InstanceValue) (shape : Shape) (columns : ColumnsValue) : Type 0 where
  pub inside : columns.left + length columns.xs ≤ length i.xs
  pub values : columns.xs ≡ take (length columns.xs) (drop columns.left i.xs)
  pub before : (y x : ℕ) → x < columns.left → takes_node i shape y x ≡ false
  pub behind : (y x : ℕ) → columns.left + length columns.xs ≤ x → x < length i.xs → takes_node i shape y x ≡ false

-- a node of the row is taken
pub record Takes (i : InstanceValue) (shape : Shape) (y x : ℕ) : Type 0 where
  pub inside : x < length i.xs
  pub takes : takes_node i shape y x ≡ true

-- some nodes of the row are taken, and these are the first and the last
pub record IsTakenRow (i : InstanceValue) (shape : Shape) (y : ℕ) (ends : RowEnds) : Type 0 where
  pub first : Takes i shape y ends.first
  pub last : Takes i shape y ends.last
  pub least : (x : ℕ) → Takes i shape y x → ends.first ≤ x
  pub greatest : (x : ℕ) → Takes i shape y x → x ≤ ends.last

-- the truth values of a row
abbrev pub bits_at : InstanceValue → Shape → ColumnsValue → ℕ → List Bool
bits_at i shape columns y = row_of (takes_spot shape) (value_at i.ys y) columns.xs

-- for each of some columns which of its nodes are taken
abbrev pub AreTall : InstanceValue → Shape → ColumnsValue → List (List Bool) → Type 0
AreTall i shape columns masks = masks ≡ map (λ x. column_of (takes_spot shape) x i.ys) columns.xs

-- the box of one row
abbrev pub mask_of_row : ColumnsValue → ℕ → RowEnds → List Bool → MaskValue
mask_of_row columns y ends bits = record {
  row = y;
  rows = 1;
  column = ends.first;
  columns = ends.last + 1 - ends.first;
  left = columns.left;
  width = length columns.xs;
  bits = bits;
}

-- how many columns lie left of the right side
abbrev pub right_of : MaskValue → ℕ
right_of mask = mask.column + mask.columns

-- the box with other truth values
abbrev pub with_bits : MaskValue → List Bool → MaskValue
with_bits mask bits = record {
  row = mask.row;
  rows = mask.rows;
  column = mask.column;
  columns = mask.columns;
  left = mask.left;
  width = mask.width;
  bits = bits;
}

-- the box that goes on to a row
abbrev pub with_row : MaskValue → ℕ → RowEnds → MaskValue
with_row mask y ends = record {
  row = mask.row;
  rows = y + 1 - mask.row;
  column = min mask.column ends.first;
  columns = max (right_of mask) (ends.last + 1) - min mask.column ends.first;
  left = mask.left;
  width = mask.width;
  bits = mask.bits;
}

-- the box is the least one with all nodes that are taken of the rows before one, up to which there are truth values
pub record IsMaskBefore (i : InstanceValue) (shape : Shape) (columns : ColumnsValue) (end : ℕ) (mask : MaskValue) : Type 0 where
  pub inside : end ≤ length i.ys
  pub rows : mask.row + mask.rows ≤ end
  pub left_is : mask.left ≡ columns.left
  pub width_is : mask.width ≡ length columns.xs
  pub left : columns.left ≤ mask.column
  pub right : right_of mask ≤ columns.left + length columns.xs
  pub some_rows : 1 ≤ mask.rows
  pub some_columns : 1 ≤ mask.columns
  pub full : length mask.bits ≡ (end - mask.row) * length columns.xs
  pub bits : (k x : ℕ) → k < end - mask.row → x < length columns.xs → slice_index_or mask.bits (place_in_row k (length columns.xs) x) false ≡ takes_node i shape (mask.row + k) (columns.left + x)
  pub outside : (y x : ℕ) → y < end → x < length i.xs → takes_node i shape y x ≡ true → InBox mask y x
  pub first_row : TakesInRow i shape mask.row
  pub last_row : TakesInRow i shape (mask.row + mask.rows - 1)
  pub first_column : TakesInColumn i shape mask.column
  pub last_column : TakesInColumn i shape (right_of mask - 1)
