-- What a segment takes of the nodes of a grid: ranges of times and levels, and rectangles of rows and columns.
use Rattle.std.specs.Prelude.{◌≡◌, ℕ, ◌<◌, ◌≤◌, ℤ, Bool, true, ◌&&◌, List, length, Option, Some, option_map}
use Rattle.std.specs.List.{All, list_any}
use Rattle.edr_base.specs.declared.places.Position.{Position}
use Rattle.edr_axes.specs.Axes.{axis_length, value_at}
use Rattle.edr_geometry.specs.Masks.{spot_at}
use Rattle.edr_geometry.specs.Ranges.{lies_in}
use Rattle.edr_corridor.specs.declared.boxes.Rectangle.{Rectangle}
use Rattle.edr_corridor.specs.declared.boxes.SegmentBox.{SegmentBox}
use Rattle.edr_corridor.specs.Values.{SegmentsValue}
use Rattle.edr_corridor.specs.Segments.{within_half, segment_takes, at_segment, first_takes, wants}

-- the values of the axes of a grid: times, levels where there are any, y and x
pub record GridAxes : Type 0 where
  pub ts : List ℤ
  pub zs : Option (List ℤ)
  pub ys : List ℤ
  pub xs : List ℤ

-- the level at a place, where there is an axis of levels
abbrev pub level_at : Option (List ℤ) → ℕ → Option ℤ
level_at zs z = option_map (λ values. value_at values z) zs

-- places on the axes, of which each is a node
pub record IsNode (axes : GridAxes) (t z y x : ℕ) : Type 0 where
  pub t_in : t < length axes.ts
  pub z_in : z < axis_length axes.zs
  pub y_in : y < length axes.ys
  pub x_in : x < length axes.xs

-- a segment takes the node of some places
abbrev pub takes_node : SegmentsValue → GridAxes → ℕ → ℕ → ℕ → ℕ → Position → Position → Bool
takes_node s axes t z y x = segment_takes s true true (Some (value_at axes.ts t)) (level_at axes.zs z) (spot_at (value_at axes.ys y) (value_at axes.xs x))

-- one and the same segment takes time, level and place of that node
abbrev pub wants_node : SegmentsValue → GridAxes → ℕ → ℕ → ℕ → ℕ → Bool
wants_node s axes t z y x = wants s (value_at axes.ts t) (level_at axes.zs z) (spot_at (value_at axes.ys y) (value_at axes.xs x))

-- what the segment of a number takes at some y and x, one before it takes too
abbrev pub AddsNothing : SegmentsValue → ℕ → List ℤ → List ℤ → Type 0
AddsNothing s number ys xs = (t z : Option ℤ) (y x : ℕ) → y < length ys → x < length xs
    → at_segment (segment_takes s true true t z (spot_at (value_at ys y) (value_at xs x))) s.line number ≡ true
    → first_takes (segment_takes s true true t z (spot_at (value_at ys y) (value_at xs x))) s.line number ≡ true

-- ---- boxes

-- a rectangle has a row and a column
abbrev pub has_place : Rectangle → ℕ → ℕ → Bool
has_place rectangle y x = lies_in rectangle.rows y && lies_in rectangle.columns x

-- one of some rectangles has them
abbrev pub have_place : List Rectangle → ℕ → ℕ → Bool
have_place rectangles y x = list_any (λ rectangle. has_place rectangle y x) rectangles

-- a box takes the node of some places: those of time and level lie in its ranges, and a rectangle has the row and the column
abbrev pub box_takes : SegmentBox → ℕ → ℕ → ℕ → ℕ → Bool
box_takes box t z y x = lies_in box.times t && (lies_in box.levels z && have_place box.rectangles.items y x)

-- a box takes the nodes that the segment of a number takes, and no others
abbrev pub TakesNodes : SegmentsValue → ℕ → GridAxes → SegmentBox → Type 0
TakesNodes s number axes box = (t z y x : ℕ) → IsNode axes t z y x → box_takes box t z y x ≡ at_segment (takes_node s axes t z y x) s.line number

-- a rectangle has a row and a column at least, and no more than there are
pub record IsWithin (row_count column_count : ℕ) (rectangle : Rectangle) : Type 0 where
  pub rows : (rectangle.rows.0 < rectangle.rows.1) × (rectangle.rows.1 ≤ row_count)
  pub columns : (rectangle.columns.0 < rectangle.columns.1) × (rectangle.columns.1 ≤ column_count)

-- ranges and rectangles lie on the axes
pub record LiesOn (axes : GridAxes) (box : SegmentBox) : Type 0 where
  pub times : (box.times.0 ≤ box.times.1) × (box.times.1 ≤ length axes.ts)
  pub levels : (box.levels.0 ≤ box.levels.1) × (box.levels.1 ≤ axis_length axes.zs)
  pub rectangles : All (IsWithin (length axes.ys) (length axes.xs)) box.rectangles.items

-- only rows and columns at most half the width from the y and the x of the segment have a place in its rectangles
pub record LiesNear (s : SegmentsValue) (number : ℕ) (axes : GridAxes) (box : SegmentBox) : Type 0 where
  pub rows : (y x : ℕ) → y < length axes.ys → x < length axes.xs → have_place box.rectangles.items y x ≡ true
      → at_segment (λ a b. within_half a.y b.y s.width (value_at axes.ys y)) s.line number ≡ true
  pub columns : (y x : ℕ) → y < length axes.ys → x < length axes.xs → have_place box.rectangles.items y x ≡ true
      → at_segment (λ a b. within_half a.x b.x s.width (value_at axes.xs x)) s.line number ≡ true
