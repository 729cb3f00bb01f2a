-- Boxes of segments, of which only some times and levels are asked, and how far they spread; for private clauses.
use Rattle.std.specs.Prelude.{◌≡◌, ℕ, ◌+◌, ◌<◌, ◌≤◌, ◌==◌, min, max, Bool, true, false, ◌&&◌, ◌||◌, List, take, length, Option, None, Some}
use Rattle.std.specs.List.{list_any, range_with_len, slice_index_or}
use Rattle.edr_corridor.specs.declared.boxes.SegmentBox.{SegmentBox}
use Rattle.edr_geometry.specs.Ranges.{lies_in}
use Rattle.edr_corridor.specs.Boxes.{have_place, box_takes}
use Rattle.edr_lines.specs.declared.spreads.Extent.{Extent}
use Rattle.edr_lines.specs.Taken.{Counts, NodeTest, some_at_time, some_at_level}
use Rattle.edr_lines.specs.Corridors.{CorridorValue, is_asked}

-- a box takes a node that is asked
abbrev pub box_passes : CorridorValue → SegmentBox → NodeTest
box_passes c box t z y x = is_asked c t z && box_takes box t z y x

-- a place of a range is asked
abbrev pub some_asked : List Bool → ℕ × ℕ → Bool
some_asked asked range = list_any (λ place. lies_in range place && slice_index_or asked place false) (range_with_len 0 (length asked))

-- the first and the last number below a count that pass
pub record AreEnds (test : ℕ → Bool) (count first last : ℕ) : Type 0 where
  pub inside : last < count
  pub first_passes : test first ≡ true
  pub last_passes : test last ≡ true
  pub low : (k : ℕ) → k < count → test k ≡ true → first ≤ k
  pub high : (k : ℕ) → k < count → test k ≡ true → k ≤ last

-- some node of a row, and some of a column of a plane passes
abbrev pub some_in : (ℕ → ℕ → Bool) → ℕ → ℕ → Bool
some_in test columns y = list_any (λ x. test y x) (range_with_len 0 columns)

abbrev pub some_along : (ℕ → ℕ → Bool) → ℕ → ℕ → Bool
some_along test rows x = list_any (λ y. test y x) (range_with_len 0 rows)

-- the least box of rows and columns with all nodes of a plane that pass
pub record IsExtentOf (n : Counts) (test : ℕ → ℕ → Bool) (extent : Extent) : Type 0 where
  pub rows : AreEnds (some_in test n.columns) n.rows extent.top extent.bottom
  pub columns : AreEnds (some_along test n.rows) n.columns extent.left extent.right

-- the least extent with two
abbrev pub extent_with : Extent → Extent → Extent
extent_with one other = record {
  top = min one.top other.top;
  bottom = max one.bottom other.bottom;
  left = min one.left other.left;
  right = max one.right other.right;
}

abbrev pub joined_extent : Option Extent → Extent → Extent
joined_extent None other = other
joined_extent (Some one) other = extent_with one other

-- no node of a plane passes
abbrev pub NonePasses : Counts → (ℕ → ℕ → Bool) → Type 0
NonePasses n test = (y x : ℕ) → y < n.rows → x < n.columns → test y x ≡ false

abbrev pub MatchPlane : Counts → (ℕ → ℕ → Bool) → Option Extent → Type 0
MatchPlane n test None = NonePasses n test
MatchPlane n test (Some extent) = IsExtentOf n test extent

-- the nodes of a plane that the rectangles of a box have
abbrev pub has_node : SegmentBox → ℕ → ℕ → Bool
has_node box y x = have_place box.rectangles.items y x

-- those of its first rectangles
abbrev pub has_first : SegmentBox → ℕ → ℕ → ℕ → Bool
has_first box count y x = have_place (take count box.rectangles.items) y x

-- some node of a row and a column passes, at some time and level
abbrev pub some_at : Counts → NodeTest → ℕ → ℕ → Bool
some_at n takes y x = list_any (λ t. list_any (λ z. takes t z y x) (range_with_len 0 n.levels)) (range_with_len 0 n.times)

pub record SpreadValue : Type 0 where
  pub times : List Bool
  pub levels : List Bool
  pub extent : Option Extent

-- the times and the levels of the nodes that pass, and their extent
pub record IsSpreadOf (n : Counts) (takes : NodeTest) (spread : SpreadValue) : Type 0 where
  pub times_full : length spread.times ≡ n.times
  pub levels_full : length spread.levels ≡ n.levels
  pub times : (t : ℕ) → t < n.times → slice_index_or spread.times t false ≡ some_at_time n takes t
  pub levels : (z : ℕ) → z < n.levels → slice_index_or spread.levels z false ≡ some_at_level n takes z
  pub extent : MatchPlane n (some_at n takes) spread.extent

-- places are set where they were set, or lie in a range and are asked
pub record SetAsked (asked : List Bool) (range : ℕ × ℕ) (old new : List Bool) : Type 0 where
  pub full : length new ≡ length old
  pub set : (place : ℕ) → place < length old
      → slice_index_or new place false ≡ (slice_index_or old place false || (lies_in range place && slice_index_or asked place false))
