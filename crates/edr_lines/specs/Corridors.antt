-- What a corridor takes of the nodes of some axes: its segments, and the times and levels that are asked beside them; for the calls
-- that plan, and private clauses.
use Rattle.std.specs.Prelude.{⊤, ◌≡◌, ℕ, ◌<◌, Bool, false, ◌&&◌, ◌||◌, ℤ, List, length, Option, Some}
use Rattle.std.specs.List.{list_any, range_with_len, slice_index_or}
use Rattle.edr_axes.specs.Axes.{value_at, axis_length}
use Rattle.edr_wkt.specs.declared.geometry.Geometry.{Geometry}
use Rattle.edr_corridor.specs.Values.{SegmentsValue}
use Rattle.edr_corridor.specs.Segments.{at_segment}
use Rattle.edr_corridor.specs.Boxes.{GridAxes, level_at, takes_node, wants_node}
use Rattle.edr_corridor.specs.BoxLaws.{is_about}
use Rattle.edr_query.specs.declared.shapes.Shape.{Shape}
use Rattle.edr_query.specs.declared.shapes.Shape.TheVariants as at
use Rattle.edr_query.specs.Values.{QueryValue}
use Rattle.edr_select.specs.Wanted.{takes_time, takes_level}
use Rattle.edr_select.specs.Lines.{segments_of}
use Rattle.edr_lines.specs.Taken.{NodeTest}

pub record CorridorValue : Type 0 where
  pub segments : SegmentsValue
  pub times : List Bool  -- for each place on the axis of times whether it is asked
  pub levels : List Bool

-- the time and the level of some places are asked
abbrev pub is_asked : CorridorValue → ℕ → ℕ → Bool
is_asked c t z = slice_index_or c.times t false && slice_index_or c.levels z false

-- a node is taken: it is asked, and one and the same segment takes it
abbrev pub takes : CorridorValue → GridAxes → NodeTest
takes c axes t z y x = is_asked c t z && wants_node c.segments axes t z y x

-- there is a truth value for each time and level
pub record LiesAlong (axes : GridAxes) (c : CorridorValue) : Type 0 where
  pub times : length c.times ≡ length axes.ts
  pub levels : length c.levels ≡ axis_length axes.zs

-- the corridor of a query: each time is asked where the line has m, and each level where it has z or a height goes about a level
pub record IsCorridorOf (q : QueryValue) (geometry : Geometry) (width : ℤ) (height : Option ℤ) (axes : GridAxes) (c : CorridorValue) : Type 0 where
  pub segments : c.segments ≡ segments_of q geometry width height
  pub along : LiesAlong axes c
  pub times : (t : ℕ) → t < length axes.ts → slice_index_or c.times t false ≡ (c.segments.has_m || takes_time q.times (Some (value_at axes.ts t)))
  pub levels : (z : ℕ) → z < axis_length axes.zs → slice_index_or c.levels z false ≡ (is_about c.segments || takes_level q.levels (level_at axes.zs z))

-- ---- for private clauses

abbrev pub IsCorridor : Shape → Type 0
IsCorridor (at.Position geometry) = ⊥
IsCorridor (at.Radius geometry within) = ⊥
IsCorridor (at.Area geometry) = ⊥
IsCorridor (at.Cube lo hi levels) = ⊥
IsCorridor (at.Trajectory geometry) = ⊥
IsCorridor (at.Corridor geometry width height) = ⊤
IsCorridor (at.Location id) = ⊥

-- one of the first segments takes it
abbrev pub takes_first : CorridorValue → GridAxes → ℕ → NodeTest
takes_first c axes count t z y x =
    is_asked c t z && list_any (at_segment (takes_node c.segments axes t z y x) c.segments.line) (range_with_len 0 count)
