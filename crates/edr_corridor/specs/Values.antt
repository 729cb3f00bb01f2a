-- The segments of a line, as contracts see them.
use Rattle.std.specs.Prelude.{◌≡◌, ◌≤◌, ℤ, Bool, true, ◌||◌, List, length, Option, is_some, IsSome, IfSome}
use Rattle.std.specs.List.{All}
use Rattle.edr_base.specs.declared.places.Position.{Position}
use Rattle.edr_wkt.specs.Faults.{IsInRange}
use Rattle.edr_base.specs.Limits.{IsCoordinate, IsMetres}

-- a line, and what a corridor asks of each of its segments
pub record SegmentsValue : Type 0 where
  pub line : List Position
  pub has_z : Bool
  pub has_m : Bool
  pub width : ℤ  -- the whole width, in metres
  pub level : Option ℤ  -- a single level that is asked
  pub height : Option ℤ  -- the whole height about the z of a segment or that level, in metres

-- a segment or more, numbers within the limits, and a height where the line has z or a level is asked
pub record IsSegments (s : SegmentsValue) : Type 0 where
  pub some : 2 ≤ length s.line
  pub line_in : All IsInRange s.line
  pub width_in : IsMetres s.width
  pub level_in : IfSome s.level IsCoordinate
  pub height_in : IfSome s.height IsMetres
  pub height_about_z : s.has_z ≡ true → IsSome s.height
  pub height_about_level : IsSome s.level → IsSome s.height

-- the line has z or a level is asked, so each node that is taken has a level
abbrev pub needs_level : SegmentsValue → Bool
needs_level s = s.has_z || is_some s.level
