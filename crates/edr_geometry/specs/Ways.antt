-- For private clauses: ways, discs and segments within the limits.
use Rattle.std.specs.Prelude.{◌≤◌, ◌*◌}
use Rattle.std.specs.Int.RustNames.{unsigned_abs}
use Rattle.edr_geometry.specs.declared.points.Way.{Way}
use Rattle.edr_geometry.specs.declared.discs.Disc.{Disc}
use Rattle.edr_geometry.specs.declared.near.Segment.{Segment}
use Rattle.edr_geometry.specs.Limits.{IsSpot}
use Rattle.edr_base.specs.Limits.{IsMetres, coordinate_limit}

-- the way from one place to another
pub record IsWay (way : Way) : Type 0 where
  pub x : unsigned_abs way.x ≤ 2 * coordinate_limit
  pub y : unsigned_abs way.y ≤ 2 * coordinate_limit

-- a segment with its width
pub record IsSegment (segment : Segment) : Type 0 where
  pub a_in : IsSpot segment.a
  pub b_in : IsSpot segment.b
  pub width_in : IsMetres segment.width

-- a disc
pub record IsDisc (disc : Disc) : Type 0 where
  pub centre_in : IsSpot disc.centre
  pub radius_in : IsMetres disc.radius
