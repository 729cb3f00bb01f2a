-- Boxes round places: for private clauses.
use Rattle.std.specs.Prelude.{◌≤ℤ◌}
use Rattle.edr_base.specs.declared.places.Spot.{Spot}
use Rattle.edr_near.specs.declared.frames.Frame.{Frame}
use Rattle.edr_near.specs.Squares.{IsSpot}

-- the box has a place, its borders included
pub record Holds (frame : Frame) (s : Spot) : Type 0 where
  pub west : frame.lo.x ≤ℤ s.x
  pub east : s.x ≤ℤ frame.hi.x
  pub south : frame.lo.y ≤ℤ s.y
  pub north : s.y ≤ℤ frame.hi.y

-- both corners are within the limits
pub record IsFrame (frame : Frame) : Type 0 where
  pub lo : IsSpot frame.lo
  pub hi : IsSpot frame.hi
