-- Laws of corridors: what their segments take together.
use Rattle.std.specs.Prelude.{◌≡◌, ℕ, ◌+◌, ℤ, pos, ◌≤ℤ◌, Bool, true, ◌&&◌, ◌||◌, List, length, Option, Some, slice_get}
use Rattle.std.specs.List.{list_any}
use Rattle.std.specs.Option.{is_some}
use Rattle.edr_base.specs.declared.places.Spot.{Spot}
use Rattle.edr_geometry.specs.Planar.{near_segment}
use Rattle.edr_corridor.specs.declared.boxes.SegmentBox.{SegmentBox}
use Rattle.edr_corridor.specs.Values.{SegmentsValue}
use Rattle.edr_corridor.specs.Segments.{within_half, in_corridor, wants}
use Rattle.edr_corridor.specs.Boxes.{GridAxes, IsNode, TakesNodes, box_takes, wants_node}

-- a box for each segment, in their order
pub record AreBoxes (s : SegmentsValue) (axes : GridAxes) (boxes : List SegmentBox) : Type 0 where
  pub count : length boxes + 1 ≡ length s.line
  pub each : (number : ℕ) (box : SegmentBox) → slice_get boxes number ≡ Some box → TakesNodes s number axes box

-- some box takes a node exactly where one and the same segment takes its time, level and place
abbrev pub BoxesAreWanted : Type 0
BoxesAreWanted = (s : SegmentsValue) (axes : GridAxes) (boxes : List SegmentBox) → AreBoxes s axes boxes
    → (t z y x : ℕ) → IsNode axes t z y x → list_any (λ box. box_takes box t z y x) boxes ≡ wants_node s axes t z y x

-- a height goes about the z of a segment, or about a single level that is asked
abbrev pub is_about : SegmentsValue → Bool
is_about s = s.has_z || (is_some s.level && is_some s.height)

-- what is wanted, cut by the times that are asked where the line has no m, and by the levels that are asked where no height goes about
-- a level, is what the segments take of the times and levels that are asked
abbrev pub CorridorsAreCut : Type 0
CorridorsAreCut = (s : SegmentsValue) (times levels : Bool) (t : ℤ) (z : Option ℤ) (spot : Spot)
    → in_corridor s times levels (Some t) z spot ≡ ((wants s t z spot && (s.has_m || times)) && (is_about s || levels))

-- a place that is near a segment is at most half the width away from its x, and from its y
abbrev pub NearPlacesAreWithin : Type 0
NearPlacesAreWithin = (p a b : Spot) (width : ℤ) → pos 0 ≤ℤ width → near_segment p a b width ≡ true
    → (within_half a.x b.x width p.x ≡ true) × (within_half a.y b.y width p.y ≡ true)
