-- For private clauses: one segment, the numbers about its ends, and the rectangles of the nodes near it.
use Rattle.std.specs.Prelude.{◌≡◌, ℕ, ◌+◌, ◌<◌, ℤ, pos, ◌+ℤ◌, ◌-ℤ◌, ◌*ℤ◌, int_le, ◌==◌, Bool, true, false, ◌&&◌, ◌||◌, List, length, Option, None, Some, is_some, IsSome, IfSome}
use Rattle.std.specs.List.{All, list_any}
use Rattle.edr_base.specs.declared.places.Position.{Position}
use Rattle.edr_wkt.specs.Faults.{IsInRange}
use Rattle.edr_axes.specs.Axes.{value_at}
use Rattle.edr_base.specs.Limits.{IsCoordinate, IsMetres}
use Rattle.edr_geometry.specs.Limits.{IsSpot}
use Rattle.edr_geometry.specs.Masks.{spot_at}
use Rattle.edr_geometry.specs.Planar.{spot_of, near_segment}
use Rattle.edr_geometry.specs.Ranges.{StripValue, lies_in, IsRange}
use Rattle.edr_corridor.specs.declared.bands.Band.{Band}
use Rattle.edr_corridor.specs.declared.boxes.Rectangle.{Rectangle}
use Rattle.edr_corridor.specs.declared.segment.Node.{Node}
use Rattle.edr_corridor.specs.declared.segment.Segment.{Segment}
use Rattle.edr_corridor.specs.declared.segment.Rule.{Rule}
use Rattle.edr_corridor.specs.Values.{SegmentsValue}
use Rattle.edr_corridor.specs.Segments.{takes_between, takes_height, within_half, at_segment}
use Rattle.edr_corridor.specs.Boxes.{has_place, have_place, IsWithin}

-- ---- bands

-- numbers within the limits
pub record IsBand (band : Band) : Type 0 where
  pub low_in : IsCoordinate band.low
  pub high_in : IsCoordinate band.high
  pub whole_in : IsMetres band.whole

-- at most half the whole below the low number and above the high one
abbrev pub band_has : Band → ℤ → Bool
band_has band v = int_le (pos 2 *ℤ band.low -ℤ band.whole) (pos 2 *ℤ v) && int_le (pos 2 *ℤ v) (pos 2 *ℤ band.high +ℤ band.whole)

-- the band has the numbers at most half a whole away from those from one to the other
abbrev pub IsAbout : Band → ℤ → ℤ → ℤ → Type 0
IsAbout band one other whole = (v : ℤ) → band_has band v ≡ within_half one other whole v

-- a band of levels has a level; where there is none, each node has one
abbrev pub has_level : Option Band → Option ℤ → Bool
has_level None level = true
has_level (Some band) None = false
has_level (Some band) (Some level) = band_has band level

-- ---- segments

-- numbers within the limits, and a height where one is needed
pub record IsRule (rule : Rule) : Type 0 where
  pub width_in : IsMetres rule.width
  pub level_in : IfSome rule.level IsCoordinate
  pub height_in : IfSome rule.height IsMetres
  pub height_about_z : rule.has_z ≡ true → IsSome rule.height
  pub height_about_level : IsSome rule.level → IsSome rule.height

-- the line has z or a level is asked
abbrev pub needs_level : Rule → Bool
needs_level rule = rule.has_z || is_some rule.level

pub record IsSegment (segment : Segment) : Type 0 where
  pub start_in : IsInRange segment.start
  pub end_in : IsInRange segment.end
  pub rule_in : IsRule segment.rule

pub record IsPlacedNode (node : Node) : Type 0 where
  pub level_in : IfSome node.z IsCoordinate
  pub spot_in : IsSpot node.spot

abbrev pub has_time : Segment → Option ℤ → Bool
has_time segment t = takes_between segment.rule.has_m t segment.start.m segment.end.m true

abbrev pub has_height : Segment → Option ℤ → Bool
has_height segment z = takes_height segment.rule.has_z z segment.start.z segment.end.z segment.rule.height segment.rule.level true

abbrev pub has_spot : Segment → ℤ → ℤ → Bool
has_spot segment y x = near_segment (spot_at y x) (spot_of segment.start) (spot_of segment.end) segment.rule.width

-- no place of some y and x is near the segment
abbrev pub HasNone : Segment → List ℤ → List ℤ → Type 0
HasNone segment ys xs = (y x : ℕ) → y < length ys → x < length xs → has_spot segment (value_at ys y) (value_at xs x) ≡ false

-- the segment of a number, under the rule of its line
pub record IsSegmentAt (s : SegmentsValue) (number : ℕ) (segment : Segment) : Type 0 where
  pub rule_is : segment.rule ≡ record { has_z = s.has_z; has_m = s.has_m; width = s.width; level = s.level; height = s.height }
  pub ends_are : (test : Position → Position → Bool) → at_segment test s.line number ≡ test segment.start segment.end

-- ---- rectangles

-- a y, and an x, is at most half the width from those from one end of a segment to the other
abbrev pub near_y : Segment → ℤ → Bool
near_y segment y = within_half segment.start.y segment.end.y segment.rule.width y

abbrev pub near_x : Segment → ℤ → Bool
near_x segment x = within_half segment.start.x segment.end.x segment.rule.width x

-- a range has the places of the values that pass a test
pub record HasPlaces (values : List ℤ) (test : ℤ → Bool) (range : ℕ × ℕ) : Type 0 where
  pub inside : IsRange (length values) range
  pub lies : (place : ℕ) → place < length values → lies_in range place ≡ test (value_at values place)

-- some rectangles have the nodes of a plane that are near the segment, and no others
abbrev pub HaveSpots : Segment → List ℤ → List ℤ → List Rectangle → Type 0
HaveSpots segment ys xs rectangles = (y x : ℕ) → y < length ys → x < length xs → have_place rectangles y x ≡ has_spot segment (value_at ys y) (value_at xs x)

-- only nodes near in y and in x have a place in them
pub record AreNear (segment : Segment) (ys xs : List ℤ) (rectangles : List Rectangle) : Type 0 where
  pub rows : (y x : ℕ) → y < length ys → x < length xs → have_place rectangles y x ≡ true → near_y segment (value_at ys y) ≡ true
  pub columns : (y x : ℕ) → y < length ys → x < length xs → have_place rectangles y x ≡ true → near_x segment (value_at xs x) ≡ true

-- the rectangle of a range of places along a row, or along a column where it is upright
abbrev pub rectangle_along : Bool → ℕ → ℕ × ℕ → Rectangle
rectangle_along true line range = record { rows = range; columns = (line, line + 1) }
rectangle_along false line range = record { rows = (line, line + 1); columns = range }

-- a place along a line of a plane: along a row, or along a column
abbrev pub has_along : Bool → Rectangle → ℕ → ℕ → Bool
has_along true rectangle line place = has_place rectangle place line
has_along false rectangle line place = has_place rectangle line place

abbrev pub have_along : Bool → List Rectangle → ℕ → ℕ → Bool
have_along upright rectangles line place = list_any (λ rectangle. has_along upright rectangle line place) rectangles

-- rectangles lie on so many lines of so many places
abbrev pub AreAlong : Bool → ℕ → ℕ → List Rectangle → Type 0
AreAlong true lines places rectangles = All (IsWithin places lines) rectangles
AreAlong false lines places rectangles = All (IsWithin lines places) rectangles

-- rectangles have more places than others had: those of a range along a line
abbrev pub HaveMore : Bool → ℕ → ℕ × ℕ → List Rectangle → List Rectangle → Type 0
HaveMore upright line range old new = (l p : ℕ) → have_along upright new l p ≡ (have_along upright old l p || ((l == line) && lies_in range p))

-- rectangles have the places of the lines of a range that are near a strip, and no others
abbrev pub HaveNear : Bool → StripValue → List ℤ → List ℤ → ℕ × ℕ → List Rectangle → Type 0
HaveNear upright strip lines values range rectangles = (l p : ℕ) → l < length lines → p < length values
    → have_along upright rectangles l p ≡ (lies_in range l && near_segment (spot_at (value_at lines l) (value_at values p)) strip.a strip.b strip.width)
