-- For private clauses: whole numbers from one to another, and the parts of the strip about a segment.
use Rattle.std.specs.Prelude.{◌≡◌, ◌≤◌, ◌*◌, ℤ, pos, ◌-ℤ◌, ◌*ℤ◌, int_le, int_lt, Bool, ◌&&◌}
use Rattle.std.specs.Int.RustNames.{unsigned_abs}
use Rattle.edr_base.specs.declared.places.Spot.{Spot}
use Rattle.edr_base.specs.Boxes.{is_between}
use Rattle.edr_base.specs.Limits.{coordinate_limit}
use Rattle.edr_geometry.specs.declared.spans.Span.{Span}
use Rattle.edr_geometry.specs.declared.strips.Measures.{Measures}
use Rattle.edr_geometry.specs.Planar.{along, cross, squared_distance}
use Rattle.edr_geometry.specs.Ways.{IsSegment}

-- a span has a number
abbrev pub has : Span → ℤ → Bool
has span v = is_between span.low span.high v

-- a way's part along an axis
abbrev pub IsPart : ℤ → Type 0
IsPart v = unsigned_abs v ≤ 2 * coordinate_limit

-- a number that is compared with products of coordinates and of parts of ways
abbrev pub IsBound : ℤ → Type 0
IsBound v = unsigned_abs v ≤ 200_000_000_000_000_000

-- ---- a place near a segment stands in one of three parts of the strip about it

-- before the start and in the disc about it
abbrev pub is_before_start : Spot → Spot → Spot → ℤ → Bool
is_before_start p a b width = int_le (along p a b) (pos 0) && int_le (pos 4 *ℤ squared_distance p a) (width *ℤ width)

-- beside the segment and near its line
abbrev pub is_beside : Spot → Spot → Spot → ℤ → Bool
is_beside p a b width =
    (int_lt (pos 0) (along p a b) && int_lt (along p a b) (squared_distance a b))
    && int_le (pos 4 *ℤ (cross p a b *ℤ cross p a b)) (width *ℤ width *ℤ squared_distance a b)

-- behind the end and in the disc about it
abbrev pub is_behind_end : Spot → Spot → Spot → ℤ → Bool
is_behind_end p a b width = int_le (squared_distance a b) (along p a b) && int_le (pos 4 *ℤ squared_distance p b) (width *ℤ width)

-- the numbers of a strip that are the same for each row are those of its segment
pub record AreMeasures (m : Measures) : Type 0 where
  pub segment : IsSegment m.segment
  pub x : m.way.x ≡ m.segment.b.x -ℤ m.segment.a.x
  pub y : m.way.y ≡ m.segment.b.y -ℤ m.segment.a.y
  pub length : m.length ≡ squared_distance m.segment.a m.segment.b
  pub radius_in : unsigned_abs m.radius ≤ 40_000_000_000_000_000
  pub radius : (d : ℤ) → int_le d m.radius ≡ int_le (pos 4 *ℤ d) (m.segment.width *ℤ m.segment.width)
  pub breadth_in : unsigned_abs m.breadth ≤ 60_000_000_000_000_000
  pub breadth : (s : ℤ) → is_between (pos 0 -ℤ m.breadth) m.breadth s ≡ int_le (pos 4 *ℤ (s *ℤ s)) (m.segment.width *ℤ m.segment.width *ℤ squared_distance m.segment.a m.segment.b)
