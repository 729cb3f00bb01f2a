-- For private clauses: numbers and positions as they are kept, and counted.
use Rattle.std.specs.Prelude.{ℕ, ◌+◌, min, ℤ, pos, ◌+ℤ◌, nat_le, if◌then◌else◌, map}
use Rattle.std.specs.Int.RustNames.{unsigned_abs}
use Rattle.edr_base.specs.Limits.{position_limit, latest_time}
use Rattle.edr_wkt.specs.declared.geometry.Polygon.{Polygon}
use Rattle.edr_base.specs.declared.places.Position.{Position}

-- a number as it is kept: itself, or one beyond the latest time where its size is beyond every limit
abbrev pub kept_number : ℤ → ℤ
kept_number z = if nat_le (unsigned_abs z) (unsigned_abs latest_time) then z else latest_time +ℤ pos 1

-- a position as it is kept
abbrev pub kept : Position → Position
kept p = record { x = kept_number p.x; y = kept_number p.y; z = kept_number p.z; m = kept_number p.m }

-- a polygon as it is kept
abbrev pub kept_polygon : Polygon → Polygon
kept_polygon polygon = record { rings = map (map kept) polygon.rings }

-- how many positions there are with n more, up to one beyond the limit
abbrev pub counted : ℕ → ℕ → ℕ
counted before n = min (before + n) (position_limit + 1)
