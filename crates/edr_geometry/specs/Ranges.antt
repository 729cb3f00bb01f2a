-- Ranges of the places of a row, and those near a segment.
use Rattle.std.specs.Prelude.{◌≡◌, ℕ, ◌≤◌, nat_le, nat_lt, ℤ, Bool, ◌&&◌, ◌||◌}
use Rattle.edr_base.specs.declared.places.Spot.{Spot}
use Rattle.edr_geometry.specs.declared.strips.NearRanges.{NearRanges}
use Rattle.edr_geometry.specs.Planar.{near_segment}

-- a place lies in a range: from its first place to before its end
abbrev pub lies_in : ℕ × ℕ → ℕ → Bool
lies_in range place = nat_le range.0 place && nat_lt place range.1

-- a place lies in one of three ranges
abbrev pub lies_in_some : NearRanges → ℕ → Bool
lies_in_some ranges place = lies_in ranges.before place || (lies_in ranges.beside place || lies_in ranges.behind place)

-- a range of so many places
abbrev pub IsRange : ℕ → ℕ × ℕ → Type 0
IsRange count range = (range.0 ≤ range.1) × (range.1 ≤ count)

pub record AreRanges (count : ℕ) (ranges : NearRanges) : Type 0 where
  pub before : IsRange count ranges.before
  pub beside : IsRange count ranges.beside
  pub behind : IsRange count ranges.behind

-- a segment, and the whole width of the strip about it, in metres
pub record StripValue : Type 0 where
  pub a : Spot
  pub b : Spot
  pub width : ℤ

-- x and y of a place exchanged
abbrev pub exchanged : Spot → Spot
exchanged p = record { x = p.y; y = p.x }

-- a place is near a segment exactly where both are with x and y exchanged
abbrev pub NearIsExchanged : Type 0
NearIsExchanged = (p a b : Spot) (width : ℤ) → near_segment (exchanged p) (exchanged a) (exchanged b) width ≡ near_segment p a b width
