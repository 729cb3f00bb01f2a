-- Boxes of places.
use Rattle.std.specs.Prelude.{ℤ, int_le, Bool, ◌&&◌}
use Rattle.edr_base.specs.declared.places.Spot.{Spot}

-- a number is from one to another, both included
abbrev pub is_between : ℤ → ℤ → ℤ → Bool
is_between low high value = int_le low value && int_le value high

-- a place is in the box of two corners, its borders included
abbrev pub in_box : Spot → Spot → Spot → Bool
in_box spot lo hi = is_between lo.x hi.x spot.x && is_between lo.y hi.y spot.y
