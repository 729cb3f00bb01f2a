-- What the segments of a line take in a corridor: one and the same segment takes time, level and place together (OGC 19-086r6, section 8).
use Rattle.std.specs.Prelude.{ℕ, zero, suc, ℤ, pos, ◌+ℤ◌, ◌-ℤ◌, ◌*ℤ◌, int_le, Bool, true, false, ◌&&◌, ◌||◌, List, [], ◌∷◌, Option, None, Some}
use Rattle.std.specs.List.{list_any, range_with_len}
use Rattle.edr_base.specs.declared.places.Position.{Position}
use Rattle.edr_base.specs.declared.places.Spot.{Spot}
use Rattle.edr_geometry.specs.Planar.{spot_of, is_among, near_segment}
use Rattle.edr_corridor.specs.Values.{SegmentsValue}

-- with m the times of a segment, both ends included, and else those that are asked
abbrev pub takes_between : Bool → Option ℤ → ℤ → ℤ → Bool → Bool
takes_between true None first last asked = false
takes_between true (Some t) first last asked = is_among first last t
takes_between false time first last asked = asked

-- twice a number is at most a whole away from twice the numbers from one to the other: half the whole lies on both sides
abbrev pub within_half : ℤ → ℤ → ℤ → ℤ → Bool
within_half one other whole v =
    (int_le (pos 2 *ℤ one -ℤ whole) (pos 2 *ℤ v) || int_le (pos 2 *ℤ other -ℤ whole) (pos 2 *ℤ v))
    && (int_le (pos 2 *ℤ v) (pos 2 *ℤ one +ℤ whole) || int_le (pos 2 *ℤ v) (pos 2 *ℤ other +ℤ whole))

-- the levels of a segment: those about its z, or about a single level that is asked, or those that are asked
abbrev pub takes_height : Bool → Option ℤ → ℤ → ℤ → Option ℤ → Option ℤ → Bool → Bool
takes_height true (Some level) one other (Some height) single asked = within_half one other height level
takes_height true (Some level) one other None single asked = false
takes_height true None one other height single asked = false
takes_height false (Some level) one other (Some height) (Some only) asked = within_half only only height level
takes_height false None one other (Some height) (Some only) asked = false
takes_height false level one other height single asked = asked

-- a segment takes time, level and place together. `times` and `levels` say whether those that are asked have the time and the level
abbrev pub segment_takes : SegmentsValue → Bool → Bool → Option ℤ → Option ℤ → Spot → Position → Position → Bool
segment_takes s times levels t z spot a b =
    takes_between s.has_m t a.m b.m times && (takes_height s.has_z z a.z b.z s.height s.level levels && near_segment spot (spot_of a) (spot_of b) s.width)

-- a segment of the line passes a test
abbrev pub any_segment : (Position → Position → Bool) → List Position → Bool
any_segment test [] = false
any_segment test (p ∷ []) = false
any_segment test (p ∷ (q ∷ positions)) = test p q || any_segment test (q ∷ positions)

-- the segment of a number, from 0, passes a test
abbrev pub at_segment : (Position → Position → Bool) → List Position → ℕ → Bool
at_segment test [] number = false
at_segment test (p ∷ []) number = false
at_segment test (p ∷ (q ∷ positions)) zero = test p q
at_segment test (p ∷ (q ∷ positions)) (suc number) = at_segment test (q ∷ positions) number

-- one of the first segments, so many, passes a test
abbrev pub first_takes : (Position → Position → Bool) → List Position → ℕ → Bool
first_takes test line count = list_any (at_segment test line) (range_with_len 0 count)

-- one and the same segment takes time, level and place
abbrev pub in_corridor : SegmentsValue → Bool → Bool → Option ℤ → Option ℤ → Spot → Bool
in_corridor s times levels t z spot = any_segment (segment_takes s times levels t z spot) s.line

-- the same where each time and each level is asked
abbrev pub wants : SegmentsValue → ℤ → Option ℤ → Spot → Bool
wants s t z spot = in_corridor s true true (Some t) z spot
