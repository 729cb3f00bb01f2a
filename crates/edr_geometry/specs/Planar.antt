-- Tests of a place in the plane, in whole numbers (OGC 06-103r4, section 6.1).
use Rattle.std.specs.Prelude.{ℕ, ◌%◌, ◌==◌, ℤ, pos, ◌-ℤ◌, ◌+ℤ◌, ◌*ℤ◌, int_lt, int_le, Bool, ◌&&◌, ◌||◌, if◌then◌else◌, List, [], ◌∷◌, count_by}
use Rattle.std.specs.Ordering.{int_eq}
use Rattle.std.specs.List.{list_any, flat_map}
use Rattle.edr_base.specs.declared.places.Position.{Position}
use Rattle.edr_base.specs.declared.places.Spot.{Spot}
use Rattle.edr_base.specs.Boxes.{is_between}
use Rattle.edr_wkt.specs.declared.geometry.Polygon.{Polygon}

-- the place of a position
abbrev pub spot_of : Position → Spot
spot_of p = record { x = p.x; y = p.y }

-- v lies from one to the other, whichever is less
abbrev pub is_among : ℤ → ℤ → ℤ → Bool
is_among one other v = is_between one other v || is_between other one v

-- the cross product of b - a and p - a: above 0 where p is to the left of the way from a to b
abbrev pub cross : Spot → Spot → Spot → ℤ
cross p a b = (b.x -ℤ a.x) *ℤ (p.y -ℤ a.y) -ℤ (b.y -ℤ a.y) *ℤ (p.x -ℤ a.x)

-- the scalar product of b - a and p - a: from 0 to the squared length where p stands beside the segment
abbrev pub along : Spot → Spot → Spot → ℤ
along p a b = (b.x -ℤ a.x) *ℤ (p.x -ℤ a.x) +ℤ (b.y -ℤ a.y) *ℤ (p.y -ℤ a.y)

-- the square of the distance of two places
abbrev pub squared_distance : Spot → Spot → ℤ
squared_distance a b = (a.x -ℤ b.x) *ℤ (a.x -ℤ b.x) +ℤ (a.y -ℤ b.y) *ℤ (a.y -ℤ b.y)

-- p is on the line through a and b, and in both ranges of the ends
abbrev pub on_segment : Spot → Spot → Spot → Bool
on_segment p a b = int_eq (cross p a b) (pos 0) && (is_among a.x b.x p.x && is_among a.y b.y p.y)

-- the way from a to b goes from below p's row or on it to above it
abbrev pub rises : Spot → Spot → Spot → Bool
rises p a b = int_le a.y p.y && int_lt p.y b.y

-- the edge passes p's row one way or the other, its lower end counted, at a larger x than p's
abbrev pub crosses : Spot → Spot → Spot → Bool
crosses p a b = (rises p a b && int_lt (pos 0) (cross p a b)) || (rises p b a && int_lt (cross p a b) (pos 0))

-- an edge of a ring
pub record Edge : Type 0 where
  pub start : Spot
  pub end : Spot

-- the edges from each position to the next
abbrev pub edges_along : List Position → List Edge
edges_along [] = []
edges_along (p ∷ []) = []
edges_along (p ∷ (q ∷ ps)) = record { start = spot_of p; end = spot_of q } ∷ edges_along (q ∷ ps)

-- the edges of all rings
abbrev pub edges_of : Polygon → List Edge
edges_of polygon = flat_map edges_along polygon.rings

-- an odd number
abbrev pub is_odd : ℕ → Bool
is_odd n = n % 2 == 1

-- p is on an edge of some ring, borders of holes included, or an odd number of the edges of all rings crosses
abbrev pub in_polygon : Spot → Polygon → Bool
in_polygon p polygon = list_any (λ e. on_segment p e.start e.end) (edges_of polygon) || is_odd (count_by (λ e. crosses p e.start e.end) (edges_of polygon))

-- p is in one of the polygons
abbrev pub in_polygons : Spot → List Polygon → Bool
in_polygons p polygons = list_any (in_polygon p) polygons

-- p is at most the radius from the centre
abbrev pub in_disc : Spot → Spot → ℤ → Bool
in_disc p centre radius = int_le (squared_distance p centre) (radius *ℤ radius)

-- p is at most half the width from the segment: from its start where p stands before it, from its end where p stands behind it, else from its line
abbrev pub near_segment : Spot → Spot → Spot → ℤ → Bool
near_segment p a b width =
    if int_le (squared_distance a b) (pos 0) || int_le (along p a b) (pos 0) then int_le (pos 4 *ℤ squared_distance p a) (width *ℤ width) else
    if int_le (squared_distance a b) (along p a b) then int_le (pos 4 *ℤ squared_distance p b) (width *ℤ width) else
    int_le (pos 4 *ℤ (cross p a b *ℤ cross p a b)) (width *ℤ width *ℤ squared_distance a b)
