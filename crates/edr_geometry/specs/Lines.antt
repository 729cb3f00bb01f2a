-- For private clauses: places along a row or a column, and what the edges of a polygon toggle and mark along them.
use Rattle.std.specs.Prelude.{◌≡◌, ℕ, ◌+◌, ◌<◌, ◌≤◌, nat_lt, ℤ, Bool, not, if◌then◌else◌, List, count_by}
use Rattle.std.specs.List.{All, list_any}
use Rattle.edr_base.specs.declared.places.Spot.{Spot}
use Rattle.edr_axes.specs.Axes.{value_at}
use Rattle.edr_base.specs.Limits.{IsCoordinate}
use Rattle.edr_geometry.specs.Masks.{spot_at}
use Rattle.edr_geometry.specs.Planar.{Edge, is_odd, crosses, on_segment, in_polygon}
use Rattle.edr_wkt.specs.declared.geometry.Polygon.{Polygon}

-- numbers along a row of one y; or upright, along a column of one x
pub record LineValue : Type 0 where
  pub upright : Bool
  pub at : ℤ
  pub values : List ℤ

pub record IsLine (line : LineValue) : Type 0 where
  pub at_in : IsCoordinate line.at
  pub values_in : All IsCoordinate line.values

-- the place of a number along a line, and that of the number at a place
abbrev pub spot_on : LineValue → ℤ → Spot
spot_on line v = if line.upright then spot_at v line.at else spot_at line.at v

abbrev pub spot_along : LineValue → ℕ → Spot
spot_along line place = spot_on line (value_at line.values place)

-- a truth value, changed where the first is true
abbrev pub flip_if : Bool → Bool → Bool
flip_if flips b = if flips then not b else b

-- a cut of a line is told by how many places stand behind it
abbrev pub AreCuts : ℕ → List ℕ → Type 0
AreCuts count cuts = All (λ cut. cut ≤ count) cuts

-- an odd number of cuts stands behind a place
abbrev pub odd_behind : ℕ → List ℕ → ℕ → Bool
odd_behind count cuts place = is_odd (count_by (λ cut. nat_lt (place + cut) count) cuts)

-- at each place where a test holds, odd and even are changed, and at no other
abbrev pub Toggles : ℕ → List ℕ → List ℕ → (ℕ → Bool) → Type 0
Toggles count old new test = (place : ℕ) → place < count → odd_behind count new place ≡ flip_if (test place) (odd_behind count old place)

-- an odd number of these edges crosses for a place of a line
abbrev pub odd_crossed : LineValue → List Edge → ℕ → Bool
odd_crossed line edges place = is_odd (count_by (λ e. crosses (spot_along line place) e.start e.end) edges)

-- a place of a line is on one of these edges
abbrev pub on_edges : LineValue → List Edge → ℕ → Bool
on_edges line edges place = list_any (λ e. on_segment (spot_along line place) e.start e.end) edges

-- a place of a line is in a polygon
abbrev pub in_polygon_at : LineValue → Polygon → ℕ → Bool
in_polygon_at line polygon place = in_polygon (spot_along line place) polygon
