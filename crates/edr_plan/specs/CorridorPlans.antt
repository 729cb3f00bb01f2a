-- What is planned for the stations along a corridor; for private clauses.
use Rattle.std.specs.Prelude.{◌≡◌, ℕ, ◌+◌, ◌*◌, ◌-ℤ◌, ◌+ℤ◌, ◌≤ℤ◌, Bool, true, false, IsSome, All, ℤ, List, [], ◌∷◌, map, length, Option, None, Some}
use Rattle.std.specs.List.{flat_map, range_with_len, slice_index_or}
use Rattle.edr_axes.specs.Axes.{value_at}
use Rattle.edr_base.specs.declared.places.Position.{Position}
use Rattle.edr_base.specs.declared.places.Spot.{Spot}
use Rattle.edr_geometry.specs.Planar as plane
use Rattle.edr_geometry.specs.Planar.{near_segment}
use Rattle.edr_wkt.specs.declared.geometry.Geometry.{Geometry}
use Rattle.edr_wkt.specs.Geometries.{line_of}
use Rattle.covjson_value.specs.Samples.{node}
use Rattle.edr_station.specs.Stations.{StationValue, station_at}
use Rattle.edr_corridor.specs.Boxes.{GridAxes, level_at}
use Rattle.edr_corridor.specs.Segments.{any_segment}
use Rattle.edr_corridor.specs.Values.{SegmentsValue, needs_level}
use Rattle.edr_query.specs.declared.shapes.Shape.TheVariants as at
use Rattle.edr_query.specs.Values.{QueryValue}
use Rattle.edr_select.specs.Lines.{segments_of, in_corridor}
use Rattle.edr_select.specs.Stacks.{SidesValue, StackValue, plane_number}
use Rattle.edr_plan.specs.StationPlaces.{cell_of, spot_of, cell_if, Test, ChoiceValue, IsOfStations}

-- the corridor of a query
pub record CorridorValue : Type 0 where
  pub line : Geometry
  pub width : ℤ
  pub height : Option ℤ

-- with its segments
pub record LineValue : Type 0 where
  pub segments : SegmentsValue
  pub corridor : CorridorValue

-- the query is that of a corridor
abbrev pub IsAlong : QueryValue → CorridorValue → Type 0
IsAlong q c = q.shape ≡ at.Corridor c.line c.width c.height

-- where a level is needed each station has levels
abbrev pub HasLevelsWanted : List StationValue → SegmentsValue → Type 0
HasLevelsWanted stations segments = needs_level segments ≡ true → All (λ (s : StationValue). IsSome s.zs) stations

pub record IsLineOf (q : QueryValue) (l : LineValue) : Type 0 where
  pub shape : IsAlong q l.corridor
  pub segments : l.segments ≡ segments_of q l.corridor.line l.corridor.width l.corridor.height

-- the line of a query, or none where its shape takes stations by their place or their id
abbrev pub IsLineIf : QueryValue → List StationValue → Option LineValue → Type 0
IsLineIf q stations None = IsOfStations q.shape
IsLineIf q stations (Some line) = IsLineOf q line × HasLevelsWanted stations line.segments

-- what a corridor takes of a station
abbrev pub takes_along : QueryValue → CorridorValue → StationValue → Test
takes_along q c s t z = in_corridor q c.line c.width c.height (node (Some (value_at s.ts t)) (level_at s.zs z) s.y s.x)

-- ---- stacks of a station

-- a station as a grid of one row and one column
abbrev pub axes_of : StationValue → GridAxes
axes_of s = record { ts = s.ts; zs = s.zs; ys = s.y ∷ []; xs = s.x ∷ [] }

-- the times and levels of a stack
abbrev pub choice_in : SidesValue → ChoiceValue
choice_in sides = record { times = sides.times; levels = sides.levels }

-- the truth value of a time and a level of a stack of one row and one column
abbrev pub bit_at : StackValue → ℕ → ℕ → Bool
bit_at stack i j = slice_index_or stack.mask (plane_number stack.sides i j) false

-- the places of the levels of a time, the first of which is told, or none where one isn't taken
abbrev pub cells_at : ℕ → List ℕ → List Bool → List (Option ℕ)
cells_at first levels taken = map (λ j. cell_if (slice_index_or taken j false) (first + slice_index_or levels j 0)) (range_with_len 0 (length levels))

-- those of all times of a stack of one row and one column
abbrev pub cells_in : StationValue → StackValue → List (Option ℕ)
cells_in s stack =
    flat_map (λ i. map (λ j. cell_if (bit_at stack i j) (cell_of s (slice_index_or stack.sides.times i 0) (slice_index_or stack.sides.levels j 0)))
    (range_with_len 0 (length stack.sides.levels))) (range_with_len 0 (length stack.sides.times))

-- there is a truth value for each time and level of a stack
abbrev pub IsFull : StackValue → Type 0
IsFull stack = length stack.mask ≡ length stack.sides.times * length stack.sides.levels

-- ---- stations near a line

-- x and y are at most those of another place
pub record IsLower (lower other : Spot) : Type 0 where
  pub x : lower.x ≤ℤ other.x
  pub y : lower.y ≤ℤ other.y

-- and at most those of a position, or at least these
pub record IsBefore (least : Spot) (p : Position) : Type 0 where
  pub x : least.x ≤ℤ p.x
  pub y : least.y ≤ℤ p.y

pub record IsBehind (greatest : Spot) (p : Position) : Type 0 where
  pub x : p.x ≤ℤ greatest.x
  pub y : p.y ≤ℤ greatest.y

-- a position is so far inside a box, in x and in y
pub record IsNearBox (lo hi : Spot) (distance : ℤ) (p : Position) : Type 0 where
  pub left : lo.x ≤ℤ (p.x -ℤ distance)
  pub right : (p.x +ℤ distance) ≤ℤ hi.x
  pub low : lo.y ≤ℤ (p.y -ℤ distance)
  pub high : (p.y +ℤ distance) ≤ℤ hi.y

-- the station at a place is near a segment of a line
abbrev pub is_near : Geometry → ℤ → List StationValue → ℕ → Bool
is_near line width stations k = any_segment (λ a b. near_segment (spot_of (station_at stations k)) (plane.spot_of a) (plane.spot_of b) width) (line_of line)
