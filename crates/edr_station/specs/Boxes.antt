-- Stations inside a box.
use Rattle.std.specs.Prelude.{ℕ, Bool, List, map}
use Rattle.std.specs.List.{filter, enumerate_from}
use Rattle.edr_base.specs.declared.places.Spot.{Spot}
use Rattle.edr_base.specs.Boxes.{in_box}
use Rattle.edr_station.specs.Stations.{StationValue}

-- the station is inside the box of two corners, borders included
abbrev pub is_inside : Spot → Spot → StationValue → Bool
is_inside lo hi s = in_box (record { x = s.x; y = s.y }) lo hi

-- a station beside its place
abbrev pub Placed : Type 0
Placed = ℕ × StationValue

abbrev pub place_of : Placed → ℕ
place_of placed = placed.0

abbrev pub is_placed_inside : Spot → Spot → Placed → Bool
is_placed_inside lo hi placed = is_inside lo hi placed.1

-- the places of the stations inside, ascending, where the first station's place is `first`
abbrev pub places_from : ℕ → Spot → Spot → List StationValue → List ℕ
places_from first lo hi stations = map place_of (filter (is_placed_inside lo hi) (enumerate_from first stations))

abbrev pub places_inside : Spot → Spot → List StationValue → List ℕ
places_inside lo hi stations = places_from 0 lo hi stations
