-- The station that is nearest to a place.
use Rattle.std.specs.Prelude.{◌≡◌, ◌↔◌, ℕ, List, [], Contains, Option, MatchOption}
use Rattle.edr_base.specs.declared.places.Spot.{Spot}
use Rattle.edr_near.specs.Near.{distance_of}
use Rattle.edr_near.specs.Cells.{CellValue, AreCells, Has, distances}
use Rattle.edr_near.specs.Looks.{AreLooks}
use Rattle.edr_station.specs.Stations.{StationValue, station_id, station_spot}

-- these stations stand in the cells, and no others
abbrev pub HaveThese : List (CellValue StationValue) → List StationValue → Type 0
HaveThese cells stations = (s : StationValue) → Has cells s ↔ Contains stations s

-- the cells that some stations stand in
pub record AreCellsOf (stations : List StationValue) (cells : List (CellValue StationValue)) : Type 0 where
  pub are : AreCells station_spot cells
  pub have : HaveThese cells stations

-- the numbers of those cells whose squares aren't farther from a place than the station that is found, in ascending order, each
-- once; none where no station is found
pub record AreLookedAt (spot : Spot) (stations : List StationValue) (found : Option StationValue) (numbers : List ℕ) : Type 0 where
  pub cells : List (CellValue StationValue)
  pub stand : AreCellsOf stations cells
  pub looked : MatchOption found (numbers ≡ []) (λ s. AreLooks (distances spot cells) (distance_of station_id station_spot spot s) numbers)
