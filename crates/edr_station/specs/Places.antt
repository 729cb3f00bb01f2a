-- Where an id stands among ascending ids: for private clauses.
use Rattle.std.specs.Prelude.{◌≡◌, ◌⊎◌, ℕ, ◌+◌, ◌<◌, ◌≤◌, ◌^◌, true, List, length, Result, Ok, Err}
use Rattle.std.specs.List.{slice_index_or}
use Rattle.edr_ids.specs.Ids.{is_below, is_above}
use Rattle.edr_station.specs.Stations.{StationValue, StationsValue, AreStations, station_id}
use Rattle.edr_station.specs.Blocks.{blocks}

-- the stations before a place have lower ids
abbrev pub AreBelow : List ℕ → List StationValue → ℕ → Type 0
AreBelow id stations place = (at : ℕ) (d : StationValue) → at < place → is_below station_id id (slice_index_or stations at d) ≡ true

-- those from a place on have higher ids
abbrev pub AreAbove : List ℕ → List StationValue → ℕ → Type 0
AreAbove id stations place = (at : ℕ) (d : StationValue) → place ≤ at → at < length stations → is_above station_id id (slice_index_or stations at d) ≡ true

-- the place of the station of an id, or the place where it would stand
abbrev pub IsPlaceOf : List ℕ → List StationValue → Result ℕ ℕ → Type 0
IsPlaceOf id stations (Ok place) = (place < length stations) × ((d : StationValue) → (slice_index_or stations place d).id ≡ id)
IsPlaceOf id stations (Err place) = (place ≤ length stations) × AreBelow id stations place × AreAbove id stations place

-- where the station of an id stands, up to the place behind it, or where it would stand
abbrev pub IsSpanOf : List ℕ → List StationValue → ℕ → ℕ → Type 0
IsSpanOf id stations place end = ((end ≡ place) × IsPlaceOf id stations (Err place)) ⊎ ((end ≡ place + 1) × IsPlaceOf id stations (Ok place))

-- the stations of a collection, whose blocks can be counted
pub record AreKept (collection : StationsValue) : Type 0 where
  pub stations : AreStations collection
  pub counted : blocks collection.parameters collection.stations < 2 ^ 64
