-- The stations of a collection (OGC 19-086r6, locations).
use Rattle.std.specs.Prelude.{◌≡◌, ℕ, ◌*◌, ℤ, pos, List, [], length, All, IfSome, IsUtf8, Option, None}
use Rattle.std.specs.List.{slice_index_or}
use Rattle.edr_base.specs.declared.places.Spot.{Spot}
use Rattle.edr_base.specs.Limits.{IsCoordinate, AreSamples}
use Rattle.edr_base.specs.Names.{IsName}
use Rattle.edr_axes.specs.Axes.{axis_length, IsAxis}
use Rattle.edr_axes.specs.Instants.{IsTime}
use Rattle.edr_ids.specs.Ids.{AscendBy}

-- a station: where it is, its times and levels, and for each parameter its values, in the order t, z
pub record StationValue : Type 0 where
  pub id : List ℕ
  pub label : List ℕ
  pub x : ℤ
  pub y : ℤ
  pub ts : List ℤ
  pub zs : Option (List ℤ)
  pub series : List (List (Option ℤ))

abbrev pub station_id : StationValue → List ℕ
station_id s = s.id

-- where a station is
abbrev pub station_spot : StationValue → Spot
station_spot s = record { x = s.x; y = s.y }

-- how many values each parameter of a station has: one for each time and level
abbrev pub values_along : StationValue → ℕ
values_along s = length s.ts * axis_length s.zs

-- an axis whose values are within the limits
pub record IsAxisWithin (IsValue : ℤ → Type 0) (values : List ℤ) : Type 0 where
  pub axis : IsAxis values
  pub within : All IsValue values

-- where and when a station is: a name, a label, a place, times, and levels where it has them
pub record IsPlaced (s : StationValue) : Type 0 where
  pub id : IsName s.id
  pub label : IsUtf8 s.label
  pub x : IsCoordinate s.x
  pub y : IsCoordinate s.y
  pub ts : IsAxisWithin IsTime s.ts
  pub zs : IfSome s.zs (IsAxisWithin IsCoordinate)

-- each parameter has one value for each time and level, and these are samples or missing
pub record HasSeries (parameters : ℕ) (s : StationValue) : Type 0 where
  pub many : length s.series ≡ parameters
  pub long : All (λ (values : List (Option ℤ)). length values ≡ values_along s) s.series
  pub samples : All AreSamples s.series

-- a station of so many parameters
pub record IsStation (parameters : ℕ) (s : StationValue) : Type 0 where
  pub placed : IsPlaced s
  pub has : HasSeries parameters s

-- the stations of a collection, and how many parameters each of them has
pub record StationsValue : Type 0 where
  pub parameters : ℕ
  pub stations : List StationValue

-- they stand in the order of their ids
pub record AreStations (collection : StationsValue) : Type 0 where
  pub each : All (IsStation collection.parameters) collection.stations
  pub ascending : AscendBy station_id collection.stations

-- no station: what stands past the last one
abbrev pub nowhere : StationValue
nowhere = record { id = []; label = []; x = pos 0; y = pos 0; ts = []; zs = None; series = [] }

-- the station at a place
abbrev pub station_at : List StationValue → ℕ → StationValue
station_at stations place = slice_index_or stations place nowhere
