-- What is kept of one station: for private clauses.
use Rattle.std.specs.Prelude.{ℕ, ℤ, ◌^◌, ◌<◌, List, length, take, drop, Option}
use Rattle.edr_base.specs.declared.places.Spot.{Spot}
use Rattle.edr_station.specs.Stations.{StationValue, IsStation, values_along}

-- a station by what is kept of it: its names one behind the other, where it is, its axes and its values
abbrev pub station_with : List ℕ → ℕ → Spot → List ℤ → Option (List ℤ) → List (List (Option ℤ)) → StationValue
station_with names id_len spot ts zs series = record {
  id = take id_len names;
  label = drop id_len names;
  x = spot.x;
  y = spot.y;
  ts = ts;
  zs = zs;
  series = series;
}

-- a station of as many parameters as it has, whose values can be counted
pub record IsKept (s : StationValue) : Type 0 where
  pub station : IsStation (length s.series) s
  pub counted : values_along s < 2 ^ 64
