-- Where, when and at which levels data lie (OGC 19-086r6, the member `extent`).
use Rattle.std.specs.Prelude.{ℕ, ℤ, pos, int_le, if◌then◌else◌, List, [], ◌∷◌, map, Option, None, Some, is_some, codes}
use Rattle.std.specs.List.{flat_map, list_any}
use Rattle.serde_json.specs.Data.{Data, string, object, no_members, member}
use Rattle.edr_axes.specs.Instants.{instant_text}
use Rattle.covjson_value.specs.Trees.{member_if, array_of, integer}
use Rattle.covjson_value.specs.Samples.{values_or_none}
use Rattle.edr_station.specs.Stations.{StationValue}
use Rattle.edr_edition.specs.Stores.{Held, of_grid, of_stations}

abbrev pub lower : ℤ → ℤ → ℤ
lower a b = if int_le a b then a else b

abbrev pub higher : ℤ → ℤ → ℤ
higher a b = if int_le a b then b else a

-- the least of some values
abbrev pub least : List ℤ → ℤ
least [] = pos 0
least (v ∷ []) = v
least (v ∷ (w ∷ values)) = lower v (least (w ∷ values))

-- the greatest of some values
abbrev pub greatest : List ℤ → ℤ
greatest [] = pos 0
greatest (v ∷ []) = v
greatest (v ∷ (w ∷ values)) = higher v (greatest (w ∷ values))

-- all coordinates, times and levels of some data
pub record Coordinates : Type 0 where
  pub xs : List ℤ
  pub ys : List ℤ
  pub ts : List ℤ
  pub zs : Option (List ℤ)

-- the levels of stations, where one of them has levels
abbrev pub levels_of_stations : List StationValue → Option (List ℤ)
levels_of_stations stations =
    if list_any (λ (s : StationValue). is_some s.zs) stations then Some (flat_map (λ (s : StationValue). values_or_none s.zs) stations) else None

abbrev pub coordinates_of_stations : List StationValue → Coordinates
coordinates_of_stations stations = record {
  xs = map (λ (s : StationValue). s.x) stations;
  ys = map (λ (s : StationValue). s.y) stations;
  ts = flat_map (λ (s : StationValue). s.ts) stations;
  zs = levels_of_stations stations;
}

-- those of all stations; there are none where there is no station
abbrev pub coordinates_where_some : List StationValue → Option Coordinates
coordinates_where_some [] = None
coordinates_where_some (s ∷ stations) = Some (coordinates_of_stations (s ∷ stations))

-- those of a grid, or of all stations
abbrev pub coordinates_of : Held → Option Coordinates
coordinates_of (of_grid i) = Some (record { xs = i.xs; ys = i.ys; ts = i.ts; zs = i.zs })
coordinates_of (of_stations parameters stations) = coordinates_where_some stations

abbrev pub time_data : ℤ → Data
time_data time = string (instant_text time)

-- an interval: the least and the greatest value
abbrev pub interval_data : (ℤ → Data) → List ℤ → Data
interval_data data_of values = object (member (codes "interval") (array_of (array_of data_of) ((least values ∷ greatest values ∷ []) ∷ [])) no_members)

-- a box: the least x and y, and the greatest
abbrev pub box_of : Coordinates → List ℤ
box_of c = least c.xs ∷ least c.ys ∷ greatest c.xs ∷ greatest c.ys ∷ []

abbrev pub spatial_data : List ℕ → Coordinates → Data
spatial_data crs c = object (member (codes "bbox") (array_of (array_of integer) (box_of c ∷ [])) (member (codes "crs") (string crs) no_members))

-- the levels of data that have some
abbrev pub vertical_data : Option (List ℤ) → Option Data
vertical_data None = None
vertical_data (Some zs) = Some (interval_data integer zs)

abbrev pub extent_data : List ℕ → Coordinates → Data
extent_data crs c =
    object (member (codes "spatial") (spatial_data crs c)
    (member (codes "temporal") (interval_data time_data c.ts)
    (member_if (codes "vertical") (vertical_data c.zs) no_members)))
