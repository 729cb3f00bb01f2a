-- The parameters, the stations and the series of a table of observations.
use Rattle.std.specs.Prelude.{◌≡◌, ◌⊎◌, ◌↔◌, ℕ, ◌<◌, ℤ, codes, List, length, map, get_or, All, Contains, IsSome, Option, None}
use Rattle.covjson_value.specs.declared.domains.Domain.TheVariants.{PointSeries}
use Rattle.covjson_value.specs.declared.coverages.Parameter.{Parameter}
use Rattle.covjson_value.specs.declared.coverages.NdArray.{NdArray}
use Rattle.covjson_value.specs.declared.coverages.Coverage.{Coverage}
use Rattle.edr_axes.specs.Axes.{IsAxis, value_at}
use Rattle.edr_ids.specs.Ids.{AscendBy, item_of}
use Rattle.edr_csv.specs.declared.observations.Observation.{Observation}
use Rattle.edr_import.specs.declared.names.Name.{Name}
use Rattle.edr_import.specs.declared.sites.Site.{Site}
use Rattle.edr_import.specs.declared.stations.Station.{Station}

abbrev pub name_id : Name → List ℕ
name_id name = name.id

abbrev pub site_id : Site → List ℕ
site_id site = site.id

-- ---- parameters

-- the parameters of observations, in ascending order of their ids
pub record AreParameters (observations : List Observation) (names : List Name) : Type 0 where
  pub ascending : AscendBy name_id names
  pub each : (id : List ℕ) → IsSome (item_of name_id id names) ↔ ((o : Observation) × Contains observations o × (o.parameter ≡ id))

-- ---- stations

-- the times of a station: those of its observations
abbrev pub AreTimes : List Observation → List ℕ → List ℤ → Type 0
AreTimes observations station times =
    IsAxis times × ((t : ℤ) → Contains times t ↔ ((o : Observation) × Contains observations o × (o.station ≡ station) × (o.t ≡ t)))

-- a station: where its observations are, and when
pub record IsSite (observations : List Observation) (site : Site) : Type 0 where
  pub first : Observation
  pub among : Contains observations first
  pub placed : (site.id ≡ first.station) × (site.label ≡ first.label) × (site.x ≡ first.x) × (site.y ≡ first.y)
  pub times : AreTimes observations site.id site.times

-- the stations of observations, in ascending order of their ids
pub record AreSites (observations : List Observation) (sites : List Site) : Type 0 where
  pub ascending : AscendBy site_id sites
  pub there : (o : Observation) → Contains observations o → IsSome (item_of site_id o.station sites)
  pub each : All (IsSite observations) sites

-- ---- values

abbrev pub IsSampleAt : List ℕ → ℤ → List ℕ → Observation → Type 0
IsSampleAt station t parameter o = (o.station ≡ station) × (o.t ≡ t) × (o.parameter ≡ parameter)

-- what observations tell of a parameter at a station and a time; it is missing where none of them is of these
abbrev pub IsValueAt : List Observation → List ℕ → ℤ → List ℕ → Option ℤ → Type 0
IsValueAt observations station t parameter value =
    ((o : Observation) × Contains observations o × IsSampleAt station t parameter o × (value ≡ o.value))
    ⊎ (((o : Observation) → Contains observations o → ¬ (IsSampleAt station t parameter o)) × (value ≡ None))

-- the values of a parameter at a station: one for each of its times
pub record AreValues (observations : List Observation) (site : Site) (parameter : List ℕ) (values : List (Option ℤ)) : Type 0 where
  pub count : length values ≡ length site.times
  pub each : (place : ℕ) → place < length site.times → IsValueAt observations site.id (value_at site.times place) parameter (get_or values place None)

-- those of each parameter, in the order of the parameters
pub record AreSeries (observations : List Observation) (names : List Name) (site : Site) (ranges : List NdArray) : Type 0 where
  pub count : length ranges ≡ length names
  pub each : (place : ℕ) (name : Name) (range : NdArray) → place < length names
      → AreValues observations site (name_id (get_or names place name)) (get_or ranges place range).values

-- ---- coverages (OGC 21-069r2)

-- a parameter whose label is its id
abbrev pub labelled : Name → Parameter
labelled name = record { id = name.id; lang = codes "en"; label = name.id; unit = None }

-- a PointSeries at the station's place, in the reference system `local`
abbrev pub series_coverage : List Name → Site → List NdArray → Coverage
series_coverage names site ranges = record {
  id = None;
  domain = PointSeries site.times None site.y site.x;
  referencing = record { crs = codes "local"; vertical = None };
  parameters = map labelled names;
  ranges = ranges;
}

-- a station with its coverage
pub record IsStation (observations : List Observation) (names : List Name) (site : Site) (station : Station) : Type 0 where
  pub id : station.id ≡ site.id
  pub label : station.label ≡ site.label
  pub ranges : List NdArray
  pub series : AreSeries observations names site ranges
  pub coverage : station.coverage ≡ series_coverage names site ranges

-- the stations with their coverages, in their order
pub record AreStations (observations : List Observation) (names : List Name) (sites : List Site) (stations : List Station) : Type 0 where
  pub count : length stations ≡ length sites
  pub each : (place : ℕ) (site : Site) (station : Station) → place < length sites → IsStation observations names (get_or sites place site) (get_or stations place station)
