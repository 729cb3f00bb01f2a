-- Small data for worked rows, and how they are asked.
use Rattle.std.specs.Prelude.{ℕ, ℤ, pos, ◌+ℤ◌, ◌*ℤ◌, false, codes, List, [], ◌∷◌, Option, None, Some}
use Rattle.edr_base.specs.declared.places.Position.{Position}
use Rattle.edr_base.specs.declared.places.Spot.{Spot}
use Rattle.edr_axes.specs.declared.times.Times.{Times}
use Rattle.edr_axes.specs.declared.times.Times.TheVariants as times
use Rattle.edr_axes.specs.declared.levels.Levels.{Levels}
use Rattle.edr_wkt.specs.declared.geometry.Polygon.{Polygon}
use Rattle.edr_wkt.specs.declared.geometry.Geometry.{Geometry}
use Rattle.edr_wkt.specs.declared.geometry.Geometry.TheVariants.{Points, Line}
use Rattle.covjson_value.specs.declared.domains.Domain.{Domain}
use Rattle.covjson_value.specs.declared.domains.Domain.TheVariants as domain
use Rattle.covjson_value.specs.declared.coverages.Parameter.{Parameter}
use Rattle.covjson_value.specs.declared.coverages.Referencing.{Referencing}
use Rattle.covjson_value.specs.declared.coverages.Coverage.{Coverage}
use Rattle.covjson_value.specs.declared.coverages.Document.{Document}
use Rattle.covjson_value.specs.declared.coverages.Document.TheVariants.{One}
use Rattle.edr_edition.specs.declared.kinds.Kind.TheVariants as kinds
use Rattle.edr_station.specs.Stations.{StationValue}
use Rattle.edr_edition.specs.Values.{InstanceValue, CollectionValue, EditionValue}
use Rattle.edr_edition.specs.Collections.{where_some}
use Rattle.edr_edition.specs.Stores.{of_grid, of_stations, Subject}
use Rattle.edr_query.specs.declared.shapes.Shape.{Shape}
use Rattle.edr_query.specs.Values.{QueryValue}

-- ---- values, times and places

-- a sample that isn't missing
abbrev pub has : ℕ → Option ℤ
has value = Some (pos value)

-- midnight of the first of January 2024, and an hour later
abbrev pub t0 : ℤ
t0 = pos 1704067200

abbrev pub t1 : ℤ
t1 = pos 1704070800

-- so many hours past that midnight
abbrev pub hour : ℕ → ℤ
hour k = t0 +ℤ pos 3600 *ℤ pos k

abbrev pub place : ℤ → ℤ → Position
place x y = record { x = x; y = y; z = pos 0; m = pos 0 }

abbrev pub at : ℕ → ℕ → Position
at x y = place (pos x) (pos y)

-- with a level, with a time, and with both
abbrev pub at_level : ℕ → ℕ → ℕ → Position
at_level x y z = record (at x y) { z = pos z }

abbrev pub at_time : ℕ → ℕ → ℤ → Position
at_time x y m = record (at x y) { m = m }

abbrev pub at_both : ℕ → ℕ → ℕ → ℤ → Position
at_both x y z m = record (at x y) { z = pos z; m = m }

abbrev pub spot : ℕ → ℕ → Spot
spot x y = record { x = pos x; y = pos y }

abbrev pub point : Position → Geometry
point p = Points false false false (p ∷ [])

abbrev pub line : List Position → Geometry
line positions = Line false false positions

-- a polygon, by its outer ring and those of its holes
abbrev pub polygon : List (List Position) → Polygon
polygon rings = record { rings = rings }

-- ---- collections

abbrev pub temp : Parameter
temp = record { id = codes "temp"; lang = codes "en"; label = codes "Temperature"; unit = Some (codes "Cel") }

-- without and with a vertical system
abbrev pub plane : Referencing
plane = record { crs = codes "local"; vertical = None }

abbrev pub space : Referencing
space = record { crs = codes "local"; vertical = Some (codes "height") }

-- the parameters of the first instance
abbrev parameters_of : List InstanceValue → List Parameter
parameters_of [] = []
parameters_of (instance ∷ instances) = instance.parameters

abbrev pub grids : List InstanceValue → CollectionValue
grids instances =
    record { id = codes "grid"; title = codes "grid"; kind = kinds.Grid; referencing = space; parameters = parameters_of instances; instances = instances; stations = [] }

abbrev pub sites : List StationValue → CollectionValue
sites stations = record {
  id = codes "sites";
  title = codes "sites";
  kind = kinds.Station;
  referencing = space;
  parameters = where_some stations (temp ∷ []);
  instances = [];
  stations = stations;
}

abbrev pub edition : List CollectionValue → EditionValue
edition collections = record { number = 1; collections = collections }

-- of one collection of one grid
abbrev pub edition_of : InstanceValue → EditionValue
edition_of instance = edition (grids (instance ∷ []) ∷ [])

abbrev pub on : InstanceValue → Subject
on instance = record { collection = grids (instance ∷ []); held = of_grid instance }

abbrev pub among : List StationValue → Subject
among stations = record { collection = sites stations; held = of_stations (where_some stations (temp ∷ [])) stations }

-- ---- grids

abbrev pub ys : List ℤ
ys = pos 0 ∷ pos 100 ∷ []

abbrev pub xs : List ℤ
xs = pos 0 ∷ pos 100 ∷ pos 200 ∷ []

-- two times, two rows and three columns; the second node of the second row is missing at the first time
abbrev pub flat : InstanceValue
flat = record {
  id = codes "1";
  parameters = temp ∷ [];
  ts = t0 ∷ t1 ∷ [];
  zs = None;
  ys = ys;
  xs = xs;
  grid = record {
    shape = record { parameters = 1; times = 2; levels = 1; rows = 2; columns = 3 };
    values =
        has 10 ∷ has 11 ∷ has 12 ∷ has 13 ∷ None ∷ has 15
        ∷ has 20 ∷ has 21 ∷ has 22 ∷ has 23 ∷ has 24 ∷ has 25 ∷ [];
  };
}

-- three levels at one place and time; the middle one is missing
abbrev pub column : InstanceValue
column = record {
  id = codes "1";
  parameters = temp ∷ [];
  ts = t0 ∷ [];
  zs = Some (pos 0 ∷ pos 10 ∷ pos 20 ∷ []);
  ys = pos 0 ∷ [];
  xs = pos 0 ∷ [];
  grid = record { shape = record { parameters = 1; times = 1; levels = 3; rows = 1; columns = 1 }; values = has 5 ∷ None ∷ has 7 ∷ [] };
}

-- ---- queries and replies

-- a query of a collection, without names and without a reference system
abbrev pub asking : List ℕ → Shape → Option Times → Option Levels → QueryValue
asking collection shape when levels = record {
  collection = collection;
  instance = None;
  shape = shape;
  times = when;
  levels = levels;
  parameters = None;
  crs = None;
}

abbrev pub ask : Shape → Option Times → Option Levels → QueryValue
ask = asking (codes "grid")

abbrev pub ask_sites : Shape → Option Times → Option Levels → QueryValue
ask_sites = asking (codes "sites")

abbrev pub only : ℤ → Option Times
only time = Some (times.At time)

-- a coverage of the one parameter
abbrev pub coverage : Referencing → Option (List ℕ) → Domain → List (Option ℤ) → Coverage
coverage referencing id over values = record {
  id = id;
  domain = over;
  referencing = referencing;
  parameters = temp ∷ [];
  ranges = record { values = values } ∷ [];
}

abbrev pub one : Referencing → Domain → List (Option ℤ) → Document
one referencing over values = One (coverage referencing None over values)

-- a Grid without levels
abbrev pub frame : List ℤ → List ℤ → List ℤ → List (Option ℤ) → Document
frame ts ys xs values = one plane (domain.Grid (Some ts) None ys xs) values
