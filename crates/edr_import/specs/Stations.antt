-- For private clauses: observations as they are read of a table, and stations whose lines can be written.
use Rattle.std.specs.Prelude.{List, Contains, IsUtf8}
use Rattle.edr_base.specs.Limits.{IsCoordinate, HasSample}
use Rattle.edr_base.specs.Names.{IsName}
use Rattle.edr_axes.specs.Instants.{IsTime}
use Rattle.covjson_value.specs.Coverages.{IsValid}
use Rattle.edr_csv.specs.declared.observations.Observation.{Observation}
use Rattle.edr_import.specs.declared.stations.Station.{Station}

-- its ids are names, its label is UTF-8, and its numbers are within the limits
pub record IsGood (o : Observation) : Type 0 where
  pub station : IsName o.station
  pub label : IsUtf8 o.label
  pub x : IsCoordinate o.x
  pub y : IsCoordinate o.y
  pub t : IsTime o.t
  pub parameter : IsName o.parameter
  pub value : HasSample o.value

abbrev pub AreGood : List Observation → Type 0
AreGood observations = (o : Observation) → Contains observations o → IsGood o

-- its texts are UTF-8, and its coverage is valid
pub record IsWritable (station : Station) : Type 0 where
  pub id : IsUtf8 station.id
  pub label : IsUtf8 station.label
  pub coverage : IsValid station.coverage
