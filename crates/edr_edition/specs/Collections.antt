-- What becomes of a collection where an instance or a station is set or taken out.
use Rattle.std.specs.Prelude.{⊤, ◌≡◌, ℕ, List, [], ◌∷◌, length, Option, None, Some}
use Rattle.std.specs.Arc.{arc_value}
use Rattle.std.specs.declared.sync.Arc.{Arc}
use Rattle.std.specs.declared.alloc.Global.{Global}
use Rattle.covjson_value.specs.declared.coverages.Parameter.{Parameter}
use Rattle.covjson_value.specs.declared.coverages.Referencing.{Referencing}
use Rattle.edr_ids.specs.Ids.{with_item, without_id}
use Rattle.edr_station.specs.Stations.{StationValue, StationsValue, station_id}
use Rattle.edr_edition.specs.declared.kinds.Kind.{Kind}
use Rattle.edr_edition.specs.declared.kinds.Kind.TheVariants.{Grid, Station}
use Rattle.edr_edition.specs.Values.{InstanceValue, CollectionValue, instance_id}

abbrev pub empty_collection : List ℕ → Kind → List ℕ → Referencing → CollectionValue
empty_collection id kind title referencing =
    record { id = id; title = title; kind = kind; referencing = referencing; parameters = []; instances = []; stations = [] }

-- a collection with other parameters, instances and stations
abbrev pub holding : CollectionValue → List Parameter → List InstanceValue → List StationValue → CollectionValue
holding collection parameters instances stations = record {
  id = collection.id;
  title = collection.title;
  kind = collection.kind;
  referencing = collection.referencing;
  parameters = parameters;
  instances = instances;
  stations = stations;
}

-- parameters, and none where nothing has them
abbrev pub where_some : {V : Type 0} → List V → List Parameter → List Parameter
where_some [] parameters = []
where_some (item ∷ items) parameters = parameters

-- a collection with an instance, in place of one of its id
abbrev pub with_instance : InstanceValue → CollectionValue → CollectionValue
with_instance instance collection =
    holding collection instance.parameters (with_item instance_id instance collection.instances) collection.stations

-- a collection without the instances of an id
abbrev pub without_instance : List ℕ → CollectionValue → CollectionValue
without_instance id collection =
    let left = without_id instance_id id collection.instances in
    holding collection (where_some left collection.parameters) left collection.stations

-- a collection with a station of some parameters, in place of one of its id
abbrev pub with_station : List Parameter → StationValue → CollectionValue → CollectionValue
with_station parameters station collection =
    holding collection parameters collection.instances (with_item station_id station collection.stations)

-- a collection without the stations of an id
abbrev pub without_station : List ℕ → CollectionValue → CollectionValue
without_station id collection =
    let left = without_id station_id id collection.stations in
    holding collection (where_some left collection.parameters) collection.instances left

-- ---- for private clauses

-- the parameters that are shared
abbrev pub parameters_in : Option (Arc (List Parameter) Global) → List Parameter
parameters_in None = []
parameters_in (Some shared) = arc_value shared

-- the stations that are kept
abbrev pub stations_in : Option StationsValue → List StationValue
stations_in None = []
stations_in (Some kept) = kept.stations

-- a collection of stations keeps a list of stations of so many parameters, and one of grids keeps none
abbrev pub KeepsStations : Kind → List Parameter → Option StationsValue → Type 0
KeepsStations Grid parameters None = ⊤
KeepsStations Grid parameters (Some kept) = ⊥
KeepsStations Station parameters None = ⊥
KeepsStations Station parameters (Some kept) = kept.parameters ≡ length parameters
