-- What one reply is made from, and the chunks that were opened for it.
use Rattle.std.specs.Prelude.{◌≡◌, ℕ, ℤ, ◌<◌, if◌then◌else◌, List, [], ◌∷◌, length, Contains, Option, None, Some, option_map, option_and_then}
use Rattle.std.specs.Ordering.{is_lt}
use Rattle.covjson_value.specs.declared.coverages.Parameter.{Parameter}
use Rattle.edr_chunk.specs.Tiles.{tiles, TileValue, IsTile}
use Rattle.edr_base.specs.Names.{order}
use Rattle.edr_ids.specs.Ids.{item_of, AscendBy}
use Rattle.edr_edition.specs.declared.kinds.Kind.{Kind}
use Rattle.edr_edition.specs.declared.kinds.Kind.TheVariants.{Grid, Station}
use Rattle.edr_station.specs.Stations.{StationValue, StationsValue}
use Rattle.edr_station.specs.Blocks.{blocks, IsBlock}
use Rattle.edr_edition.specs.Values.{InstanceValue, CollectionValue, EditionValue, instance_id, collection_id}
use Rattle.edr_edition.specs.Instances.{IsInstance}
use Rattle.edr_edition.specs.Editions.{AreParameters, AreStationsOf, IsCollection, IsNewest}

-- the instance whose id is greatest, byte by byte
abbrev pub greater : InstanceValue → Option InstanceValue → InstanceValue
greater instance None = instance
greater instance (Some other) = if is_lt (order instance.id other.id) then other else instance

abbrev pub newest : List InstanceValue → Option InstanceValue
newest [] = None
newest (instance ∷ instances) = Some (greater instance (newest instances))

-- the instance of an id, or where none is named the newest
abbrev pub instance_named : Option (List ℕ) → List InstanceValue → Option InstanceValue
instance_named None instances = newest instances
instance_named (Some id) instances = item_of instance_id id instances

-- the data that a query is about: an instance of a collection of grids, or the stations of a collection of stations, with the
-- parameters of each of them
pub data Held : Type 0 where
  of_grid : InstanceValue → Held
  of_stations : List Parameter → List StationValue → Held

-- a collection, and what it holds that is asked for
pub record Subject : Type 0 where
  pub collection : CollectionValue
  pub held : Held

abbrev pub held_in : CollectionValue → Kind → Option (List ℕ) → Option Held
held_in collection Grid instance = option_map of_grid (instance_named instance collection.instances)
held_in collection Station instance = Some (of_stations collection.parameters collection.stations)

abbrev pub subject_in : Option (List ℕ) → CollectionValue → Option Subject
subject_in instance collection = option_map (λ held. record { collection = collection; held = held }) (held_in collection collection.kind instance)

-- the collection of an id, where there is one
abbrev pub collection_in : List CollectionValue → List ℕ → Option CollectionValue
collection_in collections id = item_of collection_id id collections

-- what an edition has by the id of a collection, and of an instance where one is named
abbrev pub subject_of : EditionValue → List ℕ → Option (List ℕ) → Option Subject
subject_of edition collection instance = option_and_then (subject_in instance) (collection_in edition.collections collection)

-- the collection has what is held
abbrev pub IsHeldBy : CollectionValue → Held → Type 0
IsHeldBy collection (of_grid instance) = Contains collection.instances instance
IsHeldBy collection (of_stations parameters stations) = (parameters ≡ collection.parameters) × (stations ≡ collection.stations)

-- an instance that is held is one, and so are stations
abbrev pub IsHeld : Held → Type 0
IsHeld (of_grid instance) = IsInstance instance
IsHeld (of_stations parameters stations) = AreParameters parameters × AreStationsOf parameters stations

-- a collection, and what it holds
pub record IsSubject (subject : Subject) : Type 0 where
  pub collection : IsCollection subject.collection
  pub held_by : IsHeldBy subject.collection subject.held
  pub held : IsHeld subject.held

-- a store: what it is over, and the numbers of the chunks that it opened
pub record StoreValue : Type 0 where
  pub subject : Subject
  pub numbers : List ℕ

-- ---- tiles

-- there is a tile of that number; stations have none
abbrev pub HasTile : Held → ℕ → Type 0
HasTile (of_grid instance) tile = tile < tiles instance.grid.shape
HasTile (of_stations parameters stations) tile = ⊥

-- the tile of a number has the samples that stand there
abbrev pub IsTileOf : Held → ℕ → TileValue → Type 0
IsTileOf (of_grid instance) tile opened = IsTile instance.grid tile opened
IsTileOf (of_stations parameters stations) tile opened = ⊥

-- ---- blocks

-- stations of some parameters
abbrev pub stations_of : List Parameter → List StationValue → StationsValue
stations_of parameters stations = record { parameters = length parameters; stations = stations }

-- there is a block of that number; grids have none
abbrev pub HasBlock : Held → ℕ → Type 0
HasBlock (of_grid instance) number = ⊥
HasBlock (of_stations parameters stations) number = number < blocks (length parameters) stations

-- the block of a number has the samples that stand there
abbrev pub IsBlockOf : Held → ℕ → List (Option ℤ) → Type 0
IsBlockOf (of_grid instance) number values = ⊥
IsBlockOf (of_stations parameters stations) number values = IsBlock (stations_of parameters stations) number values

-- what a store holds: its instance, or where it has none the stations of its collection
abbrev pub held_by : CollectionValue → Option InstanceValue → Held
held_by collection None = of_stations collection.parameters collection.stations
held_by collection (Some instance) = of_grid instance

-- ---- laws

-- what is found is the instance whose id no other one's is above; that instance is found; and none only where there is no instance
pub record FindsNewest (instances : List InstanceValue) : Type 0 where
  pub is : (instance : InstanceValue) → newest instances ≡ Some instance → IsNewest instances instance
  pub found : (instance : InstanceValue) → IsNewest instances instance → newest instances ≡ Some instance
  pub none : newest instances ≡ None → instances ≡ []

-- so it is for instances in the order of their ids
abbrev pub NewestIsNewest : Type 0
NewestIsNewest = (instances : List InstanceValue) → AscendBy instance_id instances → FindsNewest instances
