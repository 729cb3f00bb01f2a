-- What a change makes of the collections of a draft, and the faults that refuse it.
use Rattle.std.specs.Prelude.{◌≡◌, ◌≢◌, ◌⊎◌, ℕ, ◌<◌, Bool, false, codes, List, [], Any, Option, None, Some, is_some, unwrap_or, IsSome, IsNone, IfSome, IsSomeAnd, IsUtf8}
use Rattle.covjson_value.specs.declared.domains.CoordinateName.TheVariants.{T, Z}
use Rattle.covjson_value.specs.declared.domains.Domain.{Domain}
use Rattle.covjson_value.specs.declared.coverages.Referencing.{Referencing}
use Rattle.covjson_value.specs.declared.coverages.Coverage.{Coverage}
use Rattle.covjson_value.specs.Domains.{has_axis, is_grid, count_of}
use Rattle.covjson_value.specs.Coverages.{IsValid}
use Rattle.edr_base.specs.FirstThatApplies.{IsLeast, NoneApplies}
use Rattle.edr_base.specs.Limits.{node_limit}
use Rattle.edr_base.specs.Names.{IsName}
use Rattle.edr_ids.specs.Ids.{item_of, with_item, without_id}
use Rattle.edr_station.specs.Stations.{StationValue, station_id}
use Rattle.edr_edition.specs.declared.kinds.Kind.{Kind}
use Rattle.edr_edition.specs.declared.kinds.Kind.TheVariants.{Grid as Grids, Station as Stations}
use Rattle.edr_edition.specs.Values.{CollectionValue, instance_id, collection_id}
use Rattle.edr_edition.specs.Instances.{instance_of}
use Rattle.edr_edition.specs.Collections.{empty_collection, with_instance, without_instance, with_station, without_station}
use Rattle.edr_edition.specs.Stores.{collection_in}
use Rattle.edr_draft.specs.declared.changes.Change.{Change}
use Rattle.edr_draft.specs.declared.changes.Change.TheVariants.{Collection, Grid, Station, DropCollection, DropInstance, DropStation, Bare}
use Rattle.edr_draft.specs.declared.changes.ChangeFault.{ChangeFault}
use Rattle.edr_draft.specs.declared.changes.ChangeFault.TheVariants.{SameCollection, UnknownCollection, WrongKind, UnknownInstance, UnknownStation, NoTimes, CrsDiffers, TooManyNodes, ParametersDiffer, LevelsDiffer, OutOfMemory}
use Rattle.edr_draft.specs.Parameters.{DifferFirstAt}
use Rattle.edr_draft.specs.Series.{is_at_one_place, station_of}

-- the ids of a change are names, its texts UTF-8, and its coverage is valid
abbrev pub IsChange : Change → Type 0
IsChange (Collection id kind title crs vertical) = IsName id × (IsUtf8 title × (IsUtf8 crs × IfSome vertical IsUtf8))
IsChange (Grid collection instance coverage) = IsName collection × (IsName instance × IsValid coverage)
IsChange (Station collection id label coverage) = IsName collection × (IsName id × (IsUtf8 label × IsValid coverage))
IsChange (DropCollection collection) = IsName collection
IsChange (DropInstance collection instance) = IsName collection × IsName instance
IsChange (DropStation collection id) = IsName collection × IsName id
IsChange (Bare coverage) = IsValid coverage

-- ---- what a change makes

-- a collection with a grid as the instance of an id, in place of one that is there
abbrev pub with_grid : List ℕ → Coverage → CollectionValue → CollectionValue
with_grid id coverage collection = with_instance (instance_of id coverage) collection

-- a collection with a series as the station of an id, in place of one that is there
abbrev pub with_series : List ℕ → List ℕ → Coverage → CollectionValue → CollectionValue
with_series id label coverage collection = with_station coverage.parameters (station_of id label coverage) collection

-- the collection that bare coverages go to: the one that is there, or an empty one with the coverage's systems
abbrev pub bare_collection : List CollectionValue → Referencing → CollectionValue
bare_collection collections referencing =
    unwrap_or (collection_in collections (codes "grid")) (empty_collection (codes "grid") Grids (codes "grid") referencing)

-- the collections with one of them changed
abbrev pub with_changed : (CollectionValue → CollectionValue) → Option CollectionValue → List CollectionValue → List CollectionValue
with_changed change None collections = collections
with_changed change (Some collection) collections = with_item collection_id (change collection) collections

-- the collections with the one of an id changed, where it is there
abbrev pub changed : List ℕ → (CollectionValue → CollectionValue) → List CollectionValue → List CollectionValue
changed id change collections = with_changed change (collection_in collections id) collections

-- the collections after a change
abbrev pub made : List CollectionValue → Change → List CollectionValue
made collections (Collection id kind title crs vertical) =
    with_item collection_id (empty_collection id kind title (record { crs = crs; vertical = vertical })) collections
made collections (Grid collection instance coverage) = changed collection (with_grid instance coverage) collections
made collections (Station collection id label coverage) = changed collection (with_series id label coverage) collections
made collections (DropCollection collection) = without_id collection_id collection collections
made collections (DropInstance collection instance) = changed collection (without_instance instance) collections
made collections (DropStation collection id) = changed collection (without_station id) collections
made collections (Bare coverage) =
    with_item collection_id (with_grid (codes "1") coverage (bare_collection collections coverage.referencing)) collections

-- ---- why a change is refused

-- the place of a fault in their order
abbrev pub rank : ChangeFault → ℕ
rank SameCollection = 1
rank UnknownCollection = 2
rank WrongKind = 3
rank UnknownInstance = 4
rank UnknownStation = 5
rank NoTimes = 6
rank CrsDiffers = 7
rank (TooManyNodes count) = 8
rank (ParametersDiffer id) = 9
rank LevelsDiffer = 10
rank OutOfMemory = 11

-- what a coverage is set as in a collection: the kind of collection, the domains that fit, and the others of the collection
-- beside the one that it takes the place of
pub record Setting : Type 1 where
  pub kind : Kind
  pub fits : Domain → Bool
  pub has_others : CollectionValue → Type 0
  pub levels_differ : CollectionValue → Coverage → Type 0

-- as the instance of an id
abbrev pub as_instance : List ℕ → Setting
as_instance id = record {
  kind = Grids;
  fits = is_grid;
  has_others = λ c. without_id instance_id id c.instances ≢ [];
  levels_differ = λ c coverage. ⊥;
}

-- as the station of an id: each other station has levels where it has none, or has none where it has some
abbrev pub as_station : List ℕ → Setting
as_station id = record {
  kind = Stations;
  fits = is_at_one_place;
  has_others = λ c. without_id station_id id c.stations ≢ [];
  levels_differ = λ c coverage. Any (λ (s : StationValue). is_some s.zs ≢ has_axis coverage.domain Z) (without_id station_id id c.stations);
}

-- the faults of a coverage that is set in a collection, which may be missing
abbrev pub AppliesToSet : Setting → Option CollectionValue → Coverage → ChangeFault → Type 0
AppliesToSet setting collection coverage UnknownCollection = IsNone collection
AppliesToSet setting collection coverage WrongKind = IsSomeAnd collection (λ c. c.kind ≢ setting.kind) ⊎ (setting.fits coverage.domain ≡ false)
AppliesToSet setting collection coverage NoTimes = has_axis coverage.domain T ≡ false
AppliesToSet setting collection coverage CrsDiffers =
    IsSomeAnd collection (λ c. (coverage.referencing.crs ≢ []) × (coverage.referencing.crs ≢ c.referencing.crs))
AppliesToSet setting collection coverage (TooManyNodes count) = (count ≡ count_of coverage.domain) × (node_limit < count)
AppliesToSet setting collection coverage (ParametersDiffer differing) =
    IsSomeAnd collection (λ c. setting.has_others c × DifferFirstAt c.parameters coverage.parameters differing)
AppliesToSet setting collection coverage LevelsDiffer = IsSomeAnd collection (λ c. setting.levels_differ c coverage)
AppliesToSet setting collection coverage other = ⊥

-- the faults of dropping the instance of an id from a collection, which may be missing
abbrev pub AppliesToDrop : Option CollectionValue → List ℕ → ChangeFault → Type 0
AppliesToDrop collection id UnknownCollection = IsNone collection
AppliesToDrop collection id WrongKind = IsSomeAnd collection (λ c. c.kind ≢ Grids)
AppliesToDrop collection id UnknownInstance = IsSomeAnd collection (λ c. IsNone (item_of instance_id id c.instances))
AppliesToDrop collection id other = ⊥

-- the faults of dropping the station of an id from a collection, which may be missing
abbrev pub AppliesToDropStation : Option CollectionValue → List ℕ → ChangeFault → Type 0
AppliesToDropStation collection id UnknownCollection = IsNone collection
AppliesToDropStation collection id WrongKind = IsSomeAnd collection (λ c. c.kind ≢ Stations)
AppliesToDropStation collection id UnknownStation = IsSomeAnd collection (λ c. IsNone (item_of station_id id c.stations))
AppliesToDropStation collection id other = ⊥

-- the fault applies to the change of these collections
abbrev pub Applies : List CollectionValue → Change → ChangeFault → Type 0
Applies collections (Collection id kind title crs vertical) SameCollection = IsSome (collection_in collections id)
Applies collections (Collection id kind title crs vertical) other = ⊥
Applies collections (Grid collection instance coverage) fault = AppliesToSet (as_instance instance) (collection_in collections collection) coverage fault
Applies collections (Station collection id label coverage) fault = AppliesToSet (as_station id) (collection_in collections collection) coverage fault
Applies collections (DropCollection collection) UnknownCollection = IsNone (collection_in collections collection)
Applies collections (DropCollection collection) other = ⊥
Applies collections (DropInstance collection instance) fault = AppliesToDrop (collection_in collections collection) instance fault
Applies collections (DropStation collection id) fault = AppliesToDropStation (collection_in collections collection) id fault
Applies collections (Bare coverage) fault = AppliesToSet (as_instance (codes "1")) (Some (bare_collection collections coverage.referencing)) coverage fault

-- ---- what comes of a change

-- the change can be made, and gives these collections
pub record Changes (old : List CollectionValue) (change : Change) (new : List CollectionValue) : Type 0 where
  pub can : NoneApplies (Applies old change)
  pub gives : new ≡ made old change

-- the change is refused by the first fault that applies
abbrev pub IsRefused : List CollectionValue → Change → ChangeFault → Type 0
IsRefused collections change fault = IsLeast rank (Applies collections change) fault
