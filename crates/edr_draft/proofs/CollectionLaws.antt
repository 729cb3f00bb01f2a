-- Collections in the order of their ids, and what a change makes of them.
use Rattle.std.proofs.Common.{◌≡◌, ℕ, zero, suc, ◌<◌, not, codes, List, [], ◌∷◌, Option, Some, None, Result, Ok, Err, IfSome, IsUtf8, unwrap_or, inl, inr, refl, sym, subst, arith}
use Rattle.std.proofs.lemmas.List.Elements.{All-nil, All-append, All-cons, All-filter}
use Rattle.std.proofs.lemmas.Str.{IsUtf8-from_ascii}
use Rattle.std.specs.List.{filter}
use Rattle.std.specs.Str.{IsAscii}
use Rattle.covjson_value.specs.declared.coverages.Coverage.{Coverage}
use Rattle.covjson_value.specs.declared.coverages.Referencing.{Referencing}
use Rattle.covjson_value.specs.Coverages.{IsReferencing, IsValid}
use Rattle.edr_base.specs.FirstThatApplies.{NoneApplies}
use Rattle.edr_base.specs.Names.{IsNameByte, IsName}
use Rattle.edr_ids.specs.Ids.{has_id, is_below, is_above, with_item, without_id}
use Rattle.edr_ids.specs.ListLaws.{item_found, AscendBy-with_item, AscendBy-without_id}
use Rattle.edr_edition.specs.declared.kinds.Kind.TheVariants.{Grid as Grids, Station as Stations}
use Rattle.edr_draft.specs.declared.changes.Change.{Change}
use Rattle.edr_draft.specs.declared.changes.Change.TheVariants.{Collection, Grid, Station, DropCollection, DropInstance, DropStation, Bare}
use Rattle.edr_edition.specs.Values.{CollectionValue, collection_id}
use Rattle.edr_edition.specs.Instances.{IsTimedGrid, instance_of}
use Rattle.edr_draft.specs.declared.changes.ChangeFault.{ChangeFault}
use Rattle.edr_draft.specs.declared.changes.ChangeFault.TheVariants.{WrongKind}
use Rattle.edr_edition.specs.Editions.{IsCollection, AreCollections}
use Rattle.edr_edition.specs.Collections.{empty_collection, without_instance, without_station}
use Rattle.edr_draft.specs.Changes.{IsChange, with_grid, with_series, bare_collection, with_changed, made, as_instance, as_station, AppliesToSet, AppliesToDrop, AppliesToDropStation, Applies}
use Rattle.edr_edition.specs.Stores.{collection_in}
use Rattle.edr_draft.specs.Series.{IsTimedSeries, station_of}
use Rattle.edr_draft.specs.Steps.{IsMade}
use Rattle.edr_edition.specs.CollectionLaws.{set_instance_keeps, take_instance_keeps, set_station_keeps, take_station_keeps, empty_is_collection}
use Rattle.edr_draft.proofs.FaultLaws.{kind_or_not, fits}
use Rattle.edr_draft.proofs.SeriesLaws.{series_is_station, series_few, others_alike}

-- ---- lists of collections

pub collections_with : (collection : CollectionValue) (collections : List CollectionValue) → IsCollection collection → AreCollections collections
    → AreCollections (with_item collection_id collection collections)
collections_with c cs is are = record {
  each = All-append IsCollection (filter (is_below collection_id c.id) cs) (c ∷ filter (is_above collection_id c.id) cs)
      (All-filter (is_below collection_id c.id) IsCollection cs are.each)
      (All-cons IsCollection c (filter (is_above collection_id c.id) cs) is (All-filter (is_above collection_id c.id) IsCollection cs are.each));
  ascending = AscendBy-with_item collection_id c cs are.ascending;
}

pub collections_without : (id : List ℕ) (collections : List CollectionValue) → AreCollections collections → AreCollections (without_id collection_id id collections)
collections_without id cs are = record {
  each = All-filter (λ c. not (has_id collection_id id c)) IsCollection cs are.each;
  ascending = AscendBy-without_id collection_id id cs are.ascending;
}

-- ---- the collection of an id

pub found_is_collection : (cs : List CollectionValue) (id : List ℕ) (c : CollectionValue) → AreCollections cs → collection_in cs id ≡ Some c → IsCollection c
found_is_collection cs id c are is =
    let there = (item_found collection_id id cs c is).0 in subst IsCollection there.2 (are.each there.0 c there.1)

pub found_are_collections : (cs : List CollectionValue) (id : List ℕ) (found : Option CollectionValue) → AreCollections cs → collection_in cs id ≡ found → IfSome found IsCollection
found_are_collections cs id None are is = tt
found_are_collections cs id (Some c) are is = found_is_collection cs id c are is

-- ---- where bare coverages go to

grid_ascii : IsAscii (codes "grid")
grid_ascii zero = omega arith
grid_ascii (suc zero) = omega arith
grid_ascii (suc (suc zero)) = omega arith
grid_ascii (suc (suc (suc zero))) = omega arith
grid_ascii (suc (suc (suc (suc k)))) = omega arith

one_ascii : IsAscii (codes "1")
one_ascii zero = omega arith
one_ascii (suc k) = omega arith

pub one_is_name : IsName (codes "1")
one_is_name = record {
  length_in = (omega arith, omega arith);
  bytes = All-cons IsNameByte 49 [] (record { printed = (omega arith, omega arith); no_comma = omega arith }) (All-nil IsNameByte);
  utf8 = IsUtf8-from_ascii (codes "1") one_ascii;
}

letter : (byte : ℕ) → 97 < byte → byte < 123 → IsNameByte byte
letter byte low high = record { printed = (omega arith, omega arith); no_comma = omega arith }

pub grid_is_name : IsName (codes "grid")
grid_is_name = record {
  length_in = (omega arith, omega arith);
  bytes = All-cons IsNameByte 103 (114 ∷ 105 ∷ 100 ∷ []) (letter 103 (omega arith) (omega arith))
      (All-cons IsNameByte 114 (105 ∷ 100 ∷ []) (letter 114 (omega arith) (omega arith))
      (All-cons IsNameByte 105 (100 ∷ []) (letter 105 (omega arith) (omega arith))
      (All-cons IsNameByte 100 [] (letter 100 (omega arith) (omega arith)) (All-nil IsNameByte))));
  utf8 = IsUtf8-from_ascii (codes "grid") grid_ascii;
}

new_bare_is_collection : (referencing : Referencing) → IsReferencing referencing → IsCollection (bare_collection [] referencing)
new_bare_is_collection referencing systems = empty_is_collection (codes "grid") Grids (codes "grid") referencing grid_is_name (IsUtf8-from_ascii (codes "grid") grid_ascii) systems

-- the one that is there, or a new one
bare_of : Option CollectionValue → Referencing → CollectionValue
bare_of found referencing = unwrap_or found (empty_collection (codes "grid") Grids (codes "grid") referencing)

bare_of_is_collection : (found : Option CollectionValue) (referencing : Referencing) → IfSome found IsCollection → IsReferencing referencing → IsCollection (bare_of found referencing)
unfolding bare_of
bare_of_is_collection None referencing is systems = new_bare_is_collection referencing systems
bare_of_is_collection (Some c) referencing is systems = is

pub bare_is_collection : (cs : List CollectionValue) (referencing : Referencing) → AreCollections cs → IsReferencing referencing → IsCollection (bare_collection cs referencing)
unfolding bare_of
bare_is_collection cs referencing are systems =
    bare_of_is_collection (collection_in cs (codes "grid")) referencing (found_are_collections cs (codes "grid") (collection_in cs (codes "grid")) are refl) systems

-- ---- what is made keeps the order and what collections keep

grid_set_keeps : (c : CollectionValue) (id : List ℕ) (coverage : Coverage) → IsCollection c → IsName id → IsValid coverage → NoneApplies (AppliesToSet (as_instance id) (Some c) coverage)
    → IsCollection (with_grid id coverage c)
grid_set_keeps c id coverage is named valid none =
    let f = fits (as_instance id) c coverage is valid none in
    let grid : IsTimedGrid coverage = record { valid = valid; grid = f.domain; times = f.times; few = f.few } in
    set_instance_keeps c (instance_of id coverage) is (record { id = named; coverage = coverage; grid = grid; is = refl }) f.kind f.same

series_set_keeps : (c : CollectionValue) (id label : List ℕ) (coverage : Coverage) → IsCollection c → IsName id → IsUtf8 label → IsValid coverage → NoneApplies (AppliesToSet (as_station id) (Some c) coverage)
    → IsCollection (with_series id label coverage c)
series_set_keeps c id label coverage is named text valid none =
    let f = fits (as_station id) c coverage is valid none in
    let series : IsTimedSeries coverage = record { valid = valid; place = f.domain; times = f.times; few = f.few } in
    set_station_keeps c (station_of id label coverage) coverage.parameters is (series_is_station id label coverage series named text) (series_few id label coverage series)
    (record { each = valid.parameters; ascending = valid.ascending }) f.kind f.same (others_alike coverage c id f.alike)

changed_keeps : (cs : List CollectionValue) (change : CollectionValue → CollectionValue) (found : Option CollectionValue) → AreCollections cs
    → IfSome found (λ c. IsCollection (change c)) → AreCollections (with_changed change found cs)
changed_keeps cs change None are is = are
changed_keeps cs change (Some c) are is = collections_with (change c) cs is are

set_keeps : (found : Option CollectionValue) (id : List ℕ) (coverage : Coverage) → IfSome found IsCollection → IsName id → IsValid coverage → NoneApplies (AppliesToSet (as_instance id) found coverage)
    → IfSome found (λ c. IsCollection (with_grid id coverage c))
set_keeps None id coverage is named valid none = tt
set_keeps (Some c) id coverage is named valid none = grid_set_keeps c id coverage is named valid none

set_series_keeps : (found : Option CollectionValue) (id label : List ℕ) (coverage : Coverage) → IfSome found IsCollection → IsName id → IsUtf8 label → IsValid coverage
    → NoneApplies (AppliesToSet (as_station id) found coverage) → IfSome found (λ c. IsCollection (with_series id label coverage c))
set_series_keeps None id label coverage is named text valid none = tt
set_series_keeps (Some c) id label coverage is named text valid none = series_set_keeps c id label coverage is named text valid none

kind_of_grids : (c : CollectionValue) (id : List ℕ) → NoneApplies (AppliesToDrop (Some c) id) → c.kind ≡ Grids
kind_of_grids c id none = elim (kind_or_not c.kind Grids) [ inl kind ↦ kind | inr other ↦ absurd (none WrongKind other) ]

kind_of_stations : (c : CollectionValue) (id : List ℕ) → NoneApplies (AppliesToDropStation (Some c) id) → c.kind ≡ Stations
kind_of_stations c id none = elim (kind_or_not c.kind Stations) [ inl kind ↦ kind | inr other ↦ absurd (none WrongKind other) ]

drop_keeps : (found : Option CollectionValue) (id : List ℕ) → IfSome found IsCollection → NoneApplies (AppliesToDrop found id) → IfSome found (λ c. IsCollection (without_instance id c))
drop_keeps None id is none = tt
drop_keeps (Some c) id is none = take_instance_keeps c id is (kind_of_grids c id none)

drop_station_keeps : (found : Option CollectionValue) (id : List ℕ) → IfSome found IsCollection → NoneApplies (AppliesToDropStation found id) → IfSome found (λ c. IsCollection (without_station id c))
drop_station_keeps None id is none = tt
drop_station_keeps (Some c) id is none = take_station_keeps c id is (kind_of_stations c id none)

pub made_are_collections : (cs : List CollectionValue) (change : Change) → AreCollections cs → IsChange change → NoneApplies (Applies cs change) → AreCollections (made cs change)
made_are_collections cs (Collection id kind title crs vertical) are is none =
    let systems : Referencing = record { crs = crs; vertical = vertical } in
    collections_with (empty_collection id kind title systems) cs
    (empty_is_collection id kind title systems is.0 is.1.0 (record { crs = is.1.1.0; vertical = is.1.1.1 })) are
made_are_collections cs (Grid collection instance coverage) are is none =
    let found = collection_in cs collection in
    changed_keeps cs (with_grid instance coverage) found are (set_keeps found instance coverage (found_are_collections cs collection found are refl) is.1.0 is.1.1 none)
made_are_collections cs (Station collection id label coverage) are is none =
    let found = collection_in cs collection in
    changed_keeps cs (with_series id label coverage) found are
    (set_series_keeps found id label coverage (found_are_collections cs collection found are refl) is.1.0 is.1.1.0 is.1.1.1 none)
made_are_collections cs (DropCollection collection) are is none = collections_without collection cs are
made_are_collections cs (DropInstance collection instance) are is none =
    let found = collection_in cs collection in
    changed_keeps cs (without_instance instance) found are (drop_keeps found instance (found_are_collections cs collection found are refl) none)
made_are_collections cs (DropStation collection id) are is none =
    let found = collection_in cs collection in
    changed_keeps cs (without_station id) found are (drop_station_keeps found id (found_are_collections cs collection found are refl) none)
made_are_collections cs (Bare coverage) are is none =
    let c = bare_collection cs coverage.referencing in
    collections_with (with_grid (codes "1") coverage c) cs (grid_set_keeps c (codes "1") coverage (bare_is_collection cs coverage.referencing are is.referencing) one_is_name is none) are

pub made_keeps : {T : Type 0} (r : Result T ChangeFault) (old new : List CollectionValue) (change : Change) → AreCollections old → IsChange change → IsMade old change r new → AreCollections new
made_keeps (Ok u) old new change are is done = subst AreCollections (sym done.becomes) (made_are_collections old change are is done.finds)
made_keeps (Err fault) old new change are is done = subst AreCollections (sym done.becomes) are
