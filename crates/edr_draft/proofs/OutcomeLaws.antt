-- Each change has one outcome, and leaves the collections that it isn't about.
use Rattle.std.proofs.Common.{◌≡◌, ◌≢◌, ◌⊎◌, inl, inr, ℕ, ◌==◌, if◌then◌else◌, codes, List, [], ◌∷◌, Option, Some, None, IfSome, refl, sym, ap, ◌∙◌, subst}
use Rattle.covjson_value.specs.declared.coverages.Coverage.{Coverage}
use Rattle.covjson_value.specs.declared.coverages.Referencing.{Referencing}
use Rattle.covjson_value.specs.Coverages.{IsValid}
use Rattle.edr_ids.specs.Ids.{AreById, without_id}
use Rattle.edr_edition.specs.declared.kinds.Kind.{Kind}
use Rattle.edr_draft.specs.declared.changes.Change.{Change}
use Rattle.edr_draft.specs.declared.changes.Change.TheVariants.{Collection, Grid, Station, DropCollection, DropInstance, DropStation, Bare}
use Rattle.edr_draft.specs.declared.changes.ChangeFault.{ChangeFault}
use Rattle.edr_draft.specs.declared.changes.ChangeFault.TheVariants.{SameCollection, UnknownCollection, WrongKind, UnknownInstance, UnknownStation, NoTimes, CrsDiffers, TooManyNodes, ParametersDiffer, LevelsDiffer, OutOfMemory}
use Rattle.edr_edition.specs.Values.{CollectionValue, instance_id, collection_id}
use Rattle.edr_edition.specs.Editions.{IsCollection, AreCollections}
use Rattle.edr_station.specs.Stations.{station_id}
use Rattle.edr_edition.specs.Collections.{empty_collection, without_instance, without_station}
use Rattle.edr_draft.specs.Changes.{IsChange, with_grid, with_series, bare_collection, with_changed, made, rank, Setting, as_instance, as_station, AppliesToSet, AppliesToDrop, AppliesToDropStation, Applies, Changes, IsRefused}
use Rattle.edr_edition.specs.Stores.{collection_in}
use Rattle.edr_draft.specs.Outcomes.{HasOneOutcome, collection_of, KeepsOthers}
use Rattle.edr_draft.proofs.ParameterLaws.{first_difference_once}
use Rattle.edr_draft.proofs.FaultLaws.{Decided, set_decided}
use Rattle.edr_draft.proofs.SeriesLaws.{levels_differ_or_not}
use Rattle.edr_draft.proofs.RefusalLaws.{same_refuses, none_to_add, unknown_refuses, none_to_drop, set_unknown_first, drop_unknown, drop_decided, drop_station_unknown, drop_station_decided}
use Rattle.edr_ids.specs.ListLaws.{item_found}
use Rattle.edr_draft.proofs.CollectionLaws.{found_are_collections, bare_is_collection, made_are_collections}
use Rattle.edr_base.specs.FirstLaws.{least_rank}

-- ---- some outcome

some_or_none : {V : Type 0} (xs : List V) → (xs ≢ []) ⊎ (¬ (xs ≢ []))
some_or_none [] = inr (λ some. some refl)
some_or_none (x ∷ xs) = inl (λ h. cc)

grid_decided : (c : CollectionValue) (id : List ℕ) (coverage : Coverage) → IsCollection c → IsValid coverage → Decided (AppliesToSet (as_instance id) (Some c) coverage)
grid_decided c id coverage is valid = set_decided (as_instance id) c coverage (some_or_none (without_id instance_id id c.instances)) (inr (λ h. h)) is valid

series_decided : (c : CollectionValue) (id : List ℕ) (coverage : Coverage) → IsCollection c → IsValid coverage → Decided (AppliesToSet (as_station id) (Some c) coverage)
series_decided c id coverage is valid =
    set_decided (as_station id) c coverage (some_or_none (without_id station_id id c.stations)) (levels_differ_or_not coverage (without_id station_id id c.stations)) is valid

setting_decided : (setting : Setting) (found : Option CollectionValue) (coverage : Coverage) → IfSome found IsCollection
    → ((c : CollectionValue) → IsCollection c → Decided (AppliesToSet setting (Some c) coverage)) → Decided (AppliesToSet setting found coverage)
setting_decided setting None coverage is in_one = inr (UnknownCollection, set_unknown_first setting coverage)
setting_decided setting (Some c) coverage is in_one = in_one c is

dropping_decided : (found : Option CollectionValue) (id : List ℕ) → Decided (AppliesToDrop found id)
dropping_decided None id = inr (UnknownCollection, drop_unknown id)
dropping_decided (Some c) id = drop_decided c id

dropping_station_decided : (found : Option CollectionValue) (id : List ℕ) → Decided (AppliesToDropStation found id)
dropping_station_decided None id = inr (UnknownCollection, drop_station_unknown id)
dropping_station_decided (Some c) id = drop_station_decided c id

adding_decided : (cs : List CollectionValue) (id : List ℕ) (kind : Kind) (title crs : List ℕ) (vertical : Option (List ℕ)) (found : Option CollectionValue) → collection_in cs id ≡ found
    → Decided (Applies cs (Collection id kind title crs vertical))
adding_decided cs id kind title crs vertical None is = inl (none_to_add cs id kind title crs vertical is)
adding_decided cs id kind title crs vertical (Some c) is = inr (SameCollection, same_refuses cs id kind title crs vertical c is)

removing_decided : (cs : List CollectionValue) (id : List ℕ) (found : Option CollectionValue) → collection_in cs id ≡ found → Decided (Applies cs (DropCollection id))
removing_decided cs id None is = inr (UnknownCollection, unknown_refuses cs id is)
removing_decided cs id (Some c) is = inl (none_to_drop cs id c is)

decided : (cs : List CollectionValue) (change : Change) → AreCollections cs → IsChange change → Decided (Applies cs change)
decided cs (Collection id kind title crs vertical) are is = adding_decided cs id kind title crs vertical (collection_in cs id) refl
decided cs (Grid collection instance coverage) are is =
    let found = collection_in cs collection in
    setting_decided (as_instance instance) found coverage (found_are_collections cs collection found are refl) (λ c one. grid_decided c instance coverage one is.1.1)
decided cs (Station collection id label coverage) are is =
    let found = collection_in cs collection in
    setting_decided (as_station id) found coverage (found_are_collections cs collection found are refl) (λ c one. series_decided c id coverage one is.1.1.1)
decided cs (DropCollection collection) are is = removing_decided cs collection (collection_in cs collection) refl
decided cs (DropInstance collection instance) are is = dropping_decided (collection_in cs collection) instance
decided cs (DropStation collection id) are is = dropping_station_decided (collection_in cs collection) id
decided cs (Bare coverage) are is =
    grid_decided (bare_collection cs coverage.referencing) (codes "1") coverage (bare_is_collection cs coverage.referencing are is.referencing) is

some_outcome : (cs : List CollectionValue) (change : Change) → Decided (Applies cs change)
    → ((new : List CollectionValue) × Changes cs change new) ⊎ ((fault : ChangeFault) × IsRefused cs change fault)
some_outcome cs change (inl none) = inl (made cs change, record { can = none; gives = refl })
some_outcome cs change (inr found) = inr found

-- ---- no second one

-- the fault of a place in the order, with what it tells
abbrev fault_at : ℕ → ℕ → List ℕ → ChangeFault
fault_at place count differing =
    if place == 1 then SameCollection else if place == 2 then UnknownCollection else if place == 3 then WrongKind else
    if place == 4 then UnknownInstance else if place == 5 then UnknownStation else if place == 6 then NoTimes else if place == 7 then CrsDiffers else
    if place == 8 then TooManyNodes count else if place == 9 then ParametersDiffer differing else if place == 10 then LevelsDiffer else OutOfMemory

abbrev count_in : ChangeFault → ℕ
count_in (TooManyNodes count) = count
count_in other = 0

abbrev differing_in : ChangeFault → List ℕ
differing_in (ParametersDiffer differing) = differing
differing_in other = []

rank_back : (fault : ChangeFault) → fault_at (rank fault) (count_in fault) (differing_in fault) ≡ fault
rank_back SameCollection = refl
rank_back UnknownCollection = refl
rank_back WrongKind = refl
rank_back UnknownInstance = refl
rank_back UnknownStation = refl
rank_back NoTimes = refl
rank_back CrsDiffers = refl
rank_back (TooManyNodes count) = refl
rank_back (ParametersDiffer differing) = refl
rank_back LevelsDiffer = refl
rank_back OutOfMemory = refl

-- by its place a fault is known, but for what it tells
known : (a b : ChangeFault) → rank a ≡ rank b → b ≡ fault_at (rank a) (count_in b) (differing_in b)
known a b same = sym (rank_back b) ∙ ap (λ place. fault_at place (count_in b) (differing_in b)) (sym same)

set_once : (setting : Setting) (found : Option CollectionValue) (coverage : Coverage) (a b : ChangeFault) → AppliesToSet setting found coverage a → AppliesToSet setting found coverage b → rank a ≡ rank b → a ≡ b
set_once setting found coverage (TooManyNodes m) b ha hb same =
    let is : b ≡ TooManyNodes (count_in b) = known (TooManyNodes m) b same in
    ap TooManyNodes (ha.0 ∙ sym (subst (AppliesToSet setting found coverage) is hb).0) ∙ sym is
set_once setting None coverage (ParametersDiffer x) b ha hb same = absurd ha
set_once setting (Some c) coverage (ParametersDiffer x) b ha hb same =
    let is : b ≡ ParametersDiffer (differing_in b) = known (ParametersDiffer x) b same in
    ap ParametersDiffer (first_difference_once c.parameters coverage.parameters x (differing_in b) ha.1 (subst (AppliesToSet setting (Some c) coverage) is hb).1) ∙ sym is
set_once setting found coverage a b ha hb same = sym (known a b same)

dropping_once : (found : Option CollectionValue) (id : List ℕ) (a b : ChangeFault) → AppliesToDrop found id a → rank a ≡ rank b → a ≡ b
dropping_once found id (TooManyNodes m) b ha same = absurd ha
dropping_once found id (ParametersDiffer x) b ha same = absurd ha
dropping_once found id a b ha same = sym (known a b same)

dropping_station_once : (found : Option CollectionValue) (id : List ℕ) (a b : ChangeFault) → AppliesToDropStation found id a → rank a ≡ rank b → a ≡ b
dropping_station_once found id (TooManyNodes m) b ha same = absurd ha
dropping_station_once found id (ParametersDiffer x) b ha same = absurd ha
dropping_station_once found id a b ha same = sym (known a b same)

adding_is : (cs : List CollectionValue) (id : List ℕ) (kind : Kind) (title crs : List ℕ) (vertical : Option (List ℕ)) (fault : ChangeFault)
    → Applies cs (Collection id kind title crs vertical) fault → fault ≡ SameCollection
adding_is cs id kind title crs vertical SameCollection h = refl
adding_is cs id kind title crs vertical other h = absurd h

removing_is : (cs : List CollectionValue) (id : List ℕ) (fault : ChangeFault) → Applies cs (DropCollection id) fault → fault ≡ UnknownCollection
removing_is cs id UnknownCollection h = refl
removing_is cs id other h = absurd h

fault_once : (cs : List CollectionValue) (change : Change) (a b : ChangeFault) → Applies cs change a → Applies cs change b → rank a ≡ rank b → a ≡ b
fault_once cs (Collection id kind title crs vertical) a b ha hb same = adding_is cs id kind title crs vertical a ha ∙ sym (adding_is cs id kind title crs vertical b hb)
fault_once cs (Grid collection instance coverage) a b ha hb same = set_once (as_instance instance) (collection_in cs collection) coverage a b ha hb same
fault_once cs (Station collection id label coverage) a b ha hb same = set_once (as_station id) (collection_in cs collection) coverage a b ha hb same
fault_once cs (DropCollection collection) a b ha hb same = removing_is cs collection a ha ∙ sym (removing_is cs collection b hb)
fault_once cs (DropInstance collection instance) a b ha hb same = dropping_once (collection_in cs collection) instance a b ha same
fault_once cs (DropStation collection id) a b ha hb same = dropping_station_once (collection_in cs collection) id a b ha same
fault_once cs (Bare coverage) a b ha hb same = set_once (as_instance (codes "1")) (Some (bare_collection cs coverage.referencing)) coverage a b ha hb same

refused_once : (cs : List CollectionValue) (change : Change) (a b : ChangeFault) → IsRefused cs change a → IsRefused cs change b → a ≡ b
refused_once cs change a b first first' = fault_once cs change a b first.applies first'.applies (least_rank rank (Applies cs change) a b first first')

memory_never : (cs : List CollectionValue) (change : Change) → ¬ (Applies cs change OutOfMemory)
memory_never cs (Collection id kind title crs vertical) h = h
memory_never cs (Grid collection instance coverage) h = h
memory_never cs (Station collection id label coverage) h = h
memory_never cs (DropCollection collection) h = h
memory_never cs (DropInstance collection instance) h = h
memory_never cs (DropStation collection id) h = h
memory_never cs (Bare coverage) h = h

pub one_outcome : (collections : List CollectionValue) (change : Change) → HasOneOutcome collections change
one_outcome cs change = record {
  some = λ are is. some_outcome cs change (decided cs change are is);
  not_both = λ new fault gives refused. gives.can fault refused.applies;
  one = λ new other gives gives'. gives.gives ∙ sym gives'.gives;
  one_fault = λ fault other refused refused'. refused_once cs change fault other refused refused';
  not_memory = λ refused. memory_never cs change refused.applies;
}

-- ---- the other collections

module _ (by_id : AreById collection_id) (id : List ℕ) (cs : List CollectionValue) where
  changed_leaves : (collection : List ℕ) (change : CollectionValue → CollectionValue) (found : Option CollectionValue) → ((c : CollectionValue) → (change c).id ≡ c.id) → collection_in cs collection ≡ found
      → id ≢ collection → collection_in (with_changed change found cs) id ≡ collection_in cs id
  changed_leaves collection change None keeps is apart = refl
  changed_leaves collection change (Some c) keeps is apart =
      by_id.set_others id (change c) cs (λ own. apart (sym own ∙ (keeps c ∙ (item_found collection_id collection cs c is).1)))

  bare_id : (referencing : Referencing) (found : Option CollectionValue) → collection_in cs (codes "grid") ≡ found → (bare_collection cs referencing).id ≡ codes "grid"
  bare_id referencing None is = rw is refl
  bare_id referencing (Some c) is = rw is ((item_found collection_id (codes "grid") cs c is).1)

  others_left : (change : Change) → id ≢ collection_of change → collection_in (made cs change) id ≡ collection_in cs id
  others_left (Collection own kind title crs vertical) apart =
      by_id.set_others id (empty_collection own kind title (record { crs = crs; vertical = vertical })) cs (λ same. apart (sym same))
  others_left (Grid collection instance coverage) apart = changed_leaves collection (with_grid instance coverage) (collection_in cs collection) (λ c. refl) refl apart
  others_left (Station collection own label coverage) apart = changed_leaves collection (with_series own label coverage) (collection_in cs collection) (λ c. refl) refl apart
  others_left (DropCollection collection) apart = by_id.left id collection cs apart
  others_left (DropInstance collection instance) apart = changed_leaves collection (without_instance instance) (collection_in cs collection) (λ c. refl) refl apart
  others_left (DropStation collection own) apart = changed_leaves collection (without_station own) (collection_in cs collection) (λ c. refl) refl apart
  others_left (Bare coverage) apart =
      by_id.set_others id (with_grid (codes "1") coverage (bare_collection cs coverage.referencing)) cs
      (λ same. apart (sym same ∙ bare_id coverage.referencing (collection_in cs (codes "grid")) refl))

pub keeps_others : AreById collection_id → (old : List CollectionValue) (change : Change) (new : List CollectionValue) → Changes old change new → KeepsOthers old change new
keeps_others by_id old change new changes = record {
  collections = λ are is. subst AreCollections (sym changes.gives) (made_are_collections old change are is changes.can);
  others = λ id apart. subst (λ cs. collection_in cs id ≡ collection_in old id) (sym changes.gives) (others_left by_id id old change apart);
}
