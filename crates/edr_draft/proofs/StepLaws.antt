-- What the steps of a change make of collections.
use Rattle.std.proofs.Common.{◌≡◌, ◌≢◌, inl, inr, ℕ, Bool, true, false, is_some, option_map, codes, List, [], ◌∷◌, Option, Some, None, Result, Ok, Err, IfOk, IsErrAnd, unwrap_or, refl, sym, ap, ◌∙◌, subst}
use Rattle.std.proofs.lemmas.Bool.{cases_Bool}
use Rattle.covjson_value.specs.declared.coverages.Coverage.{Coverage}
use Rattle.covjson_value.specs.declared.coverages.Referencing.{Referencing}
use Rattle.edr_base.specs.FirstThatApplies.{IsLeast, NoneApplies}
use Rattle.edr_ids.specs.Ids.{has_id, item_of, with_item, without_id}
use Rattle.edr_edition.specs.declared.kinds.Kind.{Kind}
use Rattle.edr_edition.specs.declared.kinds.Kind.TheVariants.{Grid as Grids, Station as Stations}
use Rattle.edr_draft.specs.declared.changes.Change.{Change}
use Rattle.edr_draft.specs.declared.changes.Change.TheVariants.{Collection, Grid, Station, DropCollection, DropInstance, DropStation, Bare}
use Rattle.edr_draft.specs.declared.changes.ChangeFault.{ChangeFault}
use Rattle.edr_draft.specs.declared.changes.ChangeFault.TheVariants.{SameCollection, UnknownCollection, WrongKind, UnknownInstance, UnknownStation, OutOfMemory}
use Rattle.edr_station.specs.Stations.{station_id}
use Rattle.edr_edition.specs.Values.{InstanceValue, CollectionValue, instance_id, collection_id}
use Rattle.edr_edition.specs.Instances.{instance_of}
use Rattle.edr_edition.specs.Collections.{empty_collection, without_instance, without_station}
use Rattle.edr_draft.specs.Changes.{with_grid, with_series, bare_collection, with_changed, made, rank, as_instance, as_station, AppliesToSet, AppliesToDrop, AppliesToDropStation, Applies, IsRefused}
use Rattle.edr_edition.specs.Stores.{collection_in}
use Rattle.edr_draft.specs.Steps.{Finds}
use Rattle.edr_draft.proofs.RefusalLaws.{same_refuses, none_to_add, unknown_refuses, none_to_drop, set_unknown_first, drop_unknown, drop_wrong_kind, drop_unknown_instance, drop_no_fault, drop_station_unknown, drop_station_wrong_kind, drop_unknown_station, drop_station_no_fault}

pub without_missing : {V : Type 0} (key : V → List ℕ) (xs : List V) (id : List ℕ) → is_some (item_of key id xs) ≡ false → without_id key id xs ≡ xs
without_missing key [] id lacks = refl
without_missing key (x ∷ xs) id lacks =
    elim (cases_Bool (has_id key id x)) [
      | inl has ↦ (let found : true ≡ false = rw has at lacks in cc)
      | inr differs ↦ (let rest : is_some (item_of key id xs) ≡ false = rw differs at lacks in rw differs (ap (λ ys. x ∷ ys) (without_missing key xs id rest)))
    ]

some_from_test : {V : Type 0} (o : Option V) → is_some o ≡ true → (x : V) × (o ≡ Some x)
some_from_test (Some x) h = (x, refl)
some_from_test None h = cc

none_from_test : {V : Type 0} (o : Option V) → is_some o ≡ false → o ≡ None
none_from_test (Some x) h = cc
none_from_test None h = refl

-- what is found is tested
pub tested : {A B : Type 0} (f : A → B) (found : Option A) (item : Option B) (test is : Bool) → option_map f found ≡ item → test ≡ is_some found → test ≡ is → is_some item ≡ is
tested f None item test is same some h = ap is_some (sym same) ∙ (sym some ∙ h)
tested f (Some x) item test is same some h = ap is_some (sym same) ∙ (sym some ∙ h)

pub same_where_ok : {T E : Type 0} (r : Result T E) (one other : T) → IfOk r (λ x. x ≡ one) → one ≡ other → IfOk r (λ x. x ≡ other)
same_where_ok (Ok x) one other is same = is ∙ same
same_where_ok (Err e) one other is same = tt

-- ---- a coverage set

-- in the collection of an id
pub becomes_with_grid : (cs new : List CollectionValue) (collection instance : List ℕ) (coverage : Coverage) (c : CollectionValue) → collection_in cs collection ≡ Some c
    → new ≡ with_item collection_id (with_grid instance coverage c) cs → new ≡ made cs (Grid collection instance coverage)
becomes_with_grid cs new collection instance coverage c is put = subst (λ (o : Option CollectionValue). new ≡ with_changed (with_grid instance coverage) o cs) (sym is) put

pub becomes_with_series : (cs new : List CollectionValue) (collection id label : List ℕ) (coverage : Coverage) (c : CollectionValue) → collection_in cs collection ≡ Some c
    → new ≡ with_item collection_id (with_series id label coverage c) cs → new ≡ made cs (Station collection id label coverage)
becomes_with_series cs new collection id label coverage c is put = subst (λ (o : Option CollectionValue). new ≡ with_changed (with_series id label coverage) o cs) (sym is) put

-- in the collection of bare coverages
pub becomes_with_bare : (cs new : List CollectionValue) (one : List ℕ) (coverage : Coverage) (c : CollectionValue) → c ≡ bare_collection cs coverage.referencing → one ≡ codes "1"
    → new ≡ with_item collection_id (with_grid one coverage c) cs → new ≡ made cs (Bare coverage)
becomes_with_bare cs new one coverage c is name put = subst (λ b. new ≡ with_item collection_id (with_grid (codes "1") coverage b) cs) is (subst (λ i. new ≡ with_item collection_id (with_grid i coverage c) cs) name put)

pub empty_same : {E : Type 0} (r : Result CollectionValue E) (id title : List ℕ) (own referencing : Referencing) → IfOk r (λ c. c ≡ empty_collection id Grids title own) → id ≡ codes "grid" → title ≡ codes "grid" → own ≡ referencing
    → IfOk r (λ c. c ≡ bare_collection [] referencing)
empty_same (Ok c) id title own referencing is name named same =
    is
    ∙ (ap (λ i. empty_collection i Grids title own) name
    ∙ (ap (λ t. empty_collection (codes "grid") Grids t own) named
    ∙ ap (empty_collection (codes "grid") Grids (codes "grid")) same))
empty_same (Err e) id title own referencing is name named same = tt

pub bare_found : (cs : List CollectionValue) (referencing : Referencing) (c : CollectionValue) → Some c ≡ collection_in cs (codes "grid") → c ≡ bare_collection cs referencing
bare_found cs referencing c is = ap (λ o. unwrap_or o (bare_collection [] referencing)) is

pub bare_missing : (cs : List CollectionValue) (referencing : Referencing) → None ≡ collection_in cs (codes "grid") → bare_collection [] referencing ≡ bare_collection cs referencing
bare_missing cs referencing is = ap (λ o. unwrap_or o (bare_collection [] referencing)) is

-- a collection that isn't there
pub set_unknown : (cs : List CollectionValue) (collection instance : List ℕ) (coverage : Coverage) → collection_in cs collection ≡ None → IsLeast rank (Applies cs (Grid collection instance coverage)) UnknownCollection
set_unknown cs collection instance coverage is =
    subst (λ (o : Option CollectionValue). IsLeast rank (AppliesToSet (as_instance instance) o coverage) UnknownCollection) (sym is) (set_unknown_first (as_instance instance) coverage)

pub series_unknown : (cs : List CollectionValue) (collection id label : List ℕ) (coverage : Coverage) → collection_in cs collection ≡ None → IsLeast rank (Applies cs (Station collection id label coverage)) UnknownCollection
series_unknown cs collection id label coverage is =
    subst (λ (o : Option CollectionValue). IsLeast rank (AppliesToSet (as_station id) o coverage) UnknownCollection) (sym is) (set_unknown_first (as_station id) coverage)

pub dropping_unknown : (cs : List CollectionValue) (collection instance : List ℕ) → collection_in cs collection ≡ None → IsLeast rank (Applies cs (DropInstance collection instance)) UnknownCollection
dropping_unknown cs collection instance is =
    subst (λ (o : Option CollectionValue). IsLeast rank (AppliesToDrop o instance) UnknownCollection) (sym is) (drop_unknown instance)

pub dropping_station_unknown : (cs : List CollectionValue) (collection id : List ℕ) → collection_in cs collection ≡ None → IsLeast rank (Applies cs (DropStation collection id)) UnknownCollection
dropping_station_unknown cs collection id is =
    subst (λ (o : Option CollectionValue). IsLeast rank (AppliesToDropStation o id) UnknownCollection) (sym is) (drop_station_unknown id)

-- ---- an instance dropped

module _ (cs : List CollectionValue) (c : CollectionValue) (collection instance : List ℕ) (there : Some c ≡ collection_in cs collection) where
  pub dropping_wrong_kind : c.kind ≢ Grids → IsLeast rank (Applies cs (DropInstance collection instance)) WrongKind
  dropping_wrong_kind other =
      subst (λ (o : Option CollectionValue). IsLeast rank (AppliesToDrop o instance) WrongKind) there (drop_wrong_kind c instance other)

  pub dropping_unknown_instance : c.kind ≡ Grids → is_some (item_of instance_id instance c.instances) ≡ false → IsLeast rank (Applies cs (DropInstance collection instance)) UnknownInstance
  dropping_unknown_instance kind lacks =
      subst (λ (o : Option CollectionValue). IsLeast rank (AppliesToDrop o instance) UnknownInstance) there (drop_unknown_instance c instance kind lacks)

  pub dropping_no_fault : c.kind ≡ Grids → is_some (item_of instance_id instance c.instances) ≡ true → NoneApplies (Applies cs (DropInstance collection instance))
  dropping_no_fault kind has =
      subst (λ (o : Option CollectionValue). NoneApplies (AppliesToDrop o instance)) there (drop_no_fault c instance kind has)

  pub instance_left : (left : CollectionValue) → left ≡ without_instance instance c → with_item collection_id left cs ≡ made cs (DropInstance collection instance)
  instance_left left is = ap (λ b. with_item collection_id b cs) is ∙ ap (λ o. with_changed (without_instance instance) o cs) there

-- ---- a station dropped

module _ (cs : List CollectionValue) (c : CollectionValue) (collection id : List ℕ) (there : Some c ≡ collection_in cs collection) where
  pub dropping_station_wrong_kind : c.kind ≢ Stations → IsLeast rank (Applies cs (DropStation collection id)) WrongKind
  dropping_station_wrong_kind other =
      subst (λ (o : Option CollectionValue). IsLeast rank (AppliesToDropStation o id) WrongKind) there (drop_station_wrong_kind c id other)

  pub dropping_unknown_station : c.kind ≡ Stations → is_some (item_of station_id id c.stations) ≡ false → IsLeast rank (Applies cs (DropStation collection id)) UnknownStation
  dropping_unknown_station kind lacks =
      subst (λ (o : Option CollectionValue). IsLeast rank (AppliesToDropStation o id) UnknownStation) there (drop_unknown_station c id kind lacks)

  pub dropping_station_no_fault : c.kind ≡ Stations → is_some (item_of station_id id c.stations) ≡ true → NoneApplies (Applies cs (DropStation collection id))
  dropping_station_no_fault kind has =
      subst (λ (o : Option CollectionValue). NoneApplies (AppliesToDropStation o id)) there (drop_station_no_fault c id kind has)

  pub station_left : (left : CollectionValue) → left ≡ without_station id c → with_item collection_id left cs ≡ made cs (DropStation collection id)
  station_left left is = ap (λ b. with_item collection_id b cs) is ∙ ap (λ o. with_changed (without_station id) o cs) there

-- ---- a collection dropped

pub nothing_there_to_drop : (cs : List CollectionValue) (id : List ℕ) → is_some (collection_in cs id) ≡ false → IsRefused cs (DropCollection id) UnknownCollection
nothing_there_to_drop cs id lacks = unknown_refuses cs id (none_from_test (collection_in cs id) lacks)

pub one_there_to_drop : (cs : List CollectionValue) (id : List ℕ) → is_some (collection_in cs id) ≡ true → NoneApplies (Applies cs (DropCollection id))
one_there_to_drop cs id has = (let found = some_from_test (collection_in cs id) has in none_to_drop cs id found.0 found.1)

-- ---- a collection added

module _ (cs : List CollectionValue) (id : List ℕ) (kind : Kind) (title : List ℕ) (referencing : Referencing) where
  pub there_refuses : is_some (collection_in cs id) ≡ true → IsRefused cs (Collection id kind title referencing.crs referencing.vertical) SameCollection
  there_refuses has = (let found = some_from_test (collection_in cs id) has in same_refuses cs id kind title referencing.crs referencing.vertical found.0 found.1)

  pub nothing_there : is_some (collection_in cs id) ≡ false → NoneApplies (Applies cs (Collection id kind title referencing.crs referencing.vertical))
  nothing_there lacks = none_to_add cs id kind title referencing.crs referencing.vertical (none_from_test (collection_in cs id) lacks)

-- ---- a fault that is handed on

pub still_finds : {T : Type 0} (Applying : ChangeFault → Type 0) (r : Result T ChangeFault) (fault : ChangeFault) → IsErrAnd r (λ e. e ≡ fault) → (fault ≢ OutOfMemory → IsLeast rank Applying fault) → Finds Applying r
still_finds Applying (Ok u) fault same found = absurd same
still_finds Applying (Err e) fault same found = λ other. subst (IsLeast rank Applying) (sym same) (found (λ own. other (same ∙ own)))

-- ---- an instance that fits

pub same_others : (c : CollectionValue) (id : List ℕ) (coverage : Coverage) (i : InstanceValue) → ((as_instance id).has_others c → c.parameters ≡ coverage.parameters) → i ≡ instance_of id coverage
    → without_id instance_id i.id c.instances ≢ [] → c.parameters ≡ i.parameters
same_others c id coverage i same is = subst (λ (j : InstanceValue). without_id instance_id j.id c.instances ≢ [] → c.parameters ≡ j.parameters) (sym is) same
