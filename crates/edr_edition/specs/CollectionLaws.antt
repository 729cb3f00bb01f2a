-- Laws of collections in which an instance or a station is set or taken out, for the proofs of callers.
use Rattle.std.proofs.Common.{◌≡◌, ◌≢◌, ◌≤◌, inl, inr, ℕ, Bool, true, false, not, is_some, List, [], ◌∷◌, ◌++◌, length, All, IsSome, IsNone, IsUtf8, Ordering, refl, sym, ap, ◌∙◌, subst}
use Rattle.std.proofs.lemmas.Bool.{cases_Bool}
use Rattle.std.proofs.lemmas.List.Elements.{All-nil, All-append, All-cons, All-head, All-tail, All-filter, All-weaker}
use Rattle.std.proofs.lemmas.Map.Text.{is_eq-slice_cmp}
use Rattle.std.specs.List.{filter}
use Rattle.std.specs.Ordering.{is_lt, is_eq, is_gt}
use Rattle.std.specs.declared.cmp.Ordering.TheVariants.{Less, Equal, Greater}
use Rattle.covjson_value.specs.declared.coverages.Parameter.{Parameter}
use Rattle.covjson_value.specs.declared.coverages.Referencing.{Referencing}
use Rattle.covjson_value.specs.Coverages.{IsParameter, IsReferencing}
use Rattle.edr_base.specs.Limits.{node_limit}
use Rattle.edr_base.specs.Names.{IsName, order}
use Rattle.edr_ids.specs.Ids.{has_id, is_below, is_above, with_item, without_id}
use Rattle.edr_ids.specs.ListLaws.{AscendBy-nil, AscendBy-with_item, AscendBy-without_id}
use Rattle.edr_station.specs.Stations.{StationValue, IsStation, station_id, values_along}
use Rattle.edr_edition.specs.declared.kinds.Kind.{Kind}
use Rattle.edr_edition.specs.declared.kinds.Kind.TheVariants.{Grid, Station}
use Rattle.edr_edition.specs.Values.{InstanceValue, CollectionValue, instance_id}
use Rattle.edr_edition.specs.Instances.{IsInstance}
use Rattle.edr_edition.specs.Editions.{AreParameters, AreInstances, AreAlike, AreStationsOf, IsCollection}
use Rattle.edr_edition.specs.Collections.{empty_collection, where_some, with_instance, without_instance, with_station, without_station}
use Rattle.edr_edition.specs.GridLaws.{instance_has}

-- ---- those above an id, or below it, haven't it

lacks_below : (o : Ordering) → is_lt o ≡ true → is_eq o ≡ false
lacks_below Less h = refl
lacks_below Equal h = cc
lacks_below Greater h = refl

lacks_above : (o : Ordering) → is_gt o ≡ true → is_eq o ≡ false
lacks_above Less h = refl
lacks_above Equal h = cc
lacks_above Greater h = refl

module _ {V : Type 0} (p q : V → Bool) (narrows : (x : V) → p x ≡ true → q x ≡ true) (P : V → Type 0) where
  All-narrower : (xs : List V) → All P (filter q xs) → All P (filter p xs)
  All-narrower [] h = h
  All-narrower (x ∷ xs) h =
      elim (cases_Bool (p x)) [
        | inl has ↦ (let wide : q x ≡ true = narrows x has in
            let whole : All P (x ∷ filter q xs) = rw wide at h in
            rw has (All-cons P x (filter p xs) (All-head P x (filter q xs) whole) (All-narrower xs (All-tail P x (filter q xs) whole))))
        | inr lacks ↦ elim (cases_Bool (q x)) [
          | inl wide ↦ (let whole : All P (x ∷ filter q xs) = rw wide at h in
              rw lacks (All-narrower xs (All-tail P x (filter q xs) whole)))
          | inr narrow ↦ (let rest : All P (filter q xs) = rw narrow at h in rw lacks (All-narrower xs rest))
        ]
      ]

module _ {V : Type 0} (p q : V → Bool) (narrows : (x : V) → p x ≡ true → q x ≡ true) where
  filter-narrower : (xs : List V) → filter q xs ≡ [] → filter p xs ≡ []
  filter-narrower [] none = refl
  filter-narrower (x ∷ xs) none =
      elim (cases_Bool (q x)) [
        | inl wide ↦ (let some : x ∷ filter q xs ≡ [] = rw wide at none in cc)
        | inr narrow ↦ elim (cases_Bool (p x)) [
          | inl has ↦ (let wide : q x ≡ true = narrows x has in cc)
          | inr lacks ↦ (let rest : filter q xs ≡ [] = rw narrow at none in rw lacks (filter-narrower xs rest))
        ]
      ]

module _ {V : Type 0} (key : V → List ℕ) where
  below_is_other : (id : List ℕ) (x : V) → is_below key id x ≡ true → not (has_id key id x) ≡ true
  below_is_other id x h = ap not (sym (is_eq-slice_cmp (key x) id) ∙ lacks_below (order (key x) id) h)

  above_is_other : (id : List ℕ) (x : V) → is_above key id x ≡ true → not (has_id key id x) ≡ true
  above_is_other id x h = ap not (sym (is_eq-slice_cmp (key x) id) ∙ lacks_above (order (key x) id) h)

  -- what holds of an item and of all others holds of all where it is set
  pub All-with_item : (P : V → Type 0) (x : V) (xs : List V) → P x → All P (without_id key (key x) xs) → All P (with_item key x xs)
  All-with_item P x xs here others =
      All-append P (filter (is_below key (key x)) xs) (x ∷ filter (is_above key (key x)) xs)
      (All-narrower (is_below key (key x)) (λ o. not (has_id key (key x) o)) (below_is_other (key x)) P xs others)
      (All-cons P x (filter (is_above key (key x)) xs) here
      (All-narrower (is_above key (key x)) (λ o. not (has_id key (key x) o)) (above_is_other (key x)) P xs others))

  pub All-without_id : (P : V → Type 0) (id : List ℕ) (xs : List V) → All P xs → All P (without_id key id xs)
  All-without_id P id xs all = All-filter (λ x. not (has_id key id x)) P xs all

  -- where all have the id of an item, it alone is left where it is set
  pub set_alone : (x : V) (xs : List V) → without_id key (key x) xs ≡ [] → with_item key x [] ≡ with_item key x xs
  set_alone x xs none =
      let below : filter (is_below key (key x)) xs ≡ [] = filter-narrower (is_below key (key x)) (λ o. not (has_id key (key x) o)) (below_is_other (key x)) xs none in
      let above : filter (is_above key (key x)) xs ≡ [] = filter-narrower (is_above key (key x)) (λ o. not (has_id key (key x) o)) (above_is_other (key x)) xs none in
      sym (ap (λ ys. ys ++ x ∷ filter (is_above key (key x)) xs) below ∙ ap (λ ys. x ∷ ys) above)

  -- with an item set a list isn't empty
  set_is_some : (x : V) (xs : List V) → with_item key x xs ≢ []
  set_is_some x xs = behind (filter (is_below key (key x)) xs)
    where
      behind : (front : List V) → front ++ x ∷ filter (is_above key (key x)) xs ≢ []
      behind [] h = cc
      behind (y ∷ front) h = cc

-- ---- parameters

pub instance_parameters : (i : InstanceValue) → IsInstance i → AreParameters i.parameters
instance_parameters i is = (let has = instance_has i is in record { each = has.parameters; ascending = has.ascending })

no_parameters : AreParameters []
no_parameters = record { each = All-nil IsParameter; ascending = AscendBy-nil (λ (p : Parameter). p.id) }

parameters_where_some : {V : Type 0} (xs : List V) (parameters : List Parameter) → AreParameters parameters → AreParameters (where_some xs parameters)
parameters_where_some [] parameters are = no_parameters
parameters_where_some (x ∷ xs) parameters are = are

none_where_none : {V : Type 0} (xs : List V) (parameters : List Parameter) → xs ≡ [] → where_some xs parameters ≡ []
none_where_none [] parameters none = refl
none_where_none (x ∷ xs) parameters none = cc

-- what holds of each item by some parameters holds by those where some item is
all_where_some : {V : Type 0} (P : List Parameter → V → Type 0) (xs : List V) (parameters : List Parameter) → All (P parameters) xs → All (P (where_some xs parameters)) xs
all_where_some P [] parameters all = All-nil (P [])
all_where_some P (x ∷ xs) parameters all = all

-- ---- instances

-- the others have the parameters of one that is set
others_have : (parameters : List Parameter) (others : List InstanceValue) (i : InstanceValue) → (others ≢ [] → parameters ≡ i.parameters) → All (λ (o : InstanceValue). o.parameters ≡ parameters) others
    → All (λ (o : InstanceValue). o.parameters ≡ i.parameters) others
others_have parameters [] i same all = All-nil (λ o. o.parameters ≡ i.parameters)
others_have parameters (other ∷ others) i same all =
    let is : parameters ≡ i.parameters = same (λ h. cc) in
    All-weaker (λ (o : InstanceValue). o.parameters ≡ parameters) (λ o. o.parameters ≡ i.parameters) (λ o e. e ∙ is) (other ∷ others) all

instances_with : (i : InstanceValue) (parameters : List Parameter) (is : List InstanceValue) → AreInstances parameters is → IsInstance i → (without_id instance_id i.id is ≢ [] → parameters ≡ i.parameters)
    → AreInstances i.parameters (with_item instance_id i is)
instances_with i parameters is are one same = record {
  each = All-with_item instance_id IsInstance i is one (All-without_id instance_id IsInstance i.id is are.each);
  ascending = AscendBy-with_item instance_id i is are.ascending;
  same = All-with_item instance_id (λ o. o.parameters ≡ i.parameters) i is refl
      (others_have parameters (without_id instance_id i.id is) i same (All-without_id instance_id (λ (o : InstanceValue). o.parameters ≡ parameters) i.id is are.same));
}

instances_without : (id : List ℕ) (parameters : List Parameter) (is : List InstanceValue) → AreInstances parameters is
    → AreInstances (where_some (without_id instance_id id is) parameters) (without_id instance_id id is)
instances_without id parameters is are = record {
  each = All-without_id instance_id IsInstance id is are.each;
  ascending = AscendBy-without_id instance_id id is are.ascending;
  same = all_where_some (λ (ps : List Parameter) (o : InstanceValue). o.parameters ≡ ps) (without_id instance_id id is) parameters
      (All-without_id instance_id (λ (o : InstanceValue). o.parameters ≡ parameters) id is are.same);
}

pub no_instances : (parameters : List Parameter) → AreInstances parameters []
no_instances parameters = record {
  each = All-nil IsInstance;
  ascending = AscendBy-nil instance_id;
  same = All-nil (λ i. i.parameters ≡ parameters);
}

-- ---- stations

pub no_stations : (parameters : List Parameter) → AreStationsOf parameters []
no_stations parameters = record {
  are = record { each = All-nil (IsStation (length parameters)); ascending = AscendBy-nil station_id };
  few = All-nil (λ s. values_along s ≤ node_limit);
  alike = inl (All-nil (λ s. IsSome s.zs));
}

-- the others are stations of the parameters of one that is set
others_are : (parameters given : List Parameter) (others : List StationValue) → (others ≢ [] → parameters ≡ given) → All (IsStation (length parameters)) others → All (IsStation (length given)) others
others_are parameters given [] same all = All-nil (IsStation (length given))
others_are parameters given (other ∷ others) same all = subst (λ ps. All (IsStation (length ps)) (other ∷ others)) (same (λ h. cc)) all

alike_with : (s : StationValue) (stations : List StationValue) → All (λ (o : StationValue). is_some o.zs ≡ is_some s.zs) (without_id station_id s.id stations) → AreAlike (with_item station_id s stations)
alike_with s stations alike = elim (cases_Bool (is_some s.zs)) [
  | inl has ↦ inl (All-with_item station_id (λ (o : StationValue). IsSome o.zs) s stations has
      (All-weaker (λ (o : StationValue). is_some o.zs ≡ is_some s.zs) (λ o. IsSome o.zs) (λ o e. e ∙ has) (without_id station_id s.id stations) alike))
  | inr lacks ↦ inr (All-with_item station_id (λ (o : StationValue). IsNone o.zs) s stations lacks
      (All-weaker (λ (o : StationValue). is_some o.zs ≡ is_some s.zs) (λ o. IsNone o.zs) (λ o e. e ∙ lacks) (without_id station_id s.id stations) alike))
]

stations_with : (s : StationValue) (parameters given : List Parameter) (stations : List StationValue) → AreStationsOf parameters stations → IsStation (length given) s → values_along s ≤ node_limit
    → (without_id station_id s.id stations ≢ [] → parameters ≡ given) → All (λ (o : StationValue). is_some o.zs ≡ is_some s.zs) (without_id station_id s.id stations)
    → AreStationsOf given (with_item station_id s stations)
stations_with s parameters given stations are one few same alike = record {
  are = record {
    each = All-with_item station_id (IsStation (length given)) s stations one
        (others_are parameters given (without_id station_id s.id stations) same (All-without_id station_id (IsStation (length parameters)) s.id stations are.are.each));
    ascending = AscendBy-with_item station_id s stations are.are.ascending;
  };
  few = All-with_item station_id (λ o. values_along o ≤ node_limit) s stations few (All-without_id station_id (λ o. values_along o ≤ node_limit) s.id stations are.few);
  alike = alike_with s stations alike;
}

alike_without : (id : List ℕ) (stations : List StationValue) → AreAlike stations → AreAlike (without_id station_id id stations)
alike_without id stations (inl have) = inl (All-without_id station_id (λ (s : StationValue). IsSome s.zs) id stations have)
alike_without id stations (inr lack) = inr (All-without_id station_id (λ (s : StationValue). IsNone s.zs) id stations lack)

stations_without : (id : List ℕ) (parameters : List Parameter) (stations : List StationValue) → AreStationsOf parameters stations
    → AreStationsOf (where_some (without_id station_id id stations) parameters) (without_id station_id id stations)
stations_without id parameters stations are = record {
  are = record {
    each = all_where_some (λ (ps : List Parameter). IsStation (length ps)) (without_id station_id id stations) parameters
        (All-without_id station_id (IsStation (length parameters)) id stations are.are.each);
    ascending = AscendBy-without_id station_id id stations are.are.ascending;
  };
  few = All-without_id station_id (λ s. values_along s ≤ node_limit) id stations are.few;
  alike = alike_without id stations are.alike;
}

-- ---- collections

pub empty_is_collection : (id : List ℕ) (kind : Kind) (title : List ℕ) (referencing : Referencing) → IsName id → IsUtf8 title → IsReferencing referencing → IsCollection (empty_collection id kind title referencing)
empty_is_collection id kind title referencing named text systems = record {
  id = named;
  title = text;
  referencing = systems;
  parameters = no_parameters;
  empty = λ xs ss. refl;
  instances = no_instances [];
  stations = no_stations [];
  of_grids = λ h. refl;
  of_stations = λ h. refl;
}

pub set_instance_keeps : (c : CollectionValue) (i : InstanceValue) → IsCollection c → IsInstance i → c.kind ≡ Grid → (without_id instance_id i.id c.instances ≢ [] → c.parameters ≡ i.parameters) → IsCollection (with_instance i c)
set_instance_keeps c i is one grids same = record {
  id = is.id;
  title = is.title;
  referencing = is.referencing;
  parameters = instance_parameters i one;
  empty = λ none ss. absurd (set_is_some instance_id i c.instances none);
  instances = instances_with i c.parameters c.instances is.instances one same;
  stations = subst (AreStationsOf i.parameters) (sym (is.of_grids grids)) (no_stations i.parameters);
  of_grids = is.of_grids;
  of_stations = λ h. cc;
}

pub take_instance_keeps : (c : CollectionValue) (id : List ℕ) → IsCollection c → c.kind ≡ Grid → IsCollection (without_instance id c)
take_instance_keeps c id is grids = record {
  id = is.id;
  title = is.title;
  referencing = is.referencing;
  parameters = parameters_where_some (without_id instance_id id c.instances) c.parameters is.parameters;
  empty = λ none ss. none_where_none (without_id instance_id id c.instances) c.parameters none;
  instances = instances_without id c.parameters c.instances is.instances;
  stations = subst (AreStationsOf (where_some (without_id instance_id id c.instances) c.parameters)) (sym (is.of_grids grids)) (no_stations _);
  of_grids = is.of_grids;
  of_stations = λ h. cc;
}

pub set_station_keeps : (c : CollectionValue) (s : StationValue) (parameters : List Parameter) → IsCollection c → IsStation (length parameters) s → values_along s ≤ node_limit → AreParameters parameters → c.kind ≡ Station
    → (without_id station_id s.id c.stations ≢ [] → c.parameters ≡ parameters) → All (λ (o : StationValue). is_some o.zs ≡ is_some s.zs) (without_id station_id s.id c.stations)
    → IsCollection (with_station parameters s c)
set_station_keeps c s parameters is one few are stations same alike = record {
  id = is.id;
  title = is.title;
  referencing = is.referencing;
  parameters = are;
  empty = λ xs none. absurd (set_is_some station_id s c.stations none);
  instances = subst (AreInstances parameters) (sym (is.of_stations stations)) (no_instances parameters);
  stations = stations_with s c.parameters parameters c.stations is.stations one few same alike;
  of_grids = λ h. cc;
  of_stations = is.of_stations;
}

pub take_station_keeps : (c : CollectionValue) (id : List ℕ) → IsCollection c → c.kind ≡ Station → IsCollection (without_station id c)
take_station_keeps c id is stations = record {
  id = is.id;
  title = is.title;
  referencing = is.referencing;
  parameters = parameters_where_some (without_id station_id id c.stations) c.parameters is.parameters;
  empty = λ xs none. none_where_none (without_id station_id id c.stations) c.parameters none;
  instances = subst (AreInstances (where_some (without_id station_id id c.stations) c.parameters)) (sym (is.of_stations stations)) (no_instances _);
  stations = stations_without id c.parameters c.stations is.stations;
  of_grids = λ h. cc;
  of_stations = is.of_stations;
}
