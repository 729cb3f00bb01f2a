-- A collection's instances and stations, before and after a change of them.
use Rattle.std.proofs.Common.{◌≡◌, ◌≢◌, ℕ, ◌+◌, ◌<◌, Bool, true, false, not, cond, nat_lt, if◌then◌else◌, List, [], ◌∷◌, ◌++◌, length, take, drop, get_or, Contains, refl, sym, ap, ◌∙◌, subst, arith}
use Rattle.std.proofs.lemmas.Bool.{lt-ltb}
use Rattle.std.proofs.lemmas.List.{take-append-drop}
use Rattle.std.proofs.lemmas.List.Elements.{filter_more, filter-append}
use Rattle.std.specs.List.{filter}
use Rattle.covjson_value.specs.declared.coverages.Parameter.{Parameter}
use Rattle.edr_ids.specs.Ids.{has_id, with_item, without_id}
use Rattle.edr_station.specs.Stations.{StationValue, station_id}
use Rattle.edr_edition.specs.declared.kinds.Kind.TheVariants.{Grid, Station}
use Rattle.edr_edition.specs.Values.{InstanceValue, CollectionValue, instance_id}
use Rattle.edr_edition.specs.Editions.{IsCollection}
use Rattle.edr_edition.specs.Collections.{where_some, holding, with_instance, without_instance, with_station, without_station}

-- ---- before and after

-- where one is among them, there are some
pub some_there : {V : Type 0} (xs : List V) (x : V) → Contains xs x → xs ≢ []
some_there xs x there none = omega (arith, there.1, ap length none)

if_some_is : {V : Type 0} (xs : List V) (parameters : List Parameter) → (if nat_lt 0 (length xs) then parameters else []) ≡ where_some xs parameters
if_some_is [] parameters = refl
if_some_is (x ∷ xs) parameters = (let some : nat_lt 0 (length (x ∷ xs)) ≡ true = lt-ltb 0 (length (x ∷ xs)) (omega arith) in rw some refl)

-- by how many there are
pub count_is : (own : List Parameter) {ps : List Parameter} {n m : ℕ} → ps ≡ (if nat_lt 0 n then own else []) → n ≡ m → ps ≡ (if nat_lt 0 m then own else [])
count_is own is same = is ∙ ap (λ k. if nat_lt 0 k then own else []) same

module _ (c : CollectionValue) (is : IsCollection c) where
  holding_same : (ps qs : List Parameter) (xs ys : List InstanceValue) (ss ts : List StationValue) → ps ≡ qs → xs ≡ ys → ss ≡ ts → holding c ps xs ss ≡ holding c qs ys ts
  holding_same ps qs xs ys ss ts hp hx hs = ap (λ p. holding c p xs ss) hp ∙ (ap (λ x. holding c qs x ss) hx ∙ ap (holding c qs ys) hs)

  pub instance_set : (kind : c.kind ≡ Grid) (ps : List Parameter) (xs : List InstanceValue) (i : InstanceValue) → ps ≡ i.parameters → xs ≡ with_item instance_id i c.instances → holding c ps xs [] ≡ with_instance i c
  instance_set kind ps xs i same set = holding_same ps i.parameters xs (with_item instance_id i c.instances) [] c.stations same set (sym (is.of_grids kind))

  pub instance_taken : (kind : c.kind ≡ Grid) (ps : List Parameter) (xs : List InstanceValue) (left : List ℕ) → ps ≡ (if nat_lt 0 (length xs) then c.parameters else []) → xs ≡ without_id instance_id left c.instances
      → holding c ps xs [] ≡ without_instance left c
  instance_taken kind ps xs left same taken =
      holding_same ps (where_some (without_id instance_id left c.instances) c.parameters) xs (without_id instance_id left c.instances) [] c.stations
      (same ∙ (if_some_is xs c.parameters ∙ ap (λ (ys : List InstanceValue). where_some ys c.parameters) taken)) taken (sym (is.of_grids kind))

  pub station_set : (kind : c.kind ≡ Station) (ps : List Parameter) (ss : List StationValue) (given : List Parameter) (s : StationValue) → ps ≡ given → ss ≡ with_item station_id s c.stations
      → holding c ps [] ss ≡ with_station given s c
  station_set kind ps ss given s same set = holding_same ps given [] c.instances ss (with_item station_id s c.stations) same (sym (is.of_stations kind)) set

  pub station_taken : (kind : c.kind ≡ Station) (ps : List Parameter) (ss : List StationValue) (left : List ℕ) → ps ≡ (if nat_lt 0 (length ss) then c.parameters else []) → ss ≡ without_id station_id left c.stations
      → holding c ps [] ss ≡ without_station left c
  station_taken kind ps ss left same taken =
      holding_same ps (where_some (without_id station_id left c.stations) c.parameters) [] c.instances ss (without_id station_id left c.stations)
      (same ∙ (if_some_is ss c.parameters ∙ ap (λ (ts : List StationValue). where_some ts c.parameters) taken)) (sym (is.of_stations kind)) taken

-- ---- one with another id

module _ {V : Type 0} (key : V → List ℕ) (xs : List V) (id : List ℕ) (k : ℕ) (x : V) (inside : k < length xs) (here : x ≡ get_or xs k x) (before : without_id key id (take k xs) ≡ []) where
  abbrev other : V → Bool
  other y = not (has_id key id y)

  kept_before : filter other (take (k + 1) xs) ≡ cond (other x) (x ∷ []) []
  kept_before =
      filter_more other xs k x inside
      ∙ (ap (λ ys. ys ++ cond (other (get_or xs k x)) (get_or xs k x ∷ []) []) before ∙ ap (λ y. cond (other y) (y ∷ []) []) (sym here))

  pub other_is_among : not (has_id key id x) ≡ true → Contains (without_id key id xs) x
  other_is_among differs =
      let start : filter other (take (k + 1) xs) ≡ x ∷ [] = kept_before ∙ rw differs refl in
      let split : filter other xs ≡ filter other (take (k + 1) xs) ++ filter other (drop (k + 1) xs) =
      ap (filter other) (sym (take-append-drop (k + 1) xs)) ∙ filter-append other (take (k + 1) xs) (drop (k + 1) xs) in
      subst (λ ys. Contains ys x) (sym (split ∙ ap (λ ys. ys ++ filter other (drop (k + 1) xs)) start)) (0, omega arith, refl)

  -- one more has the id
  pub no_other_more : not (has_id key id x) ≡ false → without_id key id (take (k + 1) xs) ≡ []
  no_other_more equal = kept_before ∙ rw equal refl
