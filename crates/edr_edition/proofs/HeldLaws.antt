-- What is handed out of collections and editions, and what stores hold.
use Rattle.std.proofs.Common.{◌≡◌, ℕ, ◌<◌, List, length, get_or, All, Contains, Option, Some, None, IfSome, IsSome, option_map, refl, sym, ap, ap₂, ◌∙◌, subst}
use Rattle.edr_ids.specs.Ids.{item_of, AscendBy}
use Rattle.edr_edition.specs.declared.kinds.Kind.{Kind}
use Rattle.edr_edition.specs.declared.kinds.Kind.TheVariants.{Grid, Station}
use Rattle.edr_edition.specs.Values.{InstanceValue, CollectionValue, EditionValue, instance_id, collection_id}
use Rattle.edr_edition.specs.Instances.{IsInstance}
use Rattle.edr_edition.specs.Editions.{IsCollection}
use Rattle.edr_edition.specs.Stores.{instance_named, Held, of_grid, of_stations, Subject, StoreValue, HasBlock, held_in, subject_in, subject_of, IsHeldBy, IsHeld, IsSubject, held_by}
use Rattle.edr_ids.specs.ListLaws.{item_found}
use Rattle.edr_edition.proofs.NewestLaws.{newest_is_newest}

-- ---- items

-- what stands at a place is as all are
pub at_place : {V : Type 0} (P : V → Type 0) (xs : List V) (place : ℕ) (x : V) → All P xs → place < length xs → x ≡ get_or xs place x → P x
at_place P xs place x all inside at = subst P (sym at) (all place x inside)

-- what is among them is as all are
among_all : {V : Type 0} (P : V → Type 0) (xs : List V) (x : V) → All P xs → Contains xs x → P x
among_all P xs x all there = subst P there.2 (all there.0 x there.1)

item_is : {V : Type 0} (P : V → Type 0) (key : V → List ℕ) (id : List ℕ) (xs : List V) (found : Option V) → All P xs → found ≡ item_of key id xs → IfSome found P
item_is P key id xs None all is = tt
item_is P key id xs (Some x) all is = among_all P xs x all (item_found key id xs x (sym is)).0

if_found : {A B : Type 0} (P : B → Type 0) (f : A → B) (found : Option A) → IfSome (option_map f found) P → IfSome found (λ a. P (f a))
if_found P f None h = tt
if_found P f (Some a) h = h

-- what is found is as all are
pub found_is : {A B : Type 0} (P : B → Type 0) (f : A → B) (key : B → List ℕ) (id : List ℕ) (xs : List B) (found : Option A) → All P xs → option_map f found ≡ item_of key id xs → IfSome found (λ a. P (f a))
found_is P f key id xs found all is = if_found P f found (item_is P key id xs (option_map f found) all is)

-- ---- what a store holds

-- the instance of an id, or the newest, is among the instances
named_among : (name : Option (List ℕ)) (instances : List InstanceValue) (i : InstanceValue) → AscendBy instance_id instances → Some i ≡ instance_named name instances → Contains instances i
named_among None instances i up is = ((newest_is_newest instances up).is i (sym is)).among
named_among (Some id) instances i up is = (item_found instance_id id instances i (sym is)).0

module _ (c : CollectionValue) (name : Option (List ℕ)) (i : Option InstanceValue) where
  grid_is_held : (named : Option InstanceValue) → i ≡ named → IsSome (option_map of_grid named) → Some (held_by c i) ≡ option_map of_grid named
  grid_is_held None is some = cc
  grid_is_held (Some x) is some = ap (λ o. Some (held_by c o)) is

  is_held : (kind : Kind) → (kind ≡ Grid → i ≡ instance_named name c.instances) → (kind ≡ Station → i ≡ None) → IsSome (held_in c kind name) → Some (held_by c i) ≡ held_in c kind name
  is_held Grid grids stations some = grid_is_held (instance_named name c.instances) (grids refl) some
  is_held Station grids stations some = ap (λ o. Some (held_by c o)) (stations refl)

  abbrev over : Held → Subject
  over held = record { collection = c; held = held }

  some_held : (held : Option Held) → IsSome (option_map over held) → IsSome held
  some_held None some = some
  some_held (Some h) some = refl

  module _ (grids : c.kind ≡ Grid → i ≡ instance_named name c.instances) (stations : c.kind ≡ Station → i ≡ None) where
    in_collection : IsSome (subject_in name c) → Some (over (held_by c i)) ≡ subject_in name c
    in_collection some = ap (option_map over) (is_held c.kind grids stations (some_held (held_in c c.kind name) some))

    held_is : (kind : Kind) (o : Option InstanceValue) → IsCollection c → (kind ≡ Grid → o ≡ instance_named name c.instances) → (kind ≡ Station → o ≡ None)
        → IsHeldBy c (held_by c o) × IsHeld (held_by c o)
    held_is kind None is gs ss = ((refl, refl), (is.parameters, is.stations))
    held_is Grid (Some x) is gs ss =
        let among = named_among name c.instances x is.instances.ascending (gs refl) in (among, among_all IsInstance c.instances x is.instances.each among)
    held_is Station (Some x) is gs ss = let none = ss refl in cc

    pub subject_stands : IsCollection c → IsSubject (over (held_by c i))
    subject_stands is = let held = held_is c.kind i is grids stations in record { collection = is; held_by = held.0; held = held.1 }

    module _ (edition : EditionValue) (id : List ℕ) (there : Some c ≡ item_of collection_id id edition.collections) (some : IsSome (subject_of edition id name)) where
      -- what it is over is what the edition has
      pub is_subject : Some (over (held_by c i)) ≡ subject_of edition id name
      is_subject = rw (sym there) (in_collection (rw (sym there) at some))

abbrev store_of : CollectionValue → Held → List ℕ → StoreValue
store_of c held numbers = record { subject = record { collection = c; held = held }; numbers = numbers }

-- a store that has an instance holds its grid
pub holds_grid : {A : Type 0} (value : A → InstanceValue) (c : CollectionValue) (i : Option A) (x : A) (store : StoreValue) (numbers : List ℕ) → i ≡ Some x
    → store_of c (held_by c (option_map value i)) numbers ≡ store → store.subject.held ≡ of_grid (value x)
holds_grid value c i x store numbers is view = sym (ap (λ (s : StoreValue). s.subject.held) view) ∙ ap (λ o. held_by c (option_map value o)) is

held_block : (c : CollectionValue) (held : Held) (number : ℕ) → IsHeldBy c held → HasBlock held number → held ≡ of_stations c.parameters c.stations
held_block c (of_grid i) number by has = absurd has
held_block c (of_stations parameters stations) number by has = ap₂ of_stations by.0 by.1

-- a store that has blocks holds the stations of its collection
pub holds_stations : (c : CollectionValue) (held : Held) (store : StoreValue) (numbers : List ℕ) (number : ℕ) → IsHeldBy c held
    → store_of c held numbers ≡ store → HasBlock store.subject.held number → store.subject.held ≡ of_stations c.parameters c.stations
holds_stations c held store numbers number by view has =
    let is : held ≡ store.subject.held = ap (λ (s : StoreValue). s.subject.held) view in
    sym is ∙ held_block c held number by (subst (λ h. HasBlock h number) (sym is) has)
