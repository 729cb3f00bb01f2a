-- The first fault of a change, by the collection that it is about.
use Rattle.std.proofs.Common.{◌≡◌, ◌≢◌, inl, inr, ℕ, ◌<◌, is_some, List, Option, Some, None, IsSome, IsNone, refl, sym, ap, subst, arith}
use Rattle.std.proofs.lemmas.Bool.{cases_Bool}
use Rattle.covjson_value.specs.declared.coverages.Coverage.{Coverage}
use Rattle.edr_base.specs.FirstThatApplies.{IsLeast, NoneApplies}
use Rattle.edr_ids.specs.Ids.{item_of}
use Rattle.edr_station.specs.Stations.{station_id}
use Rattle.edr_edition.specs.declared.kinds.Kind.{Kind}
use Rattle.edr_edition.specs.declared.kinds.Kind.TheVariants.{Grid as Grids, Station as Stations}
use Rattle.edr_edition.specs.Values.{CollectionValue, instance_id}
use Rattle.edr_draft.specs.declared.changes.Change.TheVariants.{Collection, DropCollection}
use Rattle.edr_draft.specs.declared.changes.ChangeFault.{ChangeFault}
use Rattle.edr_draft.specs.declared.changes.ChangeFault.TheVariants.{SameCollection, UnknownCollection, WrongKind, UnknownInstance, UnknownStation, NoTimes, CrsDiffers, TooManyNodes, ParametersDiffer, LevelsDiffer, OutOfMemory}
use Rattle.edr_draft.specs.Changes.{rank, Setting, AppliesToSet, AppliesToDrop, AppliesToDropStation, Applies, IsRefused}
use Rattle.edr_edition.specs.Stores.{collection_in}
use Rattle.edr_draft.proofs.FaultLaws.{Decided, kind_or_not}

-- ---- ranks

rank_some : (fault : ChangeFault) → 0 < rank fault
rank_some SameCollection = omega arith
rank_some UnknownCollection = omega arith
rank_some WrongKind = omega arith
rank_some UnknownInstance = omega arith
rank_some UnknownStation = omega arith
rank_some NoTimes = omega arith
rank_some CrsDiffers = omega arith
rank_some (TooManyNodes count) = omega arith
rank_some (ParametersDiffer id) = omega arith
rank_some LevelsDiffer = omega arith
rank_some OutOfMemory = omega arith

before_unknown : (fault : ChangeFault) → rank fault < 2 → fault ≡ SameCollection
before_unknown SameCollection low = refl
before_unknown UnknownCollection low = absurd (omega (arith, low))
before_unknown WrongKind low = absurd (omega (arith, low))
before_unknown UnknownInstance low = absurd (omega (arith, low))
before_unknown UnknownStation low = absurd (omega (arith, low))
before_unknown NoTimes low = absurd (omega (arith, low))
before_unknown CrsDiffers low = absurd (omega (arith, low))
before_unknown (TooManyNodes count) low = absurd (omega (arith, low))
before_unknown (ParametersDiffer id) low = absurd (omega (arith, low))
before_unknown LevelsDiffer low = absurd (omega (arith, low))
before_unknown OutOfMemory low = absurd (omega (arith, low))

-- the second fault is the first that applies where the one before it doesn't
unknown_first : (Applies : ChangeFault → Type 0) → ¬ (Applies SameCollection) → Applies UnknownCollection → IsLeast rank Applies UnknownCollection
unknown_first Applies other applies = record { applies = applies; none_before = λ fault low h. other (subst Applies (before_unknown fault low) h) }

-- ---- a collection added

module _ (cs : List CollectionValue) (id : List ℕ) (kind : Kind) (title crs : List ℕ) (vertical : Option (List ℕ)) where
  pub same_refuses : (c : CollectionValue) → collection_in cs id ≡ Some c → IsRefused cs (Collection id kind title crs vertical) SameCollection
  same_refuses c is = record { applies = subst (λ (o : Option CollectionValue). IsSome o) (sym is) refl; none_before = λ fault low h. absurd (omega (arith, rank_some fault, low)) }

  pub none_to_add : collection_in cs id ≡ None → NoneApplies (Applies cs (Collection id kind title crs vertical))
  none_to_add is SameCollection h = (let lacks = ap is_some is in cc)
  none_to_add is other h = absurd h

-- ---- a collection dropped

pub unknown_refuses : (cs : List CollectionValue) (id : List ℕ) → collection_in cs id ≡ None → IsRefused cs (DropCollection id) UnknownCollection
unknown_refuses cs id is = unknown_first (Applies cs (DropCollection id)) (λ h. h) (subst (λ (o : Option CollectionValue). IsNone o) (sym is) refl)

pub none_to_drop : (cs : List CollectionValue) (id : List ℕ) (c : CollectionValue) → collection_in cs id ≡ Some c → NoneApplies (Applies cs (DropCollection id))
none_to_drop cs id c is UnknownCollection h = (let has = ap is_some is in cc)
none_to_drop cs id c is other h = absurd h

-- ---- a coverage set, or something dropped, in no collection

pub set_unknown_first : (setting : Setting) (coverage : Coverage) → IsLeast rank (AppliesToSet setting None coverage) UnknownCollection
set_unknown_first setting coverage = unknown_first (AppliesToSet setting None coverage) (λ h. h) refl

pub drop_unknown : (id : List ℕ) → IsLeast rank (AppliesToDrop None id) UnknownCollection
drop_unknown id = unknown_first (AppliesToDrop None id) (λ h. h) refl

pub drop_station_unknown : (id : List ℕ) → IsLeast rank (AppliesToDropStation None id) UnknownCollection
drop_station_unknown id = unknown_first (AppliesToDropStation None id) (λ h. h) refl

-- ---- an instance dropped

module _ (c : CollectionValue) (id : List ℕ) where
  instance_before : (fault : ChangeFault) → rank fault < 4 → c.kind ≡ Grids → ¬ (AppliesToDrop (Some c) id fault)
  instance_before UnknownCollection low kind h = cc
  instance_before WrongKind low kind h = h kind
  instance_before UnknownInstance low kind h = omega (arith, low)
  instance_before other low kind h = absurd h

  pub drop_wrong_kind : c.kind ≢ Grids → IsLeast rank (AppliesToDrop (Some c) id) WrongKind
  drop_wrong_kind other = record { applies = other; none_before = before }
    where
      before : (fault : ChangeFault) → rank fault < 3 → ¬ (AppliesToDrop (Some c) id fault)
      before UnknownCollection low h = cc
      before WrongKind low h = omega (arith, low)
      before UnknownInstance low h = omega (arith, low)
      before fault low h = absurd h

  pub drop_unknown_instance : c.kind ≡ Grids → IsNone (item_of instance_id id c.instances) → IsLeast rank (AppliesToDrop (Some c) id) UnknownInstance
  drop_unknown_instance kind none = record { applies = none; none_before = λ fault low h. instance_before fault low kind h }

  pub drop_no_fault : c.kind ≡ Grids → IsSome (item_of instance_id id c.instances) → NoneApplies (AppliesToDrop (Some c) id)
  drop_no_fault kind there UnknownCollection h = cc
  drop_no_fault kind there WrongKind h = h kind
  drop_no_fault kind there UnknownInstance h = cc
  drop_no_fault kind there fault h = absurd h

  pub drop_decided : Decided (AppliesToDrop (Some c) id)
  drop_decided = elim (kind_or_not c.kind Grids) [
    | inr other ↦ inr (WrongKind, drop_wrong_kind other)
    | inl kind ↦ elim (cases_Bool (is_some (item_of instance_id id c.instances))) [
      | inl there ↦ inl (drop_no_fault kind there)
      | inr none ↦ inr (UnknownInstance, drop_unknown_instance kind none)
    ]
  ]

  -- ---- a station dropped

  station_before : (fault : ChangeFault) → rank fault < 5 → c.kind ≡ Stations → ¬ (AppliesToDropStation (Some c) id fault)
  station_before UnknownCollection low kind h = cc
  station_before WrongKind low kind h = h kind
  station_before UnknownStation low kind h = omega (arith, low)
  station_before other low kind h = absurd h

  pub drop_station_wrong_kind : c.kind ≢ Stations → IsLeast rank (AppliesToDropStation (Some c) id) WrongKind
  drop_station_wrong_kind other = record { applies = other; none_before = before }
    where
      before : (fault : ChangeFault) → rank fault < 3 → ¬ (AppliesToDropStation (Some c) id fault)
      before UnknownCollection low h = cc
      before WrongKind low h = omega (arith, low)
      before UnknownStation low h = omega (arith, low)
      before fault low h = absurd h

  pub drop_unknown_station : c.kind ≡ Stations → IsNone (item_of station_id id c.stations) → IsLeast rank (AppliesToDropStation (Some c) id) UnknownStation
  drop_unknown_station kind none = record { applies = none; none_before = λ fault low h. station_before fault low kind h }

  pub drop_station_no_fault : c.kind ≡ Stations → IsSome (item_of station_id id c.stations) → NoneApplies (AppliesToDropStation (Some c) id)
  drop_station_no_fault kind there UnknownCollection h = cc
  drop_station_no_fault kind there WrongKind h = h kind
  drop_station_no_fault kind there UnknownStation h = cc
  drop_station_no_fault kind there fault h = absurd h

  pub drop_station_decided : Decided (AppliesToDropStation (Some c) id)
  drop_station_decided = elim (kind_or_not c.kind Stations) [
    | inr other ↦ inr (WrongKind, drop_station_wrong_kind other)
    | inl kind ↦ elim (cases_Bool (is_some (item_of station_id id c.stations))) [
      | inl there ↦ inl (drop_station_no_fault kind there)
      | inr none ↦ inr (UnknownStation, drop_unknown_station kind none)
    ]
  ]
