-- What holds of every change.
use Rattle.std.specs.Prelude.{◌≡◌, ◌≢◌, ◌⊎◌, ℕ, codes, List}
use Rattle.edr_draft.specs.declared.changes.Change.{Change}
use Rattle.edr_draft.specs.declared.changes.Change.TheVariants.{Collection, Grid, Station, DropCollection, DropInstance, DropStation, Bare}
use Rattle.edr_draft.specs.declared.changes.ChangeFault.{ChangeFault}
use Rattle.edr_draft.specs.declared.changes.ChangeFault.TheVariants.{OutOfMemory}
use Rattle.edr_edition.specs.Values.{CollectionValue}
use Rattle.edr_edition.specs.Editions.{AreCollections}
use Rattle.edr_draft.specs.Changes.{IsChange, Changes, IsRefused}
use Rattle.edr_edition.specs.Stores.{collection_in}

-- a change gives some collections or is refused by a fault; never both, never two of them, and never for want of memory
pub record HasOneOutcome (collections : List CollectionValue) (change : Change) : Type 0 where
  pub some : AreCollections collections → IsChange change → ((new : List CollectionValue) × Changes collections change new) ⊎ ((fault : ChangeFault) × IsRefused collections change fault)
  pub not_both : (new : List CollectionValue) (fault : ChangeFault) → Changes collections change new → ¬ (IsRefused collections change fault)
  pub one : (new other : List CollectionValue) → Changes collections change new → Changes collections change other → new ≡ other
  pub one_fault : (fault other : ChangeFault) → IsRefused collections change fault → IsRefused collections change other → fault ≡ other
  pub not_memory : ¬ (IsRefused collections change OutOfMemory)

abbrev pub ChangesHaveOneOutcome : Type 0
ChangesHaveOneOutcome = (collections : List CollectionValue) (change : Change) → HasOneOutcome collections change

-- the id of the collection that a change is about
abbrev pub collection_of : Change → List ℕ
collection_of (Collection id kind title crs vertical) = id
collection_of (Grid collection instance coverage) = collection
collection_of (Station collection id label coverage) = collection
collection_of (DropCollection collection) = collection
collection_of (DropInstance collection instance) = collection
collection_of (DropStation collection id) = collection
collection_of (Bare coverage) = codes "grid"

-- a change keeps collections in the order of their ids, and leaves all but one as they were
pub record KeepsOthers (old : List CollectionValue) (change : Change) (new : List CollectionValue) : Type 0 where
  pub collections : AreCollections old → IsChange change → AreCollections new
  pub others : (id : List ℕ) → id ≢ collection_of change → collection_in new id ≡ collection_in old id

abbrev pub ChangesKeepOthers : Type 0
ChangesKeepOthers = (old : List CollectionValue) (change : Change) (new : List CollectionValue) → Changes old change new → KeepsOthers old change new
