-- What the steps of a change answer, for private clauses.
use Rattle.std.specs.Prelude.{◌≡◌, ◌≢◌, ◌<◌, ◌≤◌, true, false, List, [], Result, Ok, Err}
use Rattle.covjson_value.specs.declared.domains.CoordinateName.TheVariants.{T}
use Rattle.covjson_value.specs.declared.coverages.Coverage.{Coverage}
use Rattle.covjson_value.specs.Domains.{has_axis, count_of}
use Rattle.edr_base.specs.Limits.{node_limit}
use Rattle.edr_base.specs.FirstThatApplies.{IsLeast, NoneApplies}
use Rattle.edr_draft.specs.declared.changes.Change.{Change}
use Rattle.edr_draft.specs.declared.changes.ChangeFault.{ChangeFault}
use Rattle.edr_draft.specs.declared.changes.ChangeFault.TheVariants.{NoTimes, CrsDiffers, TooManyNodes, ParametersDiffer, OutOfMemory}
use Rattle.edr_edition.specs.Values.{CollectionValue}
use Rattle.edr_draft.specs.Changes.{rank, Setting, Applies, made}
use Rattle.edr_draft.specs.Parameters.{DifferFirstAt}

-- no fault applies, or the first that does is found, unless memory was wanting
abbrev pub Finds : {T : Type 0} → (ChangeFault → Type 0) → Result T ChangeFault → Type 0
Finds AnyApplies (Ok u) = NoneApplies AnyApplies
Finds AnyApplies (Err fault) = fault ≢ OutOfMemory → IsLeast rank AnyApplies fault

-- the collections become these, or stay as they were
abbrev pub Becomes : {T : Type 0} → List CollectionValue → List CollectionValue → Result T ChangeFault → List CollectionValue → Type 0
Becomes old wanted (Ok u) new = new ≡ wanted
Becomes old wanted (Err fault) new = new ≡ old

-- a change is made or refused
pub record IsMade {T : Type 0} (old : List CollectionValue) (change : Change) (result : Result T ChangeFault) (new : List CollectionValue) : Type 0 where
  pub finds : Finds (Applies old change) result
  pub becomes : Becomes old (made old change) result new

-- ---- a coverage whose kind fits

-- the faults of a coverage that is set in a collection of its kind, which has others beside it or not: times, the system, the
-- count of nodes and the parameters
abbrev pub AppliesBeside : Type 0 → CollectionValue → Coverage → ChangeFault → Type 0
AppliesBeside HasOthers c coverage NoTimes = has_axis coverage.domain T ≡ false
AppliesBeside HasOthers c coverage CrsDiffers = (coverage.referencing.crs ≢ []) × (coverage.referencing.crs ≢ c.referencing.crs)
AppliesBeside HasOthers c coverage (TooManyNodes count) = (count ≡ count_of coverage.domain) × (node_limit < count)
AppliesBeside HasOthers c coverage (ParametersDiffer differing) = HasOthers × DifferFirstAt c.parameters coverage.parameters differing
AppliesBeside HasOthers c coverage other = ⊥

-- ---- a coverage that fits

-- what a collection and a coverage have where no fault applies
pub record Fits (setting : Setting) (collection : CollectionValue) (coverage : Coverage) : Type 0 where
  pub kind : collection.kind ≡ setting.kind
  pub domain : setting.fits coverage.domain ≡ true
  pub times : has_axis coverage.domain T ≡ true
  pub few : count_of coverage.domain ≤ node_limit
  pub same : setting.has_others collection → collection.parameters ≡ coverage.parameters
  pub alike : ¬ (setting.levels_differ collection coverage)
