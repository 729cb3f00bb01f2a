-- The first fault of a coverage that is set in a collection.
use Rattle.std.proofs.Common.{◌≡◌, ◌≢◌, ◌⊎◌, inl, inr, ℕ, ◌<◌, ◌≤◌, true, false, List, [], Some, Result, Ok, Err, refl, subst, arith}
use Rattle.std.proofs.lemmas.Bool.{cases_Bool, cases_lt}
use Rattle.covjson_value.specs.declared.domains.CoordinateName.TheVariants.{T}
use Rattle.covjson_value.specs.declared.coverages.Coverage.{Coverage}
use Rattle.covjson_value.specs.Domains.{has_axis, count_of}
use Rattle.covjson_value.specs.Coverages.{IsValid}
use Rattle.edr_base.specs.FirstThatApplies.{IsLeast, NoneApplies}
use Rattle.edr_base.specs.Limits.{node_limit}
use Rattle.edr_edition.specs.declared.kinds.Kind.{Kind}
use Rattle.edr_edition.specs.declared.kinds.Kind.TheVariants.{Grid, Station}
use Rattle.edr_edition.specs.Values.{CollectionValue}
use Rattle.edr_edition.specs.Editions.{IsCollection}
use Rattle.edr_draft.specs.declared.changes.ChangeFault.{ChangeFault}
use Rattle.edr_draft.specs.declared.changes.ChangeFault.TheVariants.{SameCollection, UnknownCollection, WrongKind, UnknownInstance, UnknownStation, NoTimes, CrsDiffers, TooManyNodes, ParametersDiffer, LevelsDiffer, OutOfMemory}
use Rattle.edr_draft.specs.Parameters.{DifferFirstAt}
use Rattle.edr_draft.specs.Changes.{rank, Setting, AppliesToSet}
use Rattle.edr_draft.specs.Steps.{Finds, AppliesBeside, Fits}
use Rattle.edr_draft.proofs.ParameterLaws.{same_text, same_or_differ, same_never_differ}

-- ---- beside others or none

module _ (HasOthers : Type 0) (c : CollectionValue) (coverage : Coverage) where
  -- what a collection and a coverage have where no fault before a rank applies
  pub record IsClear (before : ℕ) : Type 0 where
    pub times : 6 < before → has_axis coverage.domain T ≡ true
    pub system : 7 < before → ¬ ((coverage.referencing.crs ≢ []) × (coverage.referencing.crs ≢ c.referencing.crs))
    pub few : 8 < before → count_of coverage.domain ≤ node_limit
    pub same : 9 < before → HasOthers → c.parameters ≡ coverage.parameters

  none_before : (before : ℕ) → IsClear before → (fault : ChangeFault) → rank fault < before → ¬ (AppliesBeside HasOthers c coverage fault)
  none_before before clear SameCollection low h = h
  none_before before clear UnknownCollection low h = h
  none_before before clear WrongKind low h = h
  none_before before clear UnknownInstance low h = h
  none_before before clear UnknownStation low h = h
  none_before before clear NoTimes low h = (let times = clear.times low in cc)
  none_before before clear CrsDiffers low h = clear.system low h
  none_before before clear (TooManyNodes count) low h = (let few = clear.few low in omega arith)
  none_before before clear (ParametersDiffer differing) low h = same_never_differ c.parameters coverage.parameters differing (clear.same low h.0) h.1
  none_before before clear LevelsDiffer low h = h
  none_before before clear OutOfMemory low h = h

  abbrev IsFirst : ChangeFault → Type 0
  IsFirst fault = IsLeast rank (AppliesBeside HasOthers c coverage) fault

  pub no_times : has_axis coverage.domain T ≡ false → IsFirst NoTimes
  no_times applies = record {
    applies = applies;
    none_before = none_before 6 (record {
      times = λ low. absurd (omega (arith, low));
      system = λ low. absurd (omega (arith, low));
      few = λ low. absurd (omega (arith, low));
      same = λ low. absurd (omega (arith, low));
    });
  }

  module _ (times : has_axis coverage.domain T ≡ true) where
    pub crs_differs : (coverage.referencing.crs ≢ []) × (coverage.referencing.crs ≢ c.referencing.crs) → IsFirst CrsDiffers
    crs_differs applies = record {
      applies = applies;
      none_before = none_before 7 (record {
        times = λ low. times;
        system = λ low. absurd (omega (arith, low));
        few = λ low. absurd (omega (arith, low));
        same = λ low. absurd (omega (arith, low));
      });
    }

    module _ (system : ¬ ((coverage.referencing.crs ≢ []) × (coverage.referencing.crs ≢ c.referencing.crs))) where
      pub too_many_nodes : (count : ℕ) → count ≡ count_of coverage.domain → node_limit < count → IsFirst (TooManyNodes count)
      too_many_nodes count is many = record {
        applies = (is, many);
        none_before = none_before 8 (record {
          times = λ low. times;
          system = λ low. system;
          few = λ low. absurd (omega (arith, low));
          same = λ low. absurd (omega (arith, low));
        });
      }

      module _ (few : count_of coverage.domain ≤ node_limit) where
        pub parameters_differ : (differing : List ℕ) → HasOthers × DifferFirstAt c.parameters coverage.parameters differing → IsFirst (ParametersDiffer differing)
        parameters_differ differing applies = record {
          applies = applies;
          none_before = none_before 9 (record {
            times = λ low. times;
            system = λ low. system;
            few = λ low. few;
            same = λ low. absurd (omega (arith, low));
          });
        }

        pub no_fault : (HasOthers → c.parameters ≡ coverage.parameters) → NoneApplies (AppliesBeside HasOthers c coverage)
        no_fault same fault = none_before 12 (record {
          times = λ low. times;
          system = λ low. system;
          few = λ low. few;
          same = λ low. same;
        }) fault (rank_low fault)
          where
            rank_low : (fault : ChangeFault) → rank fault < 12
            rank_low SameCollection = omega arith
            rank_low UnknownCollection = omega arith
            rank_low WrongKind = omega arith
            rank_low UnknownInstance = omega arith
            rank_low UnknownStation = omega arith
            rank_low NoTimes = omega arith
            rank_low CrsDiffers = omega arith
            rank_low (TooManyNodes count) = omega arith
            rank_low (ParametersDiffer id) = omega arith
            rank_low LevelsDiffer = omega arith
            rank_low OutOfMemory = omega arith

-- ---- in a collection of the kind

module _ (setting : Setting) (c : CollectionValue) (coverage : Coverage) where
  pub wrong_kind : (c.kind ≢ setting.kind) ⊎ (setting.fits coverage.domain ≡ false) → IsLeast rank (AppliesToSet setting (Some c) coverage) WrongKind
  wrong_kind applies = record { applies = applies; none_before = before }
    where
      before : (fault : ChangeFault) → rank fault < 3 → ¬ (AppliesToSet setting (Some c) coverage fault)
      before SameCollection low h = h
      before UnknownCollection low h = cc
      before WrongKind low h = omega (arith, low)
      before UnknownInstance low h = h
      before UnknownStation low h = h
      before NoTimes low h = omega (arith, low)
      before CrsDiffers low h = omega (arith, low)
      before (TooManyNodes count) low h = omega (arith, low)
      before (ParametersDiffer differing) low h = omega (arith, low)
      before LevelsDiffer low h = omega (arith, low)
      before OutOfMemory low h = h

  module _ (HasOthers : Type 0) (have : HasOthers → setting.has_others c) (hold : setting.has_others c → HasOthers) (kind : c.kind ≡ setting.kind) (fits : setting.fits coverage.domain ≡ true) where
    -- a fault that applies in a collection of the kind, but for that of levels
    beside : (fault : ChangeFault) → fault ≢ LevelsDiffer → AppliesToSet setting (Some c) coverage fault → AppliesBeside HasOthers c coverage fault
    beside SameCollection other h = h
    beside UnknownCollection other h = cc
    beside WrongKind other (inl kinds) = kinds kind
    beside WrongKind other (inr lacks) = cc
    beside UnknownInstance other h = h
    beside UnknownStation other h = h
    beside NoTimes other h = h
    beside CrsDiffers other h = h
    beside (TooManyNodes count) other h = h
    beside (ParametersDiffer differing) other h = (hold h.0, h.1)
    beside LevelsDiffer other h = other refl
    beside OutOfMemory other h = h

    in_collection : (fault : ChangeFault) → AppliesBeside HasOthers c coverage fault → AppliesToSet setting (Some c) coverage fault
    in_collection SameCollection h = h
    in_collection UnknownCollection h = absurd h
    in_collection WrongKind h = absurd h
    in_collection UnknownInstance h = h
    in_collection UnknownStation h = h
    in_collection NoTimes h = h
    in_collection CrsDiffers h = h
    in_collection (TooManyNodes count) h = h
    in_collection (ParametersDiffer differing) h = (have h.0, h.1)
    in_collection LevelsDiffer h = absurd h
    in_collection OutOfMemory h = h

    -- the faults beside others come before that of levels
    before_levels : (fault other : ChangeFault) → AppliesBeside HasOthers c coverage fault → rank other < rank fault → other ≢ LevelsDiffer
    before_levels SameCollection other h low = absurd h
    before_levels UnknownCollection other h low = absurd h
    before_levels WrongKind other h low = absurd h
    before_levels UnknownInstance other h low = absurd h
    before_levels UnknownStation other h low = absurd h
    before_levels NoTimes other h low = λ is. absurd (omega (arith, subst (λ f. rank f < 6) is low))
    before_levels CrsDiffers other h low = λ is. absurd (omega (arith, subst (λ f. rank f < 7) is low))
    before_levels (TooManyNodes count) other h low = λ is. absurd (omega (arith, subst (λ f. rank f < 8) is low))
    before_levels (ParametersDiffer id) other h low = λ is. absurd (omega (arith, subst (λ f. rank f < 9) is low))
    before_levels LevelsDiffer other h low = absurd h
    before_levels OutOfMemory other h low = absurd h

    pub first_beside : (fault : ChangeFault) → IsLeast rank (AppliesBeside HasOthers c coverage) fault → IsLeast rank (AppliesToSet setting (Some c) coverage) fault
    first_beside fault first = record {
      applies = in_collection fault first.applies;
      none_before = λ other low h. first.none_before other low (beside other (before_levels fault other first.applies low) h);
    }

    module _ (none : NoneApplies (AppliesBeside HasOthers c coverage)) where
      pub levels_first : setting.levels_differ c coverage → IsLeast rank (AppliesToSet setting (Some c) coverage) LevelsDiffer
      levels_first applies = record {
        applies = applies;
        none_before = λ other low h. none other (beside other (λ is. absurd (omega (arith, subst (λ f. rank f < 10) is low))) h);
      }

      pub none_first : ¬ (setting.levels_differ c coverage) → NoneApplies (AppliesToSet setting (Some c) coverage)
      none_first alike = all
        where
          all : (fault : ChangeFault) → ¬ (AppliesToSet setting (Some c) coverage fault)
          all SameCollection h = none SameCollection (beside SameCollection (λ is. cc) h)
          all UnknownCollection h = none UnknownCollection (beside UnknownCollection (λ is. cc) h)
          all WrongKind h = none WrongKind (beside WrongKind (λ is. cc) h)
          all UnknownInstance h = none UnknownInstance (beside UnknownInstance (λ is. cc) h)
          all UnknownStation h = none UnknownStation (beside UnknownStation (λ is. cc) h)
          all NoTimes h = none NoTimes (beside NoTimes (λ is. cc) h)
          all CrsDiffers h = none CrsDiffers (beside CrsDiffers (λ is. cc) h)
          all (TooManyNodes count) h = none (TooManyNodes count) (beside (TooManyNodes count) (λ is. cc) h)
          all (ParametersDiffer id) h = none (ParametersDiffer id) (beside (ParametersDiffer id) (λ is. cc) h)
          all LevelsDiffer h = alike h
          all OutOfMemory h = none OutOfMemory (beside OutOfMemory (λ is. cc) h)

    -- what a check beside others finds, where levels never differ
    pub finds_beside : {R : Type 0} (r : Result R ChangeFault) → ¬ (setting.levels_differ c coverage) → Finds (AppliesBeside HasOthers c coverage) r → Finds (AppliesToSet setting (Some c) coverage) r
    finds_beside (Ok u) alike none = none_first none alike
    finds_beside (Err fault) alike first = λ other. first_beside fault (first other)

-- ---- what holds where no fault applies

pub kind_or_not : (kind wanted : Kind) → (kind ≡ wanted) ⊎ (kind ≢ wanted)
kind_or_not Grid Grid = inl refl
kind_or_not Grid Station = inr (λ h. cc)
kind_or_not Station Grid = inr (λ h. cc)
kind_or_not Station Station = inl refl

pub fits : (setting : Setting) (c : CollectionValue) (coverage : Coverage) → IsCollection c → IsValid coverage → NoneApplies (AppliesToSet setting (Some c) coverage) → Fits setting c coverage
fits setting c coverage is valid none = record {
  kind = elim (kind_or_not c.kind setting.kind) [ inl same ↦ same | inr other ↦ absurd (none WrongKind (inl other)) ];
  domain = elim (cases_Bool (setting.fits coverage.domain)) [ inl has ↦ has | inr lacks ↦ absurd (none WrongKind (inr lacks)) ];
  times = elim (cases_Bool (has_axis coverage.domain T)) [ inl times ↦ times | inr lacks ↦ absurd (none NoTimes lacks) ];
  few = elim (cases_lt node_limit (count_of coverage.domain)) [ inl many ↦ absurd (none (TooManyNodes (count_of coverage.domain)) (refl, many)) | inr few ↦ few ];
  same = λ have. elim (same_or_differ c.parameters coverage.parameters is.parameters.ascending valid.ascending) [
    | inl same ↦ same
    | inr found ↦ absurd (none (ParametersDiffer found.0) (have, found.1))
  ];
  alike = λ differ. none LevelsDiffer differ;
}

-- ---- there is a first fault, or none

abbrev pub Decided : (ChangeFault → Type 0) → Type 0
Decided Applies = NoneApplies Applies ⊎ ((fault : ChangeFault) × IsLeast rank Applies fault)

system_differs_or_not : (given own : List ℕ) → ((given ≢ []) × (given ≢ own)) ⊎ (¬ ((given ≢ []) × (given ≢ own)))
system_differs_or_not given own = elim (same_text given []) [
  | inl none ↦ inr (λ h. h.0 none)
  | inr some ↦ elim (same_text given own) [ inl same ↦ inr (λ h. h.1 same) | inr differs ↦ inl (some, differs) ]
]

parameters_decided : (HasOthers : Type 0) (c : CollectionValue) (coverage : Coverage) → HasOthers ⊎ (¬ HasOthers) → IsCollection c → IsValid coverage
    → (HasOthers → c.parameters ≡ coverage.parameters) ⊎ ((differing : List ℕ) × (HasOthers × DifferFirstAt c.parameters coverage.parameters differing))
parameters_decided HasOthers c coverage (inr lack) is valid = inl (λ have. absurd (lack have))
parameters_decided HasOthers c coverage (inl have) is valid = elim (same_or_differ c.parameters coverage.parameters is.parameters.ascending valid.ascending) [
  | inl same ↦ inl (λ h. same)
  | inr found ↦ inr (found.0, (have, found.1))
]

beside_decided : (HasOthers : Type 0) (c : CollectionValue) (coverage : Coverage) → HasOthers ⊎ (¬ HasOthers) → IsCollection c → IsValid coverage → Decided (AppliesBeside HasOthers c coverage)
beside_decided HasOthers c coverage others is valid = elim (cases_Bool (has_axis coverage.domain T)) [
  | inr lacks ↦ inr (NoTimes, no_times HasOthers c coverage lacks)
  | inl times ↦ elim (system_differs_or_not coverage.referencing.crs c.referencing.crs) [
    | inl differs ↦ inr (CrsDiffers, crs_differs HasOthers c coverage times differs)
    | inr system ↦ elim (cases_lt node_limit (count_of coverage.domain)) [
      | inl many ↦ inr (TooManyNodes (count_of coverage.domain), too_many_nodes HasOthers c coverage times system (count_of coverage.domain) refl many)
      | inr few ↦ elim (parameters_decided HasOthers c coverage others is valid) [
        | inr found ↦ inr (ParametersDiffer found.0, parameters_differ HasOthers c coverage times system few found.0 found.1)
        | inl same ↦ inl (no_fault HasOthers c coverage times system few same)
      ]
    ]
  ]
]

pub set_decided : (setting : Setting) (c : CollectionValue) (coverage : Coverage) → setting.has_others c ⊎ (¬ (setting.has_others c)) → setting.levels_differ c coverage ⊎ (¬ (setting.levels_differ c coverage))
    → IsCollection c → IsValid coverage → Decided (AppliesToSet setting (Some c) coverage)
set_decided setting c coverage others levels is valid = elim (kind_or_not c.kind setting.kind) [
  | inr other ↦ inr (WrongKind, wrong_kind setting c coverage (inl other))
  | inl kind ↦ elim (cases_Bool (setting.fits coverage.domain)) [
    | inr lacks ↦ inr (WrongKind, wrong_kind setting c coverage (inr lacks))
    | inl fit ↦ elim (beside_decided (setting.has_others c) c coverage others is valid) [
      | inr found ↦ inr (found.0, first_beside setting c coverage (setting.has_others c) (λ h. h) (λ h. h) kind fit found.0 found.1)
      | inl none ↦ elim levels [
        | inl differ ↦ inr (LevelsDiffer, levels_first setting c coverage (setting.has_others c) (λ h. h) (λ h. h) kind fit none differ)
        | inr alike ↦ inl (none_first setting c coverage (setting.has_others c) (λ h. h) (λ h. h) kind fit none alike)
      ]
    ]
  ]
]
