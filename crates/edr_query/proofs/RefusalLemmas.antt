-- The least refusal, step by step.
use Rattle.std.proofs.Common.{◌≡◌, ◌⊎◌, inl, inr, ⊎_elim, ℕ, ◌+◌, ◌<◌, List, sym, subst, arith, Err}
use Rattle.std.proofs.lemmas.Bool.Decides.{leb_tells}
use Rattle.edr_base.specs.FirstThatApplies.{NoneApplies}
use Rattle.edr_base.specs.declared.refusals.Refusal.{Refusal}
use Rattle.edr_base.specs.declared.refusals.Refusal.TheVariants.{UnknownParameter, RepeatedParameter, BadFormat, MissingParameter, BadCoords, WrongGeometry, BadBbox, BadDatetime, BadLevel, BadDistance, Conflict}
use Rattle.edr_query.specs.declared.addresses.PageKind.{PageKind}
use Rattle.edr_query.specs.declared.reading.TargetFault.{TargetFault}
use Rattle.edr_query.specs.declared.reading.TargetFault.TheVariants.{Refused, OutOfMemory}
use Rattle.edr_query.specs.Parameters.{Pair}
use Rattle.edr_base.specs.RefusalTable.{rank}
use Rattle.edr_base.specs.RefusalLaws.{rank_same}
use Rattle.edr_query.specs.Targets.{Applies}
use Rattle.edr_query.specs.Reads.{Passed, Steps}

below_or_same : (a b : ℕ) → a < b + 1 → (a < b) ⊎ (a ≡ b)
below_or_same a b h = ⊎_elim (λ t. inr (omega (arith, t.1))) (λ t. inl t.1) (leb_tells b a)

-- one refusal more doesn't apply
pub more : (page : PageKind) (pairs : List Pair) (r : Refusal) → Passed page pairs (rank r) → ¬ (Applies page pairs r) → Passed page pairs (rank r + 1)
more page pairs r passed not other below applies =
    ⊎_elim (λ l. passed other l applies) (λ e. not (subst (Applies page pairs) (rank_same other r e) applies)) (below_or_same (rank other) (rank r) below)

-- the refusals before the first of parameters apply to none
pub start : (page : PageKind) (pairs : List Pair) → Passed page pairs 7
start page pairs UnknownParameter below applies = absurd (omega (arith, below))
start page pairs RepeatedParameter below applies = absurd (omega (arith, below))
start page pairs BadFormat below applies = absurd (omega (arith, below))
start page pairs MissingParameter below applies = absurd (omega (arith, below))
start page pairs BadCoords below applies = absurd (omega (arith, below))
start page pairs WrongGeometry below applies = absurd (omega (arith, below))
start page pairs BadBbox below applies = absurd (omega (arith, below))
start page pairs BadDatetime below applies = absurd (omega (arith, below))
start page pairs BadLevel below applies = absurd (omega (arith, below))
start page pairs BadDistance below applies = absurd (omega (arith, below))
start page pairs Conflict below applies = absurd (omega (arith, below))
start page pairs _ below applies = applies

-- past the last none applies
pub done : (page : PageKind) (pairs : List Pair) → Passed page pairs 18 → NoneApplies (Applies page pairs)
done page pairs passed UnknownParameter applies = passed UnknownParameter (omega arith) applies
done page pairs passed RepeatedParameter applies = passed RepeatedParameter (omega arith) applies
done page pairs passed BadFormat applies = passed BadFormat (omega arith) applies
done page pairs passed MissingParameter applies = passed MissingParameter (omega arith) applies
done page pairs passed BadCoords applies = passed BadCoords (omega arith) applies
done page pairs passed WrongGeometry applies = passed WrongGeometry (omega arith) applies
done page pairs passed BadBbox applies = passed BadBbox (omega arith) applies
done page pairs passed BadDatetime applies = passed BadDatetime (omega arith) applies
done page pairs passed BadLevel applies = passed BadLevel (omega arith) applies
done page pairs passed BadDistance applies = passed BadDistance (omega arith) applies
done page pairs passed Conflict applies = passed Conflict (omega arith) applies
done page pairs passed _ applies = applies

-- the refusal that a step looks for is the least
pub stopped : {T : Type 0} (Reads : T → Type 0) (page : PageKind) (pairs : List Pair) (fault : TargetFault) (r : Refusal)
    → (fault ≡ OutOfMemory) ⊎ ((fault ≡ Refused r) × Applies page pairs r) → Passed page pairs (rank r) → Steps (Err fault) Reads page pairs
stopped {T = T} Reads page pairs fault r (inl e) passed =
    let P : TargetFault → Type 0 = λ f. Steps {T = T} (Err f) Reads page pairs in subst P (sym e) tt
stopped {T = T} Reads page pairs fault r (inr (e, applies)) passed =
    let P : TargetFault → Type 0 = λ f. Steps {T = T} (Err f) Reads page pairs in
    subst P (sym e) (record { applies = applies; none_before = passed })

-- a refusal is the same, whatever is read where there is none
pub refused : {T U : Type 0} (Reads : T → Type 0) (Wanted : U → Type 0) (page : PageKind) (pairs : List Pair) (fault : TargetFault)
    → Steps {T = T} (Err fault) Reads page pairs → Steps {T = U} (Err fault) Wanted page pairs
refused Reads Wanted page pairs OutOfMemory steps = tt
refused Reads Wanted page pairs (Refused r) steps = steps
