-- A call of a source, a sink, files or a link: its plan, the count of its faults, and what it gives or takes.
use Rattle.std.proofs.Common.{◌≡◌, ◌==◌, ℕ, ◌+◌, ◌<◌, ◌≤◌, min, Bool, true, false, List, [], ◌∷◌, ◌++◌, map, Vec, length, take, drop, Some, None, Ok, Err, Result, refl, sym, ap, ◌∙◌, arith}
use Rattle.std.proofs.lemmas.Bool.{false≢true, eqb-false, eqb-true}
use Rattle.std.specs.Result.{IsErrAnd}
use Rattle.std.proofs.lemmas.List.{map_push}
use Rattle.std.specs.declared.alloc.Global.{Global}
use Rattle.edr_base.specs.declared.fault_plan.FaultPlan.{FaultPlan}
use Rattle.edr_base.specs.declared.outside.Failed.{Failed}
use Rattle.edr_base.specs.declared.outside.Stop.{Stop}
use Rattle.edr_base.specs.declared.outside.Stop.TheVariants.{Failed as Faulted, OutOfMemory}
use Rattle.edr_base.specs.Limits.{count_limit}
use Rattle.edr_base.specs.Outside.{Rose}
use Rattle.edr_base.specs.Calls.{Reads, Appended, Flushed}
use Rattle.edr_base.specs.Memory.{left_in, peer_asked, name_asked}
use Rattle.edr_base.specs.MemoryParts.{IsNextPlan}

-- the plan after a call that didn't fail
pub plan_kept : (Fails : Type 0) (old new : FaultPlan) → ¬ Fails → new.fails ≡ old.fails → new.calls ≡ min (old.calls + 1) count_limit → new.faults ≡ old.faults → IsNextPlan Fails old new
plan_kept Fails old new never fails calls faults =
    record { fails = fails; calls = calls; fault = λ f. absurd (never f); none = λ _. faults }

-- and after one that failed, whose fault is counted behind it
pub plan_failed : (Fails : Type 0) (old mid new : FaultPlan) → Fails → mid.fails ≡ old.fails → mid.calls ≡ min (old.calls + 1) count_limit → mid.faults ≡ old.faults → new.faults ≡ min (mid.faults + 1) count_limit → (new.calls ≡ mid.calls) × (new.fails ≡ mid.fails) → IsNextPlan Fails old new
plan_failed Fails old mid new fails same calls faults counted kept =
    record { fails = kept.1 ∙ same; calls = kept.0 ∙ calls; fault = λ _. counted ∙ ap (λ n. min (n + 1) count_limit) faults; none = λ never. absurd (never fails) }

-- the count of faults, where the last call was one, and where it was none
pub rose_by : (old mid new : ℕ) → mid ≡ old → new ≡ min (mid + 1) count_limit → Rose old new
rose_by old mid new same counted = omega (arith, same, counted)

pub later_same : (old new : ℕ) → new ≡ old → old ≤ new
later_same old new same = omega (arith, same)

pub later_by : (old mid new : ℕ) → old ≤ count_limit → mid ≡ old → new ≡ min (mid + 1) count_limit → old ≤ new
later_by old mid new within same counted = omega (arith, within, same, counted)

-- an answer is a fault
abbrev pub is_failed : {T : Type 0} → Result T Stop → Bool
is_failed (Ok x) = false
is_failed (Err Faulted) = true
is_failed (Err OutOfMemory) = false

-- an answer where memory was wanting
pub is_wanting : {T : Type 0} (r : Result T Stop) → IsErrAnd r (λ stop. stop ≡ OutOfMemory) → r ≡ Err OutOfMemory
is_wanting (Ok x) e = absurd e
is_wanting (Err stop) e = ap Err e

-- how much is taken or given at once
pub no_more : (n room : ℕ) → n ≤ room → room ≡ 0 → n ≡ 0
no_more n room within none = omega (arith, within, none)

pub taken : (n room cut : ℕ) → n ≡ min room cut → 0 < cut → (n ≤ room) × (0 < room → 0 < n)
taken n room cut least some = (omega (arith, least), λ more. omega (arith, least, some, more))

pub cut_off : (n room cut : ℕ) → n ≡ min room cut → n ≤ cut
cut_off n room cut least = omega (arith, least)

-- a length that isn't 0
pub no_room : (n : ℕ) → false ≡ (n == 0) → n ≡ 0 → ⊥
no_room n e none = eqb-false n 0 (sym e) none

pub no_some : (n : ℕ) → true ≡ (n == 0) → 0 < n → ⊥
no_some n e some = let none = eqb-true n 0 (sym e) in omega (arith, none, some)

pub some_room : (n : ℕ) → false ≡ (n == 0) → 0 < n
some_room n e = let no = eqb-false n 0 (sym e) in omega (arith, no)

-- what was given of what is open
pub gave : (ready : Bool) (at at' n : ℕ) (bytes buf : List ℕ) → ready ≡ true → drop at bytes ≡ take n buf ++ drop at' bytes → (n ≡ 0 → 0 < length buf → drop at' bytes ≡ []) → Reads {E = Failed} (Some (left_in ready at bytes)) (Some (left_in ready at' bytes)) (Ok n) buf
gave true at at' n bytes buf is given ended = (ap Some given, ended)
gave false at at' n bytes buf is given ended = absurd (false≢true is)

-- a call of an object that tells nothing
pub reads_untold : {E : Type 0} (r : Result ℕ E) (buf : List ℕ) → Reads None None r buf
reads_untold (Ok n) buf = (refl, λ _ _. tt)
reads_untold (Err e) buf = refl

pub appended_untold : {E : Type 0} (r : Result ℕ E) (piece : List ℕ) → Appended None None r piece
appended_untold (Ok n) piece = refl
appended_untold (Err e) piece = refl

pub flushed_untold : {T E : Type 0} (r : Result T E) → Flushed None None None r
flushed_untold (Ok x) = refl
flushed_untold (Err e) = refl

-- one more was asked
pub peer_added : (new old : List (Vec ℕ Global × ℕ)) (host : Vec ℕ Global) (port : ℕ) (named : List ℕ) → new ≡ old ++ (host, port) ∷ [] → host.items ≡ named → Some (map peer_asked new) ≡ Some (map peer_asked old ++ (named, port) ∷ [])
peer_added new old host port named more same =
    ap (λ (peers : List (Vec ℕ Global × ℕ)). Some (map peer_asked peers)) more ∙ (ap Some (map_push peer_asked old (host, port)) ∙ ap (λ (name : List ℕ). Some (map peer_asked old ++ (name, port) ∷ [])) same)

pub name_added : (new old : List (Vec ℕ Global)) (file : Vec ℕ Global) (named : List ℕ) → new ≡ old ++ file ∷ [] → file.items ≡ named → Some (map name_asked new) ≡ Some (map name_asked old ++ (named, 0) ∷ [])
name_added new old file named more same =
    ap (λ (files : List (Vec ℕ Global)). Some (map name_asked files)) more ∙ (ap Some (map_push name_asked old file) ∙ ap (λ (name : List ℕ). Some (map name_asked old ++ (name, 0) ∷ [])) same)
