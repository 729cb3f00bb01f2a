-- How a run ends that makes a feed and reads it.
use Rattle.std.proofs.Common.{◌≡◌, sym, subst, ℕ, List, Err}
use Rattle.std.specs.declared.option.Option.{Option}
use Rattle.edr_base.specs.Calls.{WrittenInPart}
use Rattle.edr_work.specs.declared.faults.WorkFault.{WorkFault}
use Rattle.edr_work.specs.declared.faults.WorkFault.TheVariants as faults
use Rattle.edr_work.specs.Working.{MatchWork}
use Rattle.edr.specs.Working.{WorkCause, work_ends}
use Rattle.edr.specs.declared.endings.Ending.{Ending}

-- the fault of a run is the cause of its ending
fault_caused : (fault : WorkFault) (number before after : ℕ) → MatchWork (Err fault) number → WorkCause (work_ends fault) number before after
fault_caused (faults.NotFeed refusal) number before after is = is
fault_caused (faults.Refused refusal) number before after is = is
fault_caused faults.OutOfMemory number before after is = tt

pub work_caused : (fault : WorkFault) (ending : Ending) (number before after : ℕ) → ending ≡ work_ends fault → MatchWork (Err fault) number → WorkCause ending number before after
work_caused fault ending number before after e is = subst (λ (end : Ending). WorkCause end number before after) (sym e) (fault_caused fault number before after is)

-- a beginning of a text that is one of these was written
pub part_of : (P : List ℕ → Type 0) (text piece : List ℕ) (old new : Option (List ℕ)) → P text → piece ≡ text → WrittenInPart (λ (t : List ℕ). t ≡ piece) old new → WrittenInPart P old new
part_of P text piece old new is same part = record { text = part.text; is = subst P (sym (subst (λ (t : List ℕ). part.text ≡ t) same part.is)) is; front = part.front }
