-- What is answered where a fault is handed on.
use Rattle.std.specs.Prelude.{Result}
use Rattle.std.proofs.Common.{◌≡◌, ◌⊎◌, inl, inr, Ok, Err, IsErrAnd, refl, sym, ap, ◌∙◌}
use Rattle.edr_base.specs.FirstThatApplies.{and_then}
use Rattle.covjson_checks.specs.declared.faults.CovFault.{CovFault}
use Rattle.covjson_checks.specs.declared.faults.CovFault.TheVariants.{OutOfMemory}
use Rattle.covjson_checks.specs.Answers.{Answer, GivesUnlessMemory}

-- a fault that is handed on is the answer
pub fault_answers : {T U : Type 0} (seen : T → U) (r : Result T CovFault) (fault : CovFault) (answer : Answer U) → IsErrAnd r (λ e. e ≡ fault) → (answer ≡ Err fault) ⊎ (fault ≡ OutOfMemory)
    → GivesUnlessMemory seen r answer
fault_answers seen (Ok x) fault answer same given = absurd same
fault_answers seen (Err e) fault answer same (inl given) = inl (given ∙ ap (λ f. Err f) (sym same))
fault_answers seen (Err e) fault answer same (inr memory) = inr (same ∙ memory)

-- want of memory alone is a fault where there is an answer
pub memory_alone : {T : Type 0} (x : T) (fault : CovFault) → (Ok x ≡ Err fault) ⊎ (fault ≡ OutOfMemory) → fault ≡ OutOfMemory
memory_alone x fault (inl never) = cc
memory_alone x fault (inr memory) = memory

-- a step is taken, and then the answer of the rest
module _ {T U : Type 0} (step : Answer T) (next : T → Answer U) (fault : CovFault) where
  pub stops_here : (step ≡ Err fault) ⊎ (fault ≡ OutOfMemory) → (and_then step next ≡ Err fault) ⊎ (fault ≡ OutOfMemory)
  stops_here (inl given) = inl (rw given refl)
  stops_here (inr memory) = inr memory

  pub stops_after : (x : T) → step ≡ Ok x → (next x ≡ Err fault) ⊎ (fault ≡ OutOfMemory) → (and_then step next ≡ Err fault) ⊎ (fault ≡ OutOfMemory)
  stops_after x is (inl given) = inl (rw is given)
  stops_after x is (inr memory) = inr memory

-- two steps are taken, and then the answer of the rest
pub both_stop : {T U V : Type 0} (first : Answer T) (second : T → Answer U) (next : U → Answer V) (fault : CovFault) → (and_then first second ≡ Err fault) ⊎ (fault ≡ OutOfMemory)
    → (and_then first (λ x. and_then (second x) next) ≡ Err fault) ⊎ (fault ≡ OutOfMemory)
both_stop (Ok x) second next fault given = stops_here (second x) next fault given
both_stop (Err f) second next fault (inl given) = let same : f ≡ fault = cc in inl (ap (λ e. Err e) same)
both_stop (Err f) second next fault (inr memory) = inr memory
