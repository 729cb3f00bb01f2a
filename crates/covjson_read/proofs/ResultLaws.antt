-- What results say by the answer of rows.
use Rattle.std.specs.Prelude.{Result, IfOk, IfErr, MatchResult, is_ok}
use Rattle.std.proofs.Common.{◌≡◌, ◌≢◌, ◌⊎◌, ℕ, List, inl, inr, true, Ok, Err}
use Rattle.edr_base.specs.FirstThatApplies.{and_then}
use Rattle.covjson_value.specs.declared.coverages.Document.{Document}
use Rattle.covjson_checks.specs.declared.faults.CovFault.{CovFault}
use Rattle.covjson_checks.specs.declared.faults.CovFault.TheVariants.{OutOfMemory}
use Rattle.covjson_checks.specs.Answers.{Answer, GivesUnlessMemory}
use Rattle.covjson_read.specs.CoverageAnswers.{AnswersText}

-- a fault that isn't want of memory is that of the answer
pub fault_given : {T U : Type 0} (r : Result T CovFault) (seen : T → U) (answer : Answer U) (Q : CovFault → Type 0) → ((f : CovFault) → answer ≡ Err f → Q f)
    → GivesUnlessMemory seen r answer → IfErr r (λ f. f ≢ OutOfMemory → Q f)
fault_given (Ok x) seen answer Q tells h = tt
fault_given (Err f) seen answer Q tells h = λ not. elim h [ inl e ↦ tells f e | inr memory ↦ absurd (not memory) ]

-- a step that passes is taken, and then the answer of the rest
pub stops_behind : {T U : Type 0} (step : Answer T) (next : T → Answer U) (fault : CovFault) → is_ok step ≡ true → ((x : T) → (next x ≡ Err fault) ⊎ (fault ≡ OutOfMemory))
    → (and_then step next ≡ Err fault) ⊎ (fault ≡ OutOfMemory)
stops_behind (Ok x) next fault passes stops = stops x
stops_behind (Err f) next fault passes stops = cc

-- a result gives the answer of a text, unless memory was wanting
abbrev pub GivesText : List ℕ → Result Document CovFault → Type 0
GivesText text r = MatchResult r (λ d. AnswersText text (Ok d)) (λ f. AnswersText text (Err f) ⊎ (f ≡ OutOfMemory))

pub document_given : (text : List ℕ) (r : Result Document CovFault) (P : Document → Type 0) → ((d : Document) → AnswersText text (Ok d) → P d) → GivesText text r → IfOk r P
document_given text (Ok d) P tells h = tells d h
document_given text (Err f) P tells h = tt

pub text_fault_given : (text : List ℕ) (r : Result Document CovFault) (Q : CovFault → Type 0) → ((f : CovFault) → AnswersText text (Err f) → Q f) → GivesText text r → IfErr r (λ f. f ≢ OutOfMemory → Q f)
text_fault_given text (Ok d) Q tells h = tt
text_fault_given text (Err f) Q tells h = λ not. elim h [ inl e ↦ tells f e | inr memory ↦ absurd (not memory) ]
