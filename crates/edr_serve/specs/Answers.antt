-- What answering a page or a target writes, and that each has one answer (OGC 19-086r6, sections 7 and 8).
use Rattle.std.specs.Prelude.{◌≡◌, ◌⊎◌, ℕ, List, Result, Ok, Err, Option}
use Rattle.std.specs.Io.KnownBytes.{append_known}
use Rattle.edr_base.specs.Calls.{WrittenInPart}
use Rattle.edr_base.specs.FirstThatApplies.{IsLeast, NoneApplies}
use Rattle.edr_base.specs.declared.refusals.Refusal.{Refusal}
use Rattle.edr_edition.specs.Values.{EditionValue}
use Rattle.edr_base.specs.RefusalTable.{rank}
use Rattle.edr_query.specs.Targets.{IsTarget, Refuses}
use Rattle.edr_query.specs.declared.pages.Page.{Page}
use Rattle.edr_select.specs.Refusals.{Applies}
use Rattle.edr_describe.specs.Answers.{IsAnswer, IsAnswerTo}
use Rattle.edr_serve.specs.declared.answering.AnswerFault.{AnswerFault}
use Rattle.edr_serve.specs.declared.answering.AnswerFault.TheVariants.{Refused, WriteFault, OutOfMemory}

-- what answering writes: the whole text; nothing where there is a refusal; and else a beginning of the text
abbrev pub Answers : {T : Type 0} → Result T AnswerFault → (Result (List ℕ) Refusal → Type 0) → Option (List ℕ) → Option (List ℕ) → Type 0
Answers (Ok done) IsThe old new = (text : List ℕ) × IsThe (Ok text) × (new ≡ append_known old text)
Answers (Err (Refused refusal)) IsThe old new = IsThe (Err refusal) × (new ≡ old)
Answers (Err WriteFault) IsThe old new = WrittenInPart (λ text. IsThe (Ok text)) old new
Answers (Err OutOfMemory) IsThe old new = (new ≡ old) ⊎ WrittenInPart (λ text. IsThe (Ok text)) old new

-- ---- laws

-- each page has an answer
abbrev pub PageHasAnswer : Type 0
PageHasAnswer = (edition : EditionValue) (page : Page) → (answer : Result (List ℕ) Refusal) × IsAnswer edition page answer

-- an edition has one answer to a target at most: one text, or one refusal, and never both
abbrev pub AnswerIsOne : Type 0
AnswerIsOne = (edition : EditionValue) (target : List ℕ) (one other : Result (List ℕ) Refusal)
    → IsAnswerTo edition target one → IsAnswerTo edition target other → one ≡ other

-- a refusal applies to the target, or to the page that it asks for
abbrev pub AppliesTo : EditionValue → List ℕ → Refusal → Type 0
AppliesTo edition target refusal = Refuses target refusal ⊎ ((page : Page) × IsTarget target (Ok page) × Applies edition page refusal)

-- where a text is answered no refusal applies, and else the one that is answered is the least by its number
abbrev pub IsTheFirst : EditionValue → List ℕ → Result (List ℕ) Refusal → Type 0
IsTheFirst edition target (Ok text) = NoneApplies (AppliesTo edition target)
IsTheFirst edition target (Err refusal) = IsLeast rank (AppliesTo edition target) refusal

abbrev pub RefusalIsTheFirst : Type 0
RefusalIsTheFirst = (edition : EditionValue) (target : List ℕ) (answer : Result (List ℕ) Refusal)
    → IsAnswerTo edition target answer → IsTheFirst edition target answer
