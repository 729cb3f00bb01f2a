-- What the steps of a reader of feeds make; for private clauses.
use Rattle.std.specs.Prelude.{◌≡◌, ℕ, ◌+◌, ◌≤◌, ◌<◌, Bool, true, false, List, ◌++◌, length, take, Contains, All, ⊤, Option, None, Some, IfSome, Result, Ok, Err}
use Rattle.std.specs.Io.KnownBytes.{prepend_known, IsAtEnd}
use Rattle.serde_json.specs.Data.{Data}
use Rattle.edr_base.specs.Limits.{line_limit, feed_limit}
use Rattle.edr_json.specs.Json.{IsJson, IsNoJson}
use Rattle.edr_edition.specs.Values.{EditionValue}
use Rattle.edr_draft.specs.Changes.{IsRefused}
use Rattle.edr_draft.specs.declared.changes.Change.{Change as DraftChange}
use Rattle.edr_draft.specs.declared.changes.Change.TheVariants.{Bare}
use Rattle.edr_feed.specs.declared.entries.Entry.{Entry}
use Rattle.edr_feed.specs.declared.entries.Entry.TheVariants as entries
use Rattle.edr_feed.specs.declared.faults.LineFault.{LineFault}
use Rattle.edr_feed.specs.declared.faults.LineFault.TheVariants as faults
use Rattle.edr_feed.specs.declared.faults.FeedFault.{FeedFault}
use Rattle.edr_feed.specs.declared.faults.FeedFault.TheVariants.{ReadFault, Cov, Change}
use Rattle.edr_feed.specs.declared.steps.Drafting.{Drafting}
use Rattle.edr_feed.specs.declared.reading.Reading.{Reading}
use Rattle.edr_feed.specs.Faults.{at_line}
use Rattle.edr_feed.specs.Refusals.{refusal_of, line_of}
use Rattle.edr_feed.specs.Forms.{HasForm}
use Rattle.edr_feed.specs.FormParts.{IsNoEntry}
use Rattle.edr_feed.specs.Lines.{joined, IsBlank}
use Rattle.edr_feed.specs.Steps.{Progress, at_start, EntryMakes, LineRows, EachLineRows}
use Rattle.edr_feed.specs.Feeds.{FeedStands, LeavesBehind, FailsCheck, RefusesChange, InnerStands}

abbrev pub progress_of : Drafting → Progress
progress_of now = record { draft = now.draft; editions = now.editions.items; behind = now.behind }

abbrev pub is_bare : DraftChange → Bool
is_bare (Bare coverage) = true
is_bare other = false

-- ---- a line

-- a line within the limit that isn't blank
abbrev pub IsFilled : List ℕ → Type 0
IsFilled line = (length line ≤ line_limit) × (¬ (IsBlank line))

-- why a line says nothing
abbrev pub SaysNothing : List ℕ → LineFault → Type 0
SaysNothing line faults.LineTooLong = line_limit < length line
SaysNothing line faults.NotJson = IsFilled line × IsNoJson line
SaysNothing line faults.NotFeedLine = IsFilled line × (tree : Data) × IsJson line tree × IsNoEntry tree faults.NotFeedLine
SaysNothing line (faults.Cov fault) = IsFilled line × (tree : Data) × IsJson line tree × IsNoEntry tree (faults.Cov fault)
SaysNothing line (faults.Change fault) = ⊥
SaysNothing line faults.OutOfMemory = ⊤

-- what a line says
abbrev pub Says : List ℕ → Result (Option Entry) LineFault → Type 0
Says line (Ok None) = (length line ≤ line_limit) × IsBlank line
Says line (Ok (Some entry)) = IsFilled line × (tree : Data) × IsJson line tree × HasForm tree entry
Says line (Err fault) = SaysNothing line fault

-- why an entry isn't done
abbrev pub IsNotDone : Progress → Entry → LineFault → Type 0
IsNotDone old entry (faults.Change fault) = (change : DraftChange) × (entry ≡ entries.Change change) × IsRefused old.draft change fault
IsNotDone old entry faults.OutOfMemory = ⊤
IsNotDone old entry other = ⊥

-- an entry is done
abbrev pub DoesEntry : {T : Type 0} → Progress → Entry → Result T LineFault → Progress → Type 0
DoesEntry old entry (Ok u) new = EntryMakes old entry new
DoesEntry old entry (Err fault) new = IsNotDone old entry fault

-- not a fault of the source
abbrev pub IsOwn : FeedFault → Type 0
IsOwn ReadFault = ⊥
IsOwn other = ⊤

-- the fault inside the line of that number
abbrev pub InnerAt : ℕ → List ℕ → Progress → FeedFault → Type 0
InnerAt number line now (Cov place fault) = (place ≡ number) × FailsCheck line fault
InnerAt number line now (Change place fault) = (place ≡ number) × RefusesChange line now fault
InnerAt number line now other = ⊤

-- the line of that number is at fault
pub record IsAtFault (number : ℕ) (line : List ℕ) (now : Progress) (fault : FeedFault) : Type 0 where
  pub own : IsOwn fault
  pub refused : IfSome (refusal_of fault) (λ refusal. LineRows number line now (Err refusal))
  pub inner : InnerAt number line now fault

-- a line is done, whatever its number
abbrev pub DoesLine : {T : Type 0} → List ℕ → Progress → Result T LineFault → Progress → Type 0
DoesLine line old (Ok u) new = (number : ℕ) → LineRows number line old (Ok new)
DoesLine line old (Err fault) new = (number : ℕ) → IsAtFault number line old (at_line number fault)

-- ---- a feed

-- no line feed
abbrev pub IsPlain : List ℕ → Type 0
IsPlain line = ¬ (Contains line 10)

-- some lines that were read whole, and the line that goes on
pub record HasRead (bytes : List ℕ) (now : Reading) : Type 0 where
  pub lines : List (List ℕ)
  pub line : List ℕ
  pub bytes_are : bytes ≡ joined lines ++ line
  pub plain : All IsPlain lines
  pub plain_line : IsPlain line
  pub kept : now.line.items ≡ take (line_limit + 1) line
  pub counted : now.length ≡ length line
  pub ended : now.ended ≡ length (joined lines)
  pub number : now.number ≡ length lines + 1
  pub within : length bytes ≤ feed_limit
  pub made : EachLineRows 1 lines at_start (Ok (progress_of now.made))

-- some bytes were read
pub record IsReading (now : Reading) : Type 0 where
  pub bytes : List ℕ
  pub read : HasRead bytes now

-- the line that goes on is done, or is at fault
abbrev pub TakesLine : {T : Type 0} → Reading → Result T FeedFault → Reading → Type 0
TakesLine old (Ok u) new =
    LineRows old.number old.line.items (progress_of old.made) (Ok (progress_of new.made)) × (new ≡ record old { made = new.made })
TakesLine old (Err fault) new = IsAtFault old.number old.line.items (progress_of old.made) fault

-- the bytes are refused by that fault, unless memory was wanting
pub record HasFault (bytes : List ℕ) (fault : FeedFault) : Type 0 where
  pub own : IsOwn fault
  pub refused : IfSome (refusal_of fault) (λ refusal. FeedStands bytes (Err refusal))
  pub inner : InnerStands bytes fault

-- so they are, however they go on
abbrev pub IsFaultOf : List ℕ → FeedFault → Type 0
IsFaultOf bytes fault = (rest : List ℕ) → HasFault (bytes ++ rest) fault

-- a step on more bytes
abbrev pub ReadsOn : {T : Type 0} → Result T FeedFault → List ℕ → Reading → Type 0
ReadsOn (Ok u) bytes now = HasRead bytes now
ReadsOn (Err fault) bytes now = IsFaultOf bytes fault

-- no line before the one of that number is at fault, and the next number isn't below it
abbrev pub GoesOn : {T : Type 0} → ℕ → Result T FeedFault → ℕ → Type 0
GoesOn number (Ok u) next = number ≤ next
GoesOn number (Err fault) next = IfSome (line_of fault) (λ line. number ≤ line)

-- all that was left was read
pub record ReadsWhole (old new : Option (List ℕ)) (now : Reading) : Type 0 where
  pub bytes : List ℕ
  pub told : old ≡ prepend_known bytes new
  pub ended : IsAtEnd new
  pub read : HasRead bytes now

-- the bytes are a feed that made this, or are refused
abbrev pub Ends : List ℕ → Result Drafting FeedFault → Type 0
Ends bytes (Ok made) = FeedStands bytes (Ok made.editions.items) × LeavesBehind bytes made.behind
Ends bytes (Err fault) = HasFault bytes fault
