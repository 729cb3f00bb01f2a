-- The editions of a feed, or why bytes are none.
use Rattle.std.specs.Prelude.{◌≡◌, ◌≢◌, ℕ, ◌+◌, ◌≤◌, List, [], ◌∷◌, ◌++◌, length, take, ⊤, Result, Ok, Err, Option, None, Some}
use Rattle.std.specs.Io.KnownBytes.{prepend_known}
use Rattle.serde_json.specs.Data.{Data, null}
use Rattle.covjson_checks.specs.declared.faults.CovFault.{CovFault}
use Rattle.covjson_read.specs.Rows.{CoverageRows}
use Rattle.edr_base.specs.Calls.{buffer_size}
use Rattle.edr_base.specs.FirstThatApplies.{Check, Then, Gives}
use Rattle.edr_base.specs.Limits.{feed_limit}
use Rattle.edr_json.specs.Json.{IsJson}
use Rattle.edr_edition.specs.Values.{EditionValue}
use Rattle.edr_draft.specs.Changes.{IsRefused}
use Rattle.edr_draft.specs.declared.changes.Change.{Change as DraftChange}
use Rattle.edr_draft.specs.declared.changes.ChangeFault.{ChangeFault}
use Rattle.edr_feed.specs.declared.entries.Entry.TheVariants as entries
use Rattle.edr_feed.specs.declared.faults.FeedFault.{FeedFault}
use Rattle.edr_feed.specs.declared.faults.FeedFault.TheVariants.{Cov, Change}
use Rattle.edr_feed.specs.declared.refusals.FeedRefusal.{FeedRefusal}
use Rattle.edr_feed.specs.declared.refusals.FeedRefusal.TheVariants.{TooLong, NothingPublished}
use Rattle.edr_feed.specs.Forms.{HasForm, HoldsCoverage}
use Rattle.edr_feed.specs.Lines.{lines_of, read_lines, joined}
use Rattle.edr_feed.specs.Steps.{Progress, at_start, EachLineRows}

-- the bytes are a feed of these editions, or the first refusal applies to them
abbrev pub FeedStands : List ℕ → Result (List EditionValue) FeedRefusal → Type 0
FeedStands bytes =
    Then (EachLineRows 1 (read_lines bytes) at_start) (λ now.
    Check (length bytes ≤ feed_limit) TooLong (
    Check (now.editions ≢ []) NothingPublished (
    Gives now.editions)))

-- the same of an input that may not be told
abbrev pub FeedStandsIn : Option (List ℕ) → Result (List EditionValue) FeedRefusal → Type 0
FeedStandsIn None answer = (bytes : List ℕ) × FeedStands bytes answer
FeedStandsIn (Some bytes) answer = FeedStands bytes answer

-- so many lines of a feed change what is published next, and stand behind its last publish
abbrev pub LeavesBehind : List ℕ → ℕ → Type 0
LeavesBehind bytes behind = (now : Progress) × EachLineRows 1 (read_lines bytes) at_start (Ok now) × (behind ≡ now.behind)

abbrev pub LeavesBehindIn : Option (List ℕ) → ℕ → Type 0
LeavesBehindIn None behind = (bytes : List ℕ) × LeavesBehind bytes behind
LeavesBehindIn (Some bytes) behind = LeavesBehind bytes behind

-- ---- the fault inside a line

-- the lines before the one of that number make that draft and these editions
pub record IsReached (bytes : List ℕ) (number : ℕ) (line : List ℕ) (now : Progress) : Type 0 where
  pub before : List (List ℕ)
  pub behind : List (List ℕ)
  pub lines_are : read_lines bytes ≡ before ++ line ∷ behind
  pub number_is : number ≡ length before + 1
  pub made : EachLineRows 1 before at_start (Ok now)

-- the line's coverage fails that check first
pub record FailsCheck (line : List ℕ) (fault : CovFault) : Type 0 where
  pub tree : Data
  pub is_tree : IsJson line tree
  pub coverage : Data
  pub holds : HoldsCoverage tree coverage
  pub fails : CoverageRows null coverage (Err fault)

-- the line's change of the draft is refused by that fault
pub record RefusesChange (line : List ℕ) (now : Progress) (fault : ChangeFault) : Type 0 where
  pub tree : Data
  pub is_tree : IsJson line tree
  pub change : DraftChange
  pub has_form : HasForm tree (entries.Change change)
  pub refused : IsRefused now.draft change fault

-- the fault of the coverage, or of the change, of the line that the fault names
abbrev pub InnerStands : List ℕ → FeedFault → Type 0
InnerStands bytes (Cov number fault) = (line : List ℕ) × (now : Progress) × IsReached bytes number line now × FailsCheck line fault
InnerStands bytes (Change number fault) = (line : List ℕ) × (now : Progress) × IsReached bytes number line now × RefusesChange line now fault
InnerStands bytes other = ⊤

abbrev pub InnerStandsIn : Option (List ℕ) → FeedFault → Type 0
InnerStandsIn None fault = (bytes : List ℕ) × InnerStands bytes fault
InnerStandsIn (Some bytes) fault = InnerStands bytes fault

-- ---- how far a source is read

-- some bytes were taken: at most the lines up to the one of that number, with their line feeds, and what is taken at once
pub record ReadsToLine (old new : Option (List ℕ)) (number : ℕ) : Type 0 where
  pub bytes : List ℕ
  pub read : old ≡ prepend_known bytes new
  pub within : length bytes ≤ length (joined (take number (lines_of bytes))) + buffer_size

-- ---- laws

-- bytes are at most one feed, or have one first refusal
abbrev pub FeedsHaveOneAnswer : Type 0
FeedsHaveOneAnswer = (bytes : List ℕ) (one other : Result (List EditionValue) FeedRefusal) → FeedStands bytes one → FeedStands bytes other → one ≡ other
