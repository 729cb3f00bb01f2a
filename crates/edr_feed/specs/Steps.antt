-- What the lines of a feed make of a draft and of the editions before it.
use Rattle.std.specs.Prelude.{◌≡◌, ◌⊎◌, ℕ, ◌+◌, ◌≤◌, min, List, [], ◌∷◌, ◌++◌, length, Result, Ok}
use Rattle.edr_base.specs.FirstThatApplies.{Check, Find, Then, Gives}
use Rattle.edr_base.specs.Limits.{count_limit, line_limit}
use Rattle.edr_json.specs.Json.{IsJson}
use Rattle.edr_edition.specs.Values.{CollectionValue, EditionValue}
use Rattle.edr_draft.specs.Changes.{Changes}
use Rattle.edr_draft.specs.declared.changes.Change.{Change as DraftChange}
use Rattle.edr_draft.specs.declared.changes.Change.TheVariants.{Bare}
use Rattle.edr_feed.specs.declared.entries.Entry.{Entry}
use Rattle.edr_feed.specs.declared.entries.Entry.TheVariants.{Change, Publish}
use Rattle.edr_feed.specs.declared.refusals.FeedRefusal.{FeedRefusal}
use Rattle.edr_feed.specs.declared.refusals.FeedRefusal.TheVariants as refusals
use Rattle.edr_feed.specs.Forms.{HasForm, HasOutline}
use Rattle.edr_feed.specs.Lines.{IsBlank}

-- the collections of the draft, the editions that were published, in their order, and how many changes were made since
pub record Progress : Type 0 where
  pub draft : List CollectionValue
  pub editions : List EditionValue
  pub behind : ℕ

-- nothing was read yet
abbrev pub at_start : Progress
at_start = record { draft = []; editions = []; behind = 0 }

-- the draft becomes the next edition, and goes on
abbrev pub published : Progress → Progress
published now = record {
  draft = now.draft;
  editions = now.editions ++ record { number = length now.editions + 1; collections = now.draft } ∷ [];
  behind = 0;
}

-- a bare coverage is published at once
abbrev pub published_if_bare : DraftChange → Progress → Progress
published_if_bare (Bare coverage) now = published now
published_if_bare other now = now

-- the draft after one more change
abbrev pub changed : Progress → List CollectionValue → Progress
changed old draft = record { draft = draft; editions = old.editions; behind = min (old.behind + 1) count_limit }

-- an entry leads from one state to the next
abbrev pub EntryMakes : Progress → Entry → Progress → Type 0
EntryMakes old (Change change) new =
    (draft : List CollectionValue) × Changes old.draft change draft × (new ≡ published_if_bare change (changed old draft))
EntryMakes old Publish new = new ≡ published old

-- a line of blanks is passed over
abbrev pub UnlessBlank : List ℕ → Progress → (Result Progress FeedRefusal → Type 0) → Result Progress FeedRefusal → Type 0
UnlessBlank line now Next answer = (IsBlank line × (answer ≡ Ok now)) ⊎ ((¬ (IsBlank line)) × Next answer)

-- what a line of that number makes, or its first refusal: a row of the profile's table of a line's faults a line
abbrev pub LineRows : ℕ → List ℕ → Progress → Result Progress FeedRefusal → Type 0
LineRows number line now =
    Check (length line ≤ line_limit) (refusals.LineTooLong number) (
    UnlessBlank line now (
    Find (IsJson line) (refusals.NotJson number) (λ tree.
    Check (HasOutline tree) (refusals.NotFeedLine number) (
    Find (HasForm tree) (refusals.Cov number) (λ entry.
    Find (EntryMakes now entry) (refusals.Change number) Gives)))))

-- what lines make, one after the other, the first of that number; the first refusal ends them
abbrev pub EachLineRows : ℕ → List (List ℕ) → Progress → Result Progress FeedRefusal → Type 0
EachLineRows number [] now = Gives now
EachLineRows number (line ∷ lines) now = Then (LineRows number line now) (λ next. EachLineRows (number + 1) lines next)
