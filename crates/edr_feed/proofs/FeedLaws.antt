-- What holds of all feeds.
use Rattle.std.proofs.Common.{◌≡◌, ◌≢◌, ℕ, ◌+◌, ◌≤◌, length, List, [], ◌∷◌, ◌++◌, Result, Ok, inl, inr, sym, ◌∙◌, subst, arith}
use Rattle.edr_feed.proofs.RowLemmas.{HasOneAnswer, gives_one, check_one, find_one, then_one}
use Rattle.edr_base.specs.FirstThatApplies.{Gives}
use Rattle.edr_base.specs.Limits.{line_limit, feed_limit}
use Rattle.edr_json.specs.Json.{IsJson, TextsHaveOneTree}
use Rattle.edr_edition.specs.Values.{EditionValue}
use Rattle.edr_draft.specs.Outcomes.{ChangesHaveOneOutcome}
use Rattle.edr_draft.specs.declared.changes.Change.{Change as DraftChange}
use Rattle.edr_draft.specs.declared.changes.Change.TheVariants.{Collection, Grid, Station, DropCollection, DropInstance, DropStation, Bare}
use Rattle.edr_feed.specs.declared.entries.Entry.{Entry}
use Rattle.edr_feed.specs.declared.entries.Entry.TheVariants.{Change, Publish}
use Rattle.edr_feed.specs.declared.refusals.FeedRefusal.{FeedRefusal}
use Rattle.edr_feed.specs.declared.refusals.FeedRefusal.TheVariants as refusals
use Rattle.edr_feed.specs.Forms.{HasForm, HasOutline, TreesHaveOneForm}
use Rattle.edr_feed.specs.Lines.{read_lines}
use Rattle.edr_feed.specs.Steps.{Progress, at_start, published, published_if_bare, changed, EntryMakes, UnlessBlank, LineRows, EachLineRows}
use Rattle.edr_edition.specs.Shelves.{AreNumberedFrom, IsLog}
use Rattle.edr_feed.specs.Feeds.{FeedStands, FeedsHaveOneAnswer}

-- ---- bytes have one answer

-- an entry makes one state
one_made : ChangesHaveOneOutcome → (old : Progress) (entry : Entry) (new other : Progress) → EntryMakes old entry new → EntryMakes old entry other → new ≡ other
one_made outcomes old (Change change) new other p q =
    let drafts = (outcomes old.draft change).one p.0 q.0 p.1 q.1 in
    p.2 ∙ ((λ i. published_if_bare change (changed old (drafts i))) ∙ sym q.2)
one_made outcomes old Publish new other p q = p ∙ sym q

blank_one : (line : List ℕ) (now : Progress) (Next : Result Progress FeedRefusal → Type 0) → HasOneAnswer Next → HasOneAnswer (UnlessBlank line now Next)
blank_one line now Next later one other (inl p) (inl q) = p.1 ∙ sym q.1
blank_one line now Next later one other (inl p) (inr q) = absurd (q.0 p.0)
blank_one line now Next later one other (inr p) (inl q) = absurd (p.0 q.0)
blank_one line now Next later one other (inr p) (inr q) = later one other p.1 q.1

-- the laws of what stands below
record Laws : Type 0 where
  pub trees : TextsHaveOneTree
  pub forms : TreesHaveOneForm
  pub outcomes : ChangesHaveOneOutcome

line_one : Laws → (number : ℕ) (line : List ℕ) (now : Progress) → HasOneAnswer (LineRows number line now)
line_one laws number line now =
    check_one (length line ≤ line_limit) (refusals.LineTooLong number) _ (λ _.
    blank_one line now _ (
    find_one (IsJson line) (refusals.NotJson number) _ (laws.trees line) (λ tree _.
    check_one (HasOutline tree) (refusals.NotFeedLine number) _ (λ _.
    find_one (HasForm tree) (refusals.Cov number) _ (laws.forms tree) (λ entry _.
    find_one (EntryMakes now entry) (refusals.Change number) Gives (one_made laws.outcomes now entry) (λ next _. gives_one next))))))

lines_one : Laws → (lines : List (List ℕ)) (number : ℕ) (now : Progress) → HasOneAnswer (EachLineRows number lines now)
lines_one laws [] number now = gives_one now
lines_one laws (line ∷ lines) number now =
    then_one (LineRows number line now) (λ next. EachLineRows (number + 1) lines next) (line_one laws number line now) (λ next _. lines_one laws lines (number + 1) next)

pub one_answer : TextsHaveOneTree → TreesHaveOneForm → ChangesHaveOneOutcome → FeedsHaveOneAnswer
one_answer trees forms outcomes bytes =
    let laws : Laws = record { trees = trees; forms = forms; outcomes = outcomes } in
    then_one (EachLineRows 1 (read_lines bytes) at_start) _ (lines_one laws (read_lines bytes) 1 at_start) (λ now _.
    check_one (length bytes ≤ feed_limit) refusals.TooLong _ (λ _.
    check_one _ refusals.NothingPublished (Gives now.editions) (λ _. gives_one now.editions)))

-- ---- editions are numbered from 1

-- one more edition
numbered_more : (number : ℕ) (editions : List EditionValue) (edition : EditionValue) → AreNumberedFrom number editions
    → edition.number ≡ number + length editions → AreNumberedFrom number (editions ++ edition ∷ [])
numbered_more number [] edition n e = (omega (arith, e), tt)
numbered_more number (first ∷ editions) edition n e = (n.0, numbered_more (number + 1) editions edition n.1 (omega (arith, e)))

publish_numbers : (now : Progress) → AreNumberedFrom 1 now.editions → AreNumberedFrom 1 (published now).editions
publish_numbers now n = numbered_more 1 now.editions (record { number = length now.editions + 1; collections = now.draft }) n (omega arith)

bare_numbers : (change : DraftChange) (now : Progress) → AreNumberedFrom 1 now.editions → AreNumberedFrom 1 (published_if_bare change now).editions
bare_numbers (Collection id kind title crs vertical) now n = n
bare_numbers (Grid collection instance coverage) now n = n
bare_numbers (Station collection id label coverage) now n = n
bare_numbers (DropCollection collection) now n = n
bare_numbers (DropInstance collection instance) now n = n
bare_numbers (DropStation collection id) now n = n
bare_numbers (Bare coverage) now n = publish_numbers now n

entry_numbers : (old : Progress) (entry : Entry) (new : Progress) → AreNumberedFrom 1 old.editions → EntryMakes old entry new → AreNumberedFrom 1 new.editions
entry_numbers old (Change change) new n makes =
    subst (λ (now : Progress). AreNumberedFrom 1 now.editions) (sym makes.2) (bare_numbers change (changed old makes.0) n)
entry_numbers old Publish new n makes = subst (λ (now : Progress). AreNumberedFrom 1 now.editions) (sym makes) (publish_numbers old n)

-- a line that is done keeps the numbers
line_numbers : (number : ℕ) (line : List ℕ) (old new : Progress) → AreNumberedFrom 1 old.editions → LineRows number line old (Ok new) → AreNumberedFrom 1 new.editions
line_numbers number line old new n rows = elim rows [
  | inl within ↦ elim within.1 [
    | inl blank ↦ let same : new ≡ old = let e = blank.1 in cc in subst (λ (now : Progress). AreNumberedFrom 1 now.editions) (sym same) n
    | inr text ↦ elim text.1 [
      | inl tree ↦ elim tree.2 [
        | inl outline ↦ elim outline.1 [
          | inl entry ↦ elim entry.2 [
            | inl next ↦
                let same : new ≡ next.0 = let e = next.2 in cc in
                subst (λ (now : Progress). AreNumberedFrom 1 now.editions) (sym same) (entry_numbers old entry.0 next.0 n next.1)
            | inr none ↦ let e = none.1 in cc
          ]
          | inr none ↦ let e = none.1 in cc
        ]
        | inr none ↦ let e = none.1 in cc
      ]
      | inr none ↦ let e = none.1 in cc
    ]
  ]
  | inr over ↦ let e = over.1 in cc
]

lines_number : (lines : List (List ℕ)) (number : ℕ) (old new : Progress) → AreNumberedFrom 1 old.editions → EachLineRows number lines old (Ok new) → AreNumberedFrom 1 new.editions
lines_number [] number old new n made =
    let same : new ≡ old = cc in subst (λ (now : Progress). AreNumberedFrom 1 now.editions) (sym same) n
lines_number (line ∷ lines) number old new n (inl made) = lines_number lines (number + 1) made.0 new (line_numbers number line old made.0 n made.1) made.2
lines_number (line ∷ lines) number old new n (inr none) = let e = none.2 in cc

stands_numbered : (bytes : List ℕ) (editions : List EditionValue) → FeedStands bytes (Ok editions) → AreNumberedFrom 1 editions
stands_numbered bytes editions stands = elim stands [
  | inl made ↦ elim made.2 [
    | inl within ↦ elim within.1 [
      | inl some ↦
          let same : editions ≡ made.0.editions = let e = some.1 in cc in
          subst (AreNumberedFrom 1) (sym same) (lines_number (read_lines bytes) 1 at_start made.0 tt made.1)
      | inr none ↦ let e = none.1 in cc
    ]
    | inr over ↦ let e = over.1 in cc
  ]
  | inr none ↦ let e = none.2 in cc
]

stands_some : (bytes : List ℕ) (editions : List EditionValue) → FeedStands bytes (Ok editions) → editions ≢ []
stands_some bytes editions stands = elim stands [
  | inl made ↦ elim made.2 [
    | inl within ↦ elim within.1 [
      | inl some ↦ (λ none. some.0 (let e = some.1 in cc))
      | inr none ↦ let e = none.1 in cc
    ]
    | inr over ↦ let e = over.1 in cc
  ]
  | inr none ↦ let e = none.2 in cc
]

-- a feed's editions are a log
pub stands_log : (bytes : List ℕ) (editions : List EditionValue) → FeedStands bytes (Ok editions) → IsLog editions
stands_log bytes editions stands = record { some = stands_some bytes editions stands; numbered = stands_numbered bytes editions stands }
