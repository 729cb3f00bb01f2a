-- The texts that are told of feeds, and the answers of their last editions.
use Rattle.std.specs.Prelude.{◌≡◌, ℕ, Bool, true, false, codes, List, ◌++◌, length, Result, Ok}
use Rattle.std.specs.declared.option.Option.{Option}
use Rattle.std.specs.Fmt.{decimal}
use Rattle.std.specs.List.{flat_map}
use Rattle.edr_base.specs.declared.refusals.Refusal.{Refusal}
use Rattle.edr_edition.specs.Values.{EditionValue}
use Rattle.edr_edition.specs.Shelves.{EndsWith}
use Rattle.edr_feed.specs.Feeds.{FeedStandsIn}
use Rattle.edr_feed.specs.Summaries.{summary_line}

-- the line that tells how many editions there are
abbrev pub count_line : List EditionValue → List ℕ
count_line editions = codes "ok: " ++ decimal (length editions) ++ codes " editions\n"

-- the line of each edition
abbrev pub summary_lines : List EditionValue → List ℕ
summary_lines editions = flat_map summary_line editions

-- what is told of the editions: how many there are, or what each has
abbrev pub told : Bool → List EditionValue → List ℕ
told false editions = count_line editions
told true editions = summary_lines editions

-- the input is a feed, and this the text of its editions
abbrev pub IsTextOfFeed : (List EditionValue → List ℕ) → Option (List ℕ) → List ℕ → Type 0
IsTextOfFeed text_of input text = (editions : List EditionValue) × FeedStandsIn input (Ok editions) × (text ≡ text_of editions)

-- the input is a feed, and this what its last edition answers to the target, as IsThe says
pub record IsAnswerFrom (IsThe : EditionValue → List ℕ → Result (List ℕ) Refusal → Type 0) (input : Option (List ℕ)) (target : List ℕ) (answer : Result (List ℕ) Refusal) : Type 0 where
  pub editions : List EditionValue
  pub feed : FeedStandsIn input (Ok editions)
  pub edition : EditionValue
  pub last : EndsWith editions edition
  pub answered : IsThe edition target answer
