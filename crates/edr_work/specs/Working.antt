-- One large run: the feed that is made of a number is read, and its edition answers four targets.
use Rattle.std.specs.Prelude.{◌≡◌, ◌⊎◌, ℕ, List, ◌++◌, Result, Ok, Err, ⊤}
use Rattle.edr_base.specs.declared.refusals.Refusal.{Refusal}
use Rattle.edr_edition.specs.Values.{EditionValue}
use Rattle.edr_edition.specs.Shelves.{EndsWith}
use Rattle.edr_feed.specs.Feeds.{FeedStands}
use Rattle.edr_make.specs.Made.{made}
use Rattle.edr_feed.specs.Summaries.{summary_line}
use Rattle.edr_feed.specs.declared.refusals.FeedRefusal.{FeedRefusal}
use Rattle.edr_describe.specs.Answers.{IsAnswerTo}
use Rattle.edr_work.specs.declared.faults.WorkFault.{WorkFault}
use Rattle.edr_work.specs.declared.faults.WorkFault.TheVariants.{NotFeed, Refused, OutOfMemory}
use Rattle.edr_work.specs.Lines.{cube_target, position_target, location_target, corridor_target, IsLine}

-- the last edition of the feed that is made of the number
pub record IsMadeEdition (number : ℕ) (edition : EditionValue) : Type 0 where
  pub editions : List EditionValue
  pub feed : FeedStands (made number) (Ok editions)
  pub last : EndsWith editions edition

-- the line of the edition, and behind it those of the targets
pub record AreLines (edition : EditionValue) (text : List ℕ) : Type 0 where
  pub cube : List ℕ
  pub is_cube : IsLine edition cube_target cube
  pub position : List ℕ
  pub is_position : IsLine edition position_target position
  pub location : List ℕ
  pub is_location : IsLine edition location_target location
  pub corridor : List ℕ
  pub is_corridor : IsLine edition corridor_target corridor
  pub text_is : text ≡ summary_line edition ++ cube ++ position ++ location ++ corridor

-- these lines of the edition of the feed that is made of the number
abbrev pub IsWork : ℕ → List ℕ → Type 0
IsWork number text = (edition : EditionValue) × IsMadeEdition number edition × AreLines edition text

-- one of the targets
abbrev pub IsTried : List ℕ → Type 0
IsTried target = (target ≡ cube_target) ⊎ (target ≡ position_target) ⊎ (target ≡ location_target) ⊎ (target ≡ corridor_target)

-- the edition answers one of the targets with a refusal
abbrev pub RefusesTried : EditionValue → Refusal → Type 0
RefusesTried edition refusal = (target : List ℕ) × IsTried target × IsAnswerTo edition target (Err refusal)

abbrev pub IsWorkRefused : ℕ → Refusal → Type 0
IsWorkRefused number refusal = (edition : EditionValue) × IsMadeEdition number edition × RefusesTried edition refusal

-- the feed that is made of the number is none, for that reason
abbrev pub IsMadeNoFeed : ℕ → FeedRefusal → Type 0
IsMadeNoFeed number refusal = FeedStands (made number) (Err refusal)

-- the text of a run, or why there is none; it is free where memory is wanting
abbrev pub MatchWork : Result (List ℕ) WorkFault → ℕ → Type 0
MatchWork (Ok text) number = IsWork number text
MatchWork (Err (NotFeed refusal)) number = IsMadeNoFeed number refusal
MatchWork (Err (Refused refusal)) number = IsWorkRefused number refusal
MatchWork (Err OutOfMemory) number = ⊤
