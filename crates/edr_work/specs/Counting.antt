-- For private clauses: what is counted of the document of a query, the lines of targets, and the feed as it is read.
use Rattle.std.specs.Prelude.{◌≡◌, ℕ, List, length, Result, Ok, Err, ⊤, None, Some}
use Rattle.edr_edition.specs.Values.{EditionValue}
use Rattle.edr_edition.specs.Shelves.{IsLog}
use Rattle.edr_edition.specs.Stores.{Subject, subject_of}
use Rattle.edr_feed.specs.declared.feeds.Feed.{Feed}
use Rattle.edr_feed.specs.Feeds.{FeedStands}
use Rattle.edr_make.specs.Made.{made}
use Rattle.edr_query.specs.Values.{QueryValue}
use Rattle.edr_query.specs.Targets.{IsTarget}
use Rattle.edr_query.specs.declared.pages.Page.{Page}
use Rattle.edr_query.specs.declared.pages.Page.TheVariants.{Landing, Conformance, Collections, Collection, Instances, Instance, Locations, Ask}
use Rattle.edr_select.specs.Refusals.{IsFirstRefusal}
use Rattle.edr_select.specs.Documents.{document}
use Rattle.edr_select.specs.Selections.{needed}
use Rattle.edr_station.specs.declared.tallies.Tally.{Tally}
use Rattle.edr_station.specs.Tallies.{tally_of}
use Rattle.edr_describe.specs.Answers.{IsAnswerTo}
use Rattle.edr_work.specs.declared.faults.WorkFault.{WorkFault}
use Rattle.edr_work.specs.declared.lines.Count.{Count}
use Rattle.edr_work.specs.declared.faults.WorkFault.TheVariants.{NotFeed, Refused, OutOfMemory}
use Rattle.edr_work.specs.Lines.{IsLine, document_values}
use Rattle.edr_work.specs.Working.{AreLines, IsMadeNoFeed, RefusesTried}

-- the target asks for nothing but a query
abbrev pub IsQueryPage : Page → Type 0
IsQueryPage (Ask query) = ⊤
IsQueryPage Landing = ⊥
IsQueryPage Conformance = ⊥
IsQueryPage Collections = ⊥
IsQueryPage (Collection c) = ⊥
IsQueryPage (Instances c) = ⊥
IsQueryPage (Instance c i) = ⊥
IsQueryPage (Locations c) = ⊥

abbrev pub AsksForQuery : List ℕ → Type 0
AsksForQuery target = (page : Page) → IsTarget target (Ok page) → IsQueryPage page

-- the line of a target, or the refusal that the edition answers to it
abbrev pub MatchLine : Result (List ℕ) WorkFault → EditionValue → List ℕ → Type 0
MatchLine (Ok line) edition target = IsLine edition target line
MatchLine (Err (NotFeed refusal)) edition target = ⊥
MatchLine (Err (Refused refusal)) edition target = IsAnswerTo edition target (Err refusal)
MatchLine (Err OutOfMemory) edition target = ⊤

-- those of all targets, or a refusal of one of them
abbrev pub MatchLines : Result (List ℕ) WorkFault → EditionValue → Type 0
MatchLines (Ok text) edition = AreLines edition text
MatchLines (Err (NotFeed refusal)) edition = ⊥
MatchLines (Err (Refused refusal)) edition = RefusesTried edition refusal
MatchLines (Err OutOfMemory) edition = ⊤

-- what is told of a query: the tally of its document's values, and how many chunks hold a selected sample
pub record IsCount (edition : EditionValue) (query : QueryValue) (tally : Tally) (opened : ℕ) : Type 0 where
  pub none : IsFirstRefusal edition (Ask query) None
  pub subject : Subject
  pub named : subject_of edition query.collection query.instance ≡ Some subject
  pub tally_is : tally ≡ tally_of (document_values (document subject query))
  pub opened_is : opened ≡ length (needed subject query)

abbrev pub MatchCount : Result Count WorkFault → EditionValue → QueryValue → Type 0
MatchCount (Ok count) edition query = IsCount edition query count.tally count.opened
MatchCount (Err (NotFeed refusal)) edition query = ⊥
MatchCount (Err (Refused refusal)) edition query = IsFirstRefusal edition (Ask query) (Some refusal)
MatchCount (Err OutOfMemory) edition query = ⊤

-- the editions of the feed that is made, or why it is none
abbrev pub MatchMade : Result Feed WorkFault → ℕ → Type 0
MatchMade (Ok feed) number = FeedStands (made number) (Ok feed.editions) × IsLog feed.editions
MatchMade (Err (NotFeed refusal)) number = IsMadeNoFeed number refusal
MatchMade (Err (Refused refusal)) number = ⊥
MatchMade (Err OutOfMemory) number = ⊤
