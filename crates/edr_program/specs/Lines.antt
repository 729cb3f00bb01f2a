-- The line that tells how a run ended.
use Rattle.std.specs.Prelude.{ℕ, ◌++◌, List, [], codes, Result, IsErrOf, None, Some}
use Rattle.std.specs.declared.option.Option.{Option}
use Rattle.std.specs.Fmt.{decimal}
use Rattle.edr_base.specs.Outside.{Rose}
use Rattle.edr_base.specs.Calls.{Writes}
use Rattle.edr_base.specs.declared.sending.SendFault.{SendFault}
use Rattle.edr_base.specs.declared.sending.SendFault.TheVariants.{WriteFault}
use Rattle.edr_feed.specs.declared.refusals.FeedRefusal.{FeedRefusal}
use Rattle.edr_feed.specs.declared.refusals.FeedRefusal.TheVariants.{TooLong, LineTooLong, NotJson, NotFeedLine, Cov, Change, NothingPublished}

-- a line of the feed
abbrev pub at_line : ℕ → List ℕ
at_line line = codes " line " ++ decimal line

-- the name of a refusal, and the line where it has one
abbrev pub name_of : FeedRefusal → List ℕ
name_of TooLong = codes "TooLong"
name_of (LineTooLong line) = codes "LineTooLong" ++ at_line line
name_of (NotJson line) = codes "NotJson" ++ at_line line
name_of (NotFeedLine line) = codes "NotFeedLine" ++ at_line line
name_of (Cov line) = codes "Cov" ++ at_line line
name_of (Change line) = codes "Change" ++ at_line line
name_of NothingPublished = codes "NothingPublished"

-- what is said where a feed is refused
abbrev pub feed_said : FeedRefusal → List ℕ
feed_said refusal = codes "feed: " ++ name_of refusal

-- a text was written, or a beginning of it: then a fault of that sink was counted, or memory was wanting
pub record Tells (text : List ℕ) (old new : Option (List ℕ)) (before after : ℕ) : Type 0 where
  pub outcome : Result (Unit {0}) SendFault
  pub writes : Writes outcome text old new
  pub cause : IsErrOf outcome WriteFault → Rose before after

-- ---- for clauses that join them

-- a line of the feed, where one is named
abbrev pub place_of : Option ℕ → List ℕ
place_of None = []
place_of (Some line) = at_line line
