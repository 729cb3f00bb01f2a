-- How a run ends that doesn't come to its editions; for private clauses.
use Rattle.std.specs.Prelude.{◌≡◌, ℕ, Bool, true, false, List, ⊤, Err}
use Rattle.std.specs.declared.option.Option.{Option}
use Rattle.edr_base.specs.Outside.{Rose}
use Rattle.edr_feed.specs.Feeds.{FeedStandsIn}
use Rattle.edr_feed.specs.declared.faults.FeedFault.{FeedFault}
use Rattle.edr_feed.specs.declared.faults.FeedFault.TheVariants as faults
use Rattle.edr_feed.specs.declared.refusals.FeedRefusal.TheVariants as refusals
use Rattle.edrd.specs.declared.endings.Ending.{Ending}
use Rattle.edrd.specs.declared.endings.Ending.TheVariants.{NotFeed, ReadFault, OutOfMemory, OpenFault}

-- how a run ends where the feed isn't read
abbrev pub ending_of : FeedFault → Ending
ending_of faults.ReadFault = ReadFault
ending_of faults.TooLong = NotFeed refusals.TooLong
ending_of (faults.LineTooLong line) = NotFeed (refusals.LineTooLong line)
ending_of (faults.NotJson line) = NotFeed (refusals.NotJson line)
ending_of (faults.NotFeedLine line) = NotFeed (refusals.NotFeedLine line)
ending_of (faults.Cov line fault) = NotFeed (refusals.Cov line)
ending_of (faults.Change line fault) = NotFeed (refusals.Change line)
ending_of faults.NothingPublished = NotFeed refusals.NothingPublished
ending_of faults.OutOfMemory = OutOfMemory

-- the cause of an ending where there are no editions: the file is no feed, or the count of the files rose
abbrev pub IsCause : Ending → Option (List ℕ) → ℕ → ℕ → Bool → Type 0
IsCause (NotFeed refusal) content before after idle = FeedStandsIn content (Err refusal)
IsCause ReadFault content before after idle = Rose before after × (idle ≡ false)
IsCause OutOfMemory content before after idle = ⊤
IsCause OpenFault content before after idle = Rose before after × (idle ≡ true)
IsCause ending content before after idle = ⊥
