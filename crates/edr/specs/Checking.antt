-- How a feed is told of; for private clauses.
use Rattle.std.specs.Prelude.{ℕ, List, ⊤, Err}
use Rattle.std.specs.declared.option.Option.{Option}
use Rattle.edr_base.specs.Outside.{Rose}
use Rattle.edr_feed.specs.Feeds.{FeedStandsIn}
use Rattle.edr_feed.specs.declared.faults.FeedFault.{FeedFault}
use Rattle.edr_feed.specs.declared.faults.FeedFault.TheVariants as faults
use Rattle.edr_feed.specs.declared.refusals.FeedRefusal.TheVariants as refusals
use Rattle.edr.specs.declared.endings.Ending.{Ending}
use Rattle.edr.specs.declared.endings.Ending.TheVariants.{Done, NotFeed, ReadFault, WriteFault, OutOfMemory}

-- how a run ends where the feed isn't read
abbrev pub fault_ends : FeedFault → Ending
fault_ends faults.ReadFault = ReadFault
fault_ends faults.TooLong = NotFeed refusals.TooLong
fault_ends (faults.LineTooLong line) = NotFeed (refusals.LineTooLong line)
fault_ends (faults.NotJson line) = NotFeed (refusals.NotJson line)
fault_ends (faults.NotFeedLine line) = NotFeed (refusals.NotFeedLine line)
fault_ends (faults.Cov line fault) = NotFeed (refusals.Cov line)
fault_ends (faults.Change line fault) = NotFeed (refusals.Change line)
fault_ends faults.NothingPublished = NotFeed refusals.NothingPublished
fault_ends faults.OutOfMemory = OutOfMemory

-- the cause of an ending: the input is no feed, or a count rose
abbrev pub CheckCause : Ending → Option (List ℕ) → ℕ → ℕ → ℕ → ℕ → Type 0
CheckCause Done input read_before read_after written_before written_after = ⊤
CheckCause (NotFeed refusal) input read_before read_after written_before written_after = FeedStandsIn input (Err refusal)
CheckCause ReadFault input read_before read_after written_before written_after = Rose read_before read_after
CheckCause WriteFault input read_before read_after written_before written_after = Rose written_before written_after
CheckCause OutOfMemory input read_before read_after written_before written_after = ⊤
CheckCause ending input read_before read_after written_before written_after = ⊥
