-- How a connection is replayed; for private clauses.
use Rattle.std.specs.Prelude.{◌≡◌, ◌⊎◌, ℕ, true, List, ⊤, Err}
use Rattle.std.specs.declared.option.Option.{Option}
use Rattle.edr_base.specs.Outside.{Rose}
use Rattle.edr_feed.specs.Feeds.{FeedStandsIn}
use Rattle.edr_serve.specs.declared.reports.SessionFault.{SessionFault}
use Rattle.edr_serve.specs.declared.reports.SessionFault.TheVariants as faults
use Rattle.edr.specs.declared.endings.Ending.{Ending}
use Rattle.edr.specs.declared.endings.Ending.TheVariants.{Done, NotFeed, ReadFault, WriteFault, OutOfMemory, OpenFault}
use Rattle.edr.specs.Meanings.{Counts, FileFailed}

-- the cause of an ending where a connection is served: a count that rose
abbrev pub ServeCause : Ending → ℕ → ℕ → ℕ → ℕ → Type 0
ServeCause Done read_before read_after written_before written_after = ⊤
ServeCause ReadFault read_before read_after written_before written_after = Rose read_before read_after
ServeCause WriteFault read_before read_after written_before written_after = Rose written_before written_after
ServeCause OutOfMemory read_before read_after written_before written_after = ⊤
ServeCause ending read_before read_after written_before written_after = ⊥

-- how a run ends with a session that broke off
abbrev pub session_ends : SessionFault → Ending
session_ends faults.ReadFault = ReadFault
session_ends faults.WriteFault = WriteFault
session_ends faults.OutOfMemory = OutOfMemory

-- the cause of an ending where the feed is read before: the file is no feed, or a count rose
abbrev pub ReplayCause : Ending → Option (List ℕ) → Counts → Counts → Type 0
ReplayCause Done feed before after = ⊤
ReplayCause (NotFeed refusal) feed before after = FeedStandsIn feed (Err refusal)
ReplayCause ReadFault feed before after = Rose before.input after.input ⊎ FileFailed before after
ReplayCause WriteFault feed before after = Rose before.output after.output
ReplayCause OutOfMemory feed before after = ⊤
ReplayCause OpenFault feed before after = Rose before.files after.files × (after.closed ≡ true)
ReplayCause ending feed before after = ⊥

-- the connection wasn't come to
abbrev pub IsBefore : Ending → Type 0
IsBefore (NotFeed refusal) = ⊤
IsBefore OpenFault = ⊤
IsBefore ending = ⊥
