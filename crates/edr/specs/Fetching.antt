-- How a URL is fetched; for private clauses.
use Rattle.std.specs.Prelude.{◌≡◌, ◌⊎◌, ℕ, true, List, IsNone, ⊤}
use Rattle.std.specs.declared.option.Option.{Option}
use Rattle.edr_base.specs.Outside.{Rose}
use Rattle.edr_fetch.specs.Requests.{request_of}
use Rattle.edr_fetch.specs.declared.fetching.FetchFault.{FetchFault}
use Rattle.edr_fetch.specs.declared.fetching.FetchFault.TheVariants as fetches
use Rattle.edr.specs.declared.endings.DocumentRefusal.TheVariants.{Cov, BadReply, NotData}
use Rattle.edr.specs.declared.endings.Ending.{Ending}
use Rattle.edr.specs.declared.endings.Ending.TheVariants.{Done, Usage, NotFeed, ReadFault, WriteFault, OutOfMemory, Refused, NoDocument, ConnectFault, OpenFault, NoTable}
use Rattle.edr.specs.Documents.{IsNoReplyHeard}
use Rattle.edr.specs.Meanings.{Counts, LinkFailed}

-- how a run ends where no reply of data is read
abbrev pub fetch_ends : FetchFault → Ending
fetch_ends fetches.ConnectFault = ConnectFault
fetch_ends fetches.WriteFault = WriteFault
fetch_ends fetches.ReadFault = ReadFault
fetch_ends (fetches.BadReply place) = NoDocument BadReply
fetch_ends (fetches.NotData status code) = NoDocument (NotData status)
fetch_ends (fetches.Cov fault) = NoDocument Cov
fetch_ends fetches.OutOfMemory = OutOfMemory

-- the cause of an ending: the word is no URL, a count rose, or the peer gives no reply of data
abbrev pub FetchCause : Ending → List ℕ → Option (List ℕ) → Counts → Counts → Type 0
FetchCause Done url incoming before after = ⊤
FetchCause Usage url incoming before after = IsNone (request_of url)
FetchCause ReadFault url incoming before after = LinkFailed before after
FetchCause WriteFault url incoming before after = Rose before.output after.output ⊎ LinkFailed before after
FetchCause OutOfMemory url incoming before after = ⊤
FetchCause (NoDocument refusal) url incoming before after = IsNoReplyHeard incoming refusal
FetchCause ConnectFault url incoming before after = Rose before.link after.link × (after.unconnected ≡ true)
FetchCause ending url incoming before after = ⊥

-- the output wasn't come to
abbrev pub IsBeforeOutput : Ending → Type 0
IsBeforeOutput Done = ⊥
IsBeforeOutput Usage = ⊤
IsBeforeOutput (NotFeed refusal) = ⊤
IsBeforeOutput ReadFault = ⊤
IsBeforeOutput WriteFault = ⊥
IsBeforeOutput OutOfMemory = ⊥
IsBeforeOutput (Refused refusal) = ⊤
IsBeforeOutput (NoDocument refusal) = ⊤
IsBeforeOutput ConnectFault = ⊤
IsBeforeOutput OpenFault = ⊤
IsBeforeOutput (NoTable refusal) = ⊤
