-- How a run ends that serves a connection.
use Rattle.std.proofs.Common.{◌≡◌, ℕ, ◌≤◌, Bool, true, List, Some, Ok, Err, IfSome, inl, inr, refl, arith}
use Rattle.std.specs.declared.option.Option.{Option}
use Rattle.std.specs.Prelude.{Result}
use Rattle.edr_base.specs.Outside.{Rose}
use Rattle.edr_base.specs.declared.refusals.Refusal.{Refusal}
use Rattle.edr_base.specs.Calls.{IsFlushed, WrittenWhole, WrittenInPart}
use Rattle.edr_edition.specs.Values.{EditionValue}
use Rattle.edr_feed.specs.Feeds.{FeedStandsIn}
use Rattle.edr_feed.specs.Refusals.{refusal_of}
use Rattle.edr_feed.specs.declared.faults.FeedFault.{FeedFault}
use Rattle.edr_feed.specs.declared.faults.FeedFault.TheVariants as feeds
use Rattle.edr_serve.specs.declared.reports.SessionFault.{SessionFault}
use Rattle.edr_serve.specs.declared.reports.SessionFault.TheVariants as faults
use Rattle.edr.specs.declared.endings.Ending.{Ending}
use Rattle.edr.specs.declared.endings.Ending.TheVariants.{Done, Usage, NotFeed, ReadFault, WriteFault, OutOfMemory, Refused, NoDocument, ConnectFault, OpenFault, NoTable}
use Rattle.edr.specs.Checking.{fault_ends}
use Rattle.edr.specs.Replays.{IsReplayOf, IsReplayBegun, AreReplies, AreBegun}
use Rattle.edr.specs.Asking.{AnswerCause}
use Rattle.edr.specs.Making.{MakeCause}
use Rattle.edr.specs.Meanings.{Counts, FileFailed}
use Rattle.edr.specs.Ends.{OutputEnds, IsReadByEnd, AtReadFault}
use Rattle.edr.specs.Settling.{Settles}
use Rattle.edr.specs.Replaying.{ServeCause, ReplayCause, IsBefore, session_ends}
use Rattle.edr.proofs.ReplayLemmas.{stands_opened}

-- ---- a session broke off

pub broken_output : (fault : SessionFault) (Whole Begun : List ℕ → Type 0) (old new : Option (List ℕ)) (flushed : Option ℕ) → WrittenInPart Begun old new
    → OutputEnds (session_ends fault) true Whole Begun old new flushed
broken_output faults.ReadFault Whole Begun old new flushed part = inr part
broken_output faults.WriteFault Whole Begun old new flushed part = part
broken_output faults.OutOfMemory Whole Begun old new flushed part = inr part

pub broken_cause : (fault : SessionFault) (r r' w w' : ℕ) → (fault ≡ faults.ReadFault → Rose r r') → (fault ≡ faults.WriteFault → Rose w w') → ServeCause (session_ends fault) r r' w w'
broken_cause faults.ReadFault r r' w w' f g = f refl
broken_cause faults.WriteFault r r' w w' f g = g refl
broken_cause faults.OutOfMemory r r' w w' f g = tt

pub broken_begun : (fault : SessionFault) → ¬ (IsBefore (session_ends fault))
broken_begun faults.ReadFault x = x
broken_begun faults.WriteFault x = x
broken_begun faults.OutOfMemory x = x

pub broken_read : (fault : SessionFault) (Far : Type 0) → IsReadByEnd (session_ends fault) Far
broken_read faults.ReadFault Far = tt
broken_read faults.WriteFault Far = tt
broken_read faults.OutOfMemory Far = tt

-- ---- all was written

pub settled_output : (ending : Ending) (early : Bool) (before after : ℕ) (Whole Begun : List ℕ → Type 0) (old new : Option (List ℕ)) (flushed : Option ℕ) → Settles ending before after new flushed
    → (IsFlushed new flushed → WrittenWhole Whole old new flushed) → WrittenInPart Begun old new → OutputEnds ending early Whole Begun old new flushed
settled_output Done early before after Whole Begun old new flushed s whole part = whole s
settled_output Usage early before after Whole Begun old new flushed s whole part = absurd s
settled_output (NotFeed refusal) early before after Whole Begun old new flushed s whole part = absurd s
settled_output ReadFault early before after Whole Begun old new flushed s whole part = absurd s
settled_output WriteFault early before after Whole Begun old new flushed s whole part = part
settled_output OutOfMemory early before after Whole Begun old new flushed s whole part = inr part
settled_output (Refused refusal) early before after Whole Begun old new flushed s whole part = absurd s
settled_output (NoDocument refusal) early before after Whole Begun old new flushed s whole part = absurd s
settled_output ConnectFault early before after Whole Begun old new flushed s whole part = absurd s
settled_output OpenFault early before after Whole Begun old new flushed s whole part = absurd s
settled_output (NoTable refusal) early before after Whole Begun old new flushed s whole part = absurd s

pub rose_earlier : (first before after : ℕ) → first ≤ before → Rose before after → Rose first after
rose_earlier first before after h x = omega (arith, h, x)

pub settled_cause : (ending : Ending) (r r' first before after : ℕ) (new : Option (List ℕ)) (flushed : Option ℕ) → first ≤ before → Settles ending before after new flushed → ServeCause ending r r' first after
settled_cause Done r r' first before after new flushed h s = tt
settled_cause Usage r r' first before after new flushed h s = s
settled_cause (NotFeed refusal) r r' first before after new flushed h s = s
settled_cause ReadFault r r' first before after new flushed h s = absurd s
settled_cause WriteFault r r' first before after new flushed h s = rose_earlier first before after h s
settled_cause OutOfMemory r r' first before after new flushed h s = tt
settled_cause (Refused refusal) r r' first before after new flushed h s = s
settled_cause (NoDocument refusal) r r' first before after new flushed h s = s
settled_cause ConnectFault r r' first before after new flushed h s = s
settled_cause OpenFault r r' first before after new flushed h s = s
settled_cause (NoTable refusal) r r' first before after new flushed h s = s

pub settled_answer : (ending : Ending) (IsThe : Result (List ℕ) Refusal → Type 0) (first before after : ℕ) (new : Option (List ℕ)) (flushed : Option ℕ) → first ≤ before
    → Settles ending before after new flushed → AnswerCause ending IsThe first after
settled_answer Done IsThe first before after new flushed h s = tt
settled_answer Usage IsThe first before after new flushed h s = s
settled_answer (NotFeed refusal) IsThe first before after new flushed h s = s
settled_answer ReadFault IsThe first before after new flushed h s = s
settled_answer WriteFault IsThe first before after new flushed h s = rose_earlier first before after h s
settled_answer OutOfMemory IsThe first before after new flushed h s = tt
settled_answer (Refused refusal) IsThe first before after new flushed h s = absurd s
settled_answer (NoDocument refusal) IsThe first before after new flushed h s = absurd s
settled_answer ConnectFault IsThe first before after new flushed h s = s
settled_answer OpenFault IsThe first before after new flushed h s = s
settled_answer (NoTable refusal) IsThe first before after new flushed h s = s

pub settled_make : (ending : Ending) (first before after : ℕ) (new : Option (List ℕ)) (flushed : Option ℕ) → first ≤ before → Settles ending before after new flushed → MakeCause ending first after
settled_make Done first before after new flushed h s = tt
settled_make Usage first before after new flushed h s = s
settled_make (NotFeed refusal) first before after new flushed h s = s
settled_make ReadFault first before after new flushed h s = s
settled_make WriteFault first before after new flushed h s = rose_earlier first before after h s
settled_make OutOfMemory first before after new flushed h s = tt
settled_make (Refused refusal) first before after new flushed h s = s
settled_make (NoDocument refusal) first before after new flushed h s = s
settled_make ConnectFault first before after new flushed h s = s
settled_make OpenFault first before after new flushed h s = s
settled_make (NoTable refusal) first before after new flushed h s = s

pub settled_begun : (ending : Ending) (before after : ℕ) (new : Option (List ℕ)) (flushed : Option ℕ) → Settles ending before after new flushed → ¬ (IsBefore ending)
settled_begun Done before after new flushed s x = x
settled_begun Usage before after new flushed s x = x
settled_begun (NotFeed refusal) before after new flushed s x = s
settled_begun ReadFault before after new flushed s x = x
settled_begun WriteFault before after new flushed s x = x
settled_begun OutOfMemory before after new flushed s x = x
settled_begun (Refused refusal) before after new flushed s x = x
settled_begun (NoDocument refusal) before after new flushed s x = x
settled_begun ConnectFault before after new flushed s x = s
settled_begun OpenFault before after new flushed s x = s
settled_begun (NoTable refusal) before after new flushed s x = s

pub read_so_far : (ending : Ending) (Far : Type 0) → Far → IsReadByEnd ending Far
read_so_far Done Far x = x
read_so_far Usage Far x = tt
read_so_far (NotFeed refusal) Far x = tt
read_so_far ReadFault Far x = tt
read_so_far WriteFault Far x = tt
read_so_far OutOfMemory Far x = tt
read_so_far (Refused refusal) Far x = tt
read_so_far (NoDocument refusal) Far x = tt
read_so_far ConnectFault Far x = tt
read_so_far OpenFault Far x = tt
read_so_far (NoTable refusal) Far x = tt

-- ---- a read failed

pub broken_waits : (fault : SessionFault) (So : Type 0) → (fault ≡ faults.ReadFault → So) → AtReadFault (session_ends fault) So
broken_waits faults.ReadFault So f = f refl
broken_waits faults.WriteFault So f = tt
broken_waits faults.OutOfMemory So f = tt

pub settled_waits : (ending : Ending) (before after : ℕ) (new : Option (List ℕ)) (flushed : Option ℕ) (So : Type 0) → Settles ending before after new flushed → AtReadFault ending So
settled_waits Done before after new flushed So s = tt
settled_waits Usage before after new flushed So s = tt
settled_waits (NotFeed refusal) before after new flushed So s = tt
settled_waits ReadFault before after new flushed So s = absurd s
settled_waits WriteFault before after new flushed So s = tt
settled_waits OutOfMemory before after new flushed So s = tt
settled_waits (Refused refusal) before after new flushed So s = tt
settled_waits (NoDocument refusal) before after new flushed So s = tt
settled_waits ConnectFault before after new flushed So s = tt
settled_waits OpenFault before after new flushed So s = tt
settled_waits (NoTable refusal) before after new flushed So s = tt

pub waits_more : (ending : Ending) (So More : Type 0) → (So → More) → AtReadFault ending So → AtReadFault ending More
waits_more Done So More f x = tt
waits_more Usage So More f x = tt
waits_more (NotFeed refusal) So More f x = tt
waits_more ReadFault So More f x = f x
waits_more WriteFault So More f x = tt
waits_more OutOfMemory So More f x = tt
waits_more (Refused refusal) So More f x = tt
waits_more (NoDocument refusal) So More f x = tt
waits_more ConnectFault So More f x = tt
waits_more OpenFault So More f x = tt
waits_more (NoTable refusal) So More f x = tt

pub waits_any : (ending : Ending) (So : Type 0) → So → AtReadFault ending So
waits_any Done So x = tt
waits_any Usage So x = tt
waits_any (NotFeed refusal) So x = tt
waits_any ReadFault So x = x
waits_any WriteFault So x = tt
waits_any OutOfMemory So x = tt
waits_any (Refused refusal) So x = tt
waits_any (NoDocument refusal) So x = tt
waits_any ConnectFault So x = tt
waits_any OpenFault So x = tt
waits_any (NoTable refusal) So x = tt

-- ---- the feed in the file

whole_replay : (advances : Bool) (editions : List EditionValue) (feed input old new : Option (List ℕ)) (flushed : Option ℕ) → FeedStandsIn feed (Ok editions)
    → WrittenWhole (AreReplies advances editions input) old new flushed → WrittenWhole (IsReplayOf advances feed input) old new flushed
whole_replay advances editions feed input old new flushed stands o =
    record { text = o.text; is = record { editions = editions; published = stands; replies = o.is }; grew = o.grew; settled = o.settled }

part_replay : (advances : Bool) (editions : List EditionValue) (feed input old new : Option (List ℕ)) → FeedStandsIn feed (Ok editions)
    → WrittenInPart (AreBegun advances editions input) old new → WrittenInPart (IsReplayBegun advances feed input) old new
part_replay advances editions feed input old new stands o =
    record { text = o.text; is = record { editions = editions; published = stands; replies = o.is }; front = o.front }

pub replay_output : (ending : Ending) (advances : Bool) (editions : List EditionValue) (content left input old new : Option (List ℕ)) (flushed : Option ℕ)
    → IfSome content (λ told. left ≡ Some told) → FeedStandsIn left (Ok editions)
    → OutputEnds ending true (AreReplies advances editions input) (AreBegun advances editions input) old new flushed
    → OutputEnds ending true (IsReplayOf advances content input) (IsReplayBegun advances content input) old new flushed
replay_output Done advances editions content left input old new flushed h x o = whole_replay advances editions content input old new flushed (stands_opened content left (Ok editions) h x) o
replay_output Usage advances editions content left input old new flushed h x o = o
replay_output (NotFeed refusal) advances editions content left input old new flushed h x o = o
replay_output ReadFault advances editions content left input old new flushed h x (inl o) = inl o
replay_output ReadFault advances editions content left input old new flushed h x (inr o) = inr (part_replay advances editions content input old new (stands_opened content left (Ok editions) h x) o)
replay_output WriteFault advances editions content left input old new flushed h x o = part_replay advances editions content input old new (stands_opened content left (Ok editions) h x) o
replay_output OutOfMemory advances editions content left input old new flushed h x (inl o) = inl o
replay_output OutOfMemory advances editions content left input old new flushed h x (inr o) = inr (part_replay advances editions content input old new (stands_opened content left (Ok editions) h x) o)
replay_output (Refused refusal) advances editions content left input old new flushed h x o = o
replay_output (NoDocument refusal) advances editions content left input old new flushed h x o = o
replay_output ConnectFault advances editions content left input old new flushed h x o = o
replay_output OpenFault advances editions content left input old new flushed h x o = o
replay_output (NoTable refusal) advances editions content left input old new flushed h x o = o

-- the file is no feed, or a read of it failed
pub fault_cause : (fault : FeedFault) (content left : Option (List ℕ)) (before after : Counts) → IfSome content (λ told. left ≡ Some told)
    → IfSome (refusal_of fault) (λ refusal. FeedStandsIn left (Err refusal)) → (fault ≡ feeds.ReadFault → FileFailed before after) → ReplayCause (fault_ends fault) content before after
fault_cause feeds.ReadFault content left before after h x f = inr (f refl)
fault_cause feeds.TooLong content left before after h x f = stands_opened content left (Err _) h x
fault_cause (feeds.LineTooLong line) content left before after h x f = stands_opened content left (Err _) h x
fault_cause (feeds.NotJson line) content left before after h x f = stands_opened content left (Err _) h x
fault_cause (feeds.NotFeedLine line) content left before after h x f = stands_opened content left (Err _) h x
fault_cause (feeds.Cov line inner) content left before after h x f = stands_opened content left (Err _) h x
fault_cause (feeds.Change line inner) content left before after h x f = stands_opened content left (Err _) h x
fault_cause feeds.NothingPublished content left before after h x f = stands_opened content left (Err _) h x
fault_cause feeds.OutOfMemory content left before after h x f = tt
