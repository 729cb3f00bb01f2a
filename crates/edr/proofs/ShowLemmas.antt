-- Documents in the input, and in what a peer gives.
use Rattle.std.proofs.Common.{◌≡◌, ◌∙◌, ℕ, inl, inr, List, [], ◌++◌, Ok, Err, None, Some, IfSome, false, refl, sym, ap, subst, append-nil}
use Rattle.std.specs.declared.option.Option.{Option}
use Rattle.edr_base.specs.Calls.{ReadsAll}
use Rattle.edr_base.specs.KnownBytes.{front_none}
use Rattle.covjson_value.specs.Coverages.{IsValidDocument}
use Rattle.edr_http.specs.Heads.{Told}
use Rattle.edr_reply.specs.Messages.{HasNoMessage}
use Rattle.edr_client.specs.declared.replies.Reply.{Reply}
use Rattle.edr_client.specs.Replies.{IsReply, IsNotData, IsNoDocument, IsLeft}
use Rattle.edr_table.specs.Tables.{table_of}
use Rattle.edr_fetch.specs.declared.fetching.FetchFault.{FetchFault}
use Rattle.edr_fetch.specs.declared.fetching.FetchFault.TheVariants as fetches
use Rattle.edr_fetch.specs.Exchanges.{LinkMoment, IsSent, Halted, Heard, Exchanged}
use Rattle.edr.specs.declared.endings.Ending.{Ending}
use Rattle.edr.specs.declared.endings.Ending.TheVariants.{Done, Usage, NotFeed, ReadFault, WriteFault, OutOfMemory, Refused, NoDocument, ConnectFault, OpenFault, NoTable}
use Rattle.edr.specs.Documents.{OfInput, IsTableHeard, IsTableBegun}
use Rattle.edr.specs.Meanings.{Counts}
use Rattle.edr.specs.Ends.{OutputEnds}
use Rattle.edr.specs.Links.{LinkEnds, IsTaken, IsBroken}
use Rattle.edr.specs.Making.{MakeCause}
use Rattle.edr.specs.Fetching.{FetchCause, fetch_ends}

-- ---- in the input

-- what was read to the end of the input is the input
pub of_all : (P : List ℕ → Type 0) (bytes : List ℕ) (limit : ℕ) (old new : Option (List ℕ)) → ReadsAll bytes limit old new → P bytes → OfInput P old
of_all P bytes limit None new read p = (bytes, p)
of_all P bytes limit (Some all) None read p = let none : Some all ≡ None = read.read in absurd cc
of_all P bytes limit (Some all) (Some rest) read p =
    let whole : Some all ≡ Some (bytes ++ rest) = read.read in
    let ended : rest ≡ [] = read.ended in
    let same : all ≡ bytes = let e : all ≡ bytes ++ rest = cc in e ∙ (ap (λ w. bytes ++ w) ended ∙ append-nil bytes) in
    subst P (sym same) p

-- ---- in what a peer gives

told_map : (P Q : List ℕ → List ℕ → Type 0) (incoming left : Option (List ℕ)) → ((bytes rest : List ℕ) → P bytes rest → Q bytes rest) → Told P incoming left → Told Q incoming left
told_map P Q None left f t = tt
told_map P Q (Some bytes) None f t = t
told_map P Q (Some bytes) (Some rest) f t = f bytes rest t

pub told_some : (P : List ℕ → List ℕ → Type 0) (Q : List ℕ → Type 0) (incoming left : Option (List ℕ)) → ((bytes rest : List ℕ) → P bytes rest → Q bytes) → Told P incoming left → IfSome incoming Q
told_some P Q None left f t = tt
told_some P Q (Some bytes) None f t = absurd t
told_some P Q (Some bytes) (Some rest) f t = f bytes rest t

-- the table of a reply
pub table_heard : (reply : Reply) (incoming left : Option (List ℕ)) → Heard (Ok reply) incoming left → IsValidDocument reply.document
    → (text : List ℕ) → text ≡ table_of reply.document → IsTableHeard incoming text
table_heard reply None left heard valid text e = (reply.document, valid, e)
table_heard reply (Some bytes) None heard valid text e = absurd heard
table_heard reply (Some bytes) (Some rest) (more, is_reply, few) valid text e = record { reply = reply; rest = more ++ rest; is_reply = is_reply; text_is = e }

-- a reply was read whole
pub reply_taken : (reply : Reply) (incoming left : Option (List ℕ)) → Heard (Ok reply) incoming left → IsTaken incoming left
reply_taken reply incoming left heard =
    told_map (λ bytes rest. IsLeft (IsReply bytes reply) rest) _ incoming left (λ bytes rest l. (l.1.message, (l.0, l.1.is_message, l.2))) heard

-- how the link is left where the table is written
pub table_link : (ending : Ending) (text : List ℕ) (incoming : Option (List ℕ)) (output output' : ℕ) (before after : LinkMoment) → MakeCause ending output output'
    → IsSent text incoming before after → IsTaken incoming after.left → LinkEnds ending text incoming output output' before after
table_link Done text incoming output output' before after cause sent taken = (sent, taken)
table_link Usage text incoming output output' before after cause sent taken = cause
table_link (NotFeed refusal) text incoming output output' before after cause sent taken = cause
table_link ReadFault text incoming output output' before after cause sent taken = absurd cause
table_link WriteFault text incoming output output' before after cause sent taken = inl (sent, taken, cause)
table_link OutOfMemory text incoming output output' before after cause sent taken = inr (inr (inr sent))
table_link (Refused refusal) text incoming output output' before after cause sent taken = cause
table_link (NoDocument refusal) text incoming output output' before after cause sent taken = absurd cause
table_link ConnectFault text incoming output output' before after cause sent taken = absurd cause
table_link OpenFault text incoming output output' before after cause sent taken = cause
table_link (NoTable refusal) text incoming output output' before after cause sent taken = cause

-- ---- no reply of data was read

pub fault_output : (fault : FetchFault) (incoming old : Option (List ℕ)) (flushed : Option ℕ) → OutputEnds (fetch_ends fault) false (IsTableHeard incoming) (IsTableBegun incoming) old old flushed
fault_output fetches.ConnectFault incoming old flushed = refl
fault_output fetches.WriteFault incoming old flushed = record { text = []; is = inl refl; front = front_none old old [] refl }
fault_output fetches.ReadFault incoming old flushed = refl
fault_output (fetches.BadReply place) incoming old flushed = refl
fault_output (fetches.NotData status code) incoming old flushed = refl
fault_output (fetches.Cov inner) incoming old flushed = refl
fault_output fetches.OutOfMemory incoming old flushed = inl refl

none_heard : (A B : List ℕ → Type 0) (incoming : Option (List ℕ)) → IfSome incoming (λ bytes. A bytes × HasNoMessage bytes × B bytes) → IfSome incoming HasNoMessage
none_heard A B None heard = tt
none_heard A B (Some bytes) heard = heard.1

pub fault_cause : (fault : FetchFault) (url text : List ℕ) (incoming left : Option (List ℕ)) (before after : LinkMoment) (counts counts' : Counts)
    → Exchanged (Err fault) text incoming before after → Heard (Err fault) incoming left
    → counts.link ≡ before.faults → counts'.link ≡ after.faults → counts'.unconnected ≡ after.idle → FetchCause (fetch_ends fault) url incoming counts counts'
fault_cause fetches.ConnectFault url text incoming left before after counts counts' exchanged heard a b c = rw (a, b, c) (exchanged.1, exchanged.0.idle)
fault_cause fetches.WriteFault url text incoming left before after counts counts' exchanged heard a b c = inr (rw (a, b, c) (exchanged.1, exchanged.0.connected))
fault_cause fetches.ReadFault url text incoming left before after counts counts' exchanged heard a b c = rw (a, b, c) (exchanged.1, exchanged.0.connected)
fault_cause (fetches.BadReply place) url text incoming left before after counts counts' exchanged heard a b c = none_heard _ _ incoming heard
fault_cause (fetches.NotData status code) url text incoming left before after counts counts' exchanged heard a b c =
    told_some (λ bytes rest. IsLeft (IsNotData bytes status code) rest) _ incoming left
    (λ bytes rest l. (l.1.other, record { message = l.1.message; rest = l.0 ++ rest; is_message = l.1.is_message; status_is = l.1.status_is })) heard
fault_cause (fetches.Cov inner) url text incoming left before after counts counts' exchanged heard a b c =
    told_some (λ bytes rest. IsLeft (IsNoDocument bytes inner) rest) _ incoming left
    (λ bytes rest l. record { message = l.1.message; rest = l.0 ++ rest; is_message = l.1.is_message; status_is = l.1.status; none = l.1.none }) heard
fault_cause fetches.OutOfMemory url text incoming left before after counts counts' exchanged heard a b c = tt

-- however far it came, memory may be wanting behind it
pub halted_anyway : (fault : FetchFault) (text : List ℕ) (incoming : Option (List ℕ)) (before after : LinkMoment) → Exchanged (Err fault) text incoming before after
    → Halted text incoming before after
halted_anyway fetches.ConnectFault text incoming before after exchanged = inr (inl exchanged.0)
halted_anyway fetches.WriteFault text incoming before after exchanged = inr (inr (inl exchanged.0))
halted_anyway fetches.ReadFault text incoming before after exchanged = inr (inr (inr exchanged.0))
halted_anyway (fetches.BadReply place) text incoming before after exchanged = inr (inr (inr exchanged))
halted_anyway (fetches.NotData status code) text incoming before after exchanged = inr (inr (inr exchanged))
halted_anyway (fetches.Cov inner) text incoming before after exchanged = inr (inr (inr exchanged))
halted_anyway fetches.OutOfMemory text incoming before after exchanged = exchanged

-- where a reply breaks off
broken_heard : (place : ℕ) (incoming left : Option (List ℕ)) → Heard (Err (fetches.BadReply place)) incoming left → IsBroken incoming left
broken_heard place None left heard = tt
broken_heard place (Some bytes) left (first, none, near) = (place, first, near)

pub fault_link : (fault : FetchFault) (text : List ℕ) (incoming : Option (List ℕ)) (output output' : ℕ) (before after : LinkMoment)
    → Exchanged (Err fault) text incoming before after → Heard (Err fault) incoming after.left → LinkEnds (fetch_ends fault) text incoming output output' before after
fault_link fetches.ConnectFault text incoming output output' before after exchanged heard = exchanged
fault_link fetches.WriteFault text incoming output output' before after exchanged heard = inr exchanged
fault_link fetches.ReadFault text incoming output output' before after exchanged heard = (exchanged.0, exchanged.1, heard)
fault_link (fetches.BadReply place) text incoming output output' before after exchanged heard = (exchanged, broken_heard place incoming after.left heard)
fault_link (fetches.NotData status code) text incoming output output' before after exchanged heard = (
  exchanged,
  told_map (λ bytes rest. IsLeft (IsNotData bytes status code) rest) _ incoming after.left (λ bytes rest l. (l.1.message, (l.0, l.1.is_message, l.2))) heard,
)
fault_link (fetches.Cov inner) text incoming output output' before after exchanged heard = (
  exchanged,
  told_map (λ bytes rest. IsLeft (IsNoDocument bytes inner) rest) _ incoming after.left (λ bytes rest l. (l.1.message, (l.0, l.1.is_message, l.2))) heard,
)
fault_link fetches.OutOfMemory text incoming output output' before after exchanged heard = exchanged
