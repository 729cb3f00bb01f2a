-- How a request is exchanged for a reply over a link: what is written, what is read, and in which order.
use Rattle.std.specs.Prelude.{◌≡◌, ◌⊎◌, ℕ, ◌+◌, ◌≤◌, Bool, true, false, List, [], ◌∷◌, ◌++◌, IfSome, Result, Ok, Err, Some, ⊤, option_map}
use Rattle.std.specs.declared.option.Option.{Option}
use Rattle.std.specs.Io.KnownBytes.{append_known, IsAtEnd}
use Rattle.edr_base.specs.Outside.{Aside, Asked, Rose}
use Rattle.edr_base.specs.Calls.{Front, IsFlushed, ReadsAtMost}
use Rattle.edr_http.specs.Heads.{Told}
use Rattle.edr_reply.specs.Messages.{HasNoMessage, BreaksOff, most_beyond, most_read}
use Rattle.edr_reply.specs.BrokenParts.{IsFirstBreak}
use Rattle.edr_client.specs.declared.replies.Reply.{Reply}
use Rattle.edr_client.specs.Replies.{IsReply, IsNotData, IsNoDocument, IsLeft}
use Rattle.edr_fetch.specs.declared.fetching.FetchFault.{FetchFault}
use Rattle.edr_fetch.specs.declared.fetching.FetchFault.TheVariants.{ConnectFault, WriteFault, ReadFault, BadReply, NotData, Cov, OutOfMemory}

-- what is told of a link at a moment
pub record LinkMoment : Type 0 where
  pub idle : Bool  -- whether nothing is connected
  pub left : Option (List ℕ)  -- what is still to come from the peer
  pub written : Option (List ℕ)  -- what is written to it
  pub flushed : Option ℕ  -- how much of it is flushed
  pub faults : ℕ  -- the count of faults

-- ---- how far an exchange came

-- no peer was connected to, and nothing was written
pub record IsUnconnected (before after : LinkMoment) : Type 0 where
  pub idle : after.idle ≡ true
  pub unwritten : after.written ≡ before.written
  pub unflushed : after.flushed ≡ before.flushed

-- a peer was connected to that gives `incoming`; a beginning of the request was written, perhaps all of it, but none of it was
-- flushed; nothing was read
pub record IsUnsent (text : List ℕ) (incoming : Option (List ℕ)) (before after : LinkMoment) : Type 0 where
  pub connected : after.idle ≡ false
  pub front : Front text before.written after.written
  pub unflushed : after.flushed ≡ before.flushed
  pub unread : IfSome incoming (λ bytes. after.left ≡ Some bytes)

-- a peer was connected to that gives `incoming`; the request was written whole, and flushed; no more was read than of a reply
pub record IsSent (text : List ℕ) (incoming : Option (List ℕ)) (before after : LinkMoment) : Type 0 where
  pub connected : after.idle ≡ false
  pub whole : after.written ≡ append_known before.written text
  pub flushed : IsFlushed after.written after.flushed
  pub read : IfSome incoming (λ bytes. ReadsAtMost most_read (Some bytes) after.left)

-- memory was wanting at some step: how far it came. Nothing was done, or it stands at one of the moments above
abbrev pub Halted : List ℕ → Option (List ℕ) → LinkMoment → LinkMoment → Type 0
Halted text incoming before after =
    (after ≡ before) ⊎ (IsUnconnected before after ⊎ (IsUnsent text incoming before after ⊎ IsSent text incoming before after))

-- ---- what is heard of a peer that gives these bytes, and how much of them is read

abbrev pub Heard : Result Reply FetchFault → Option (List ℕ) → Option (List ℕ) → Type 0
Heard (Ok reply) incoming left = Told (λ bytes rest. IsLeft (IsReply bytes reply) rest) incoming left
Heard (Err ConnectFault) incoming left = IsAtEnd left
Heard (Err WriteFault) incoming left = ⊤
Heard (Err ReadFault) incoming left = IfSome incoming (λ bytes. BreaksOff (Some bytes) left)
Heard (Err (BadReply place)) incoming left =
    IfSome incoming (λ bytes. IsFirstBreak bytes place × HasNoMessage bytes × ReadsAtMost (place + most_beyond) (Some bytes) left)
Heard (Err (NotData status code)) incoming left = Told (λ bytes rest. IsLeft (IsNotData bytes status code) rest) incoming left
Heard (Err (Cov fault)) incoming left = Told (λ bytes rest. IsLeft (IsNoDocument bytes fault) rest) incoming left
Heard (Err OutOfMemory) incoming left = ⊤

-- ---- a whole exchange

-- how far it came with each outcome, and the count that rose with each fault
abbrev pub Exchanged : Result Reply FetchFault → List ℕ → Option (List ℕ) → LinkMoment → LinkMoment → Type 0
Exchanged (Ok reply) text incoming before after = IsSent text incoming before after
Exchanged (Err ConnectFault) text incoming before after = IsUnconnected before after × Rose before.faults after.faults
Exchanged (Err WriteFault) text incoming before after = IsUnsent text incoming before after × Rose before.faults after.faults
Exchanged (Err ReadFault) text incoming before after = IsSent text incoming before after × Rose before.faults after.faults
Exchanged (Err (BadReply place)) text incoming before after = IsSent text incoming before after
Exchanged (Err (NotData status code)) text incoming before after = IsSent text incoming before after
Exchanged (Err (Cov fault)) text incoming before after = IsSent text incoming before after
Exchanged (Err OutOfMemory) text incoming before after = Halted text incoming before after

-- the link was asked for this peer alone, once; where memory was wanting perhaps not at all
abbrev pub AsksOnce : Result Reply FetchFault → Asked → Option (List Asked) → Option (List Asked) → Type 0
AsksOnce result peer before after = (after ≡ option_map (λ all. all ++ peer ∷ []) before) ⊎ ((result ≡ Err OutOfMemory) × (after ≡ before))

-- a link keeps what its peer gives, and its count of faults never falls
pub record LinkKept (before after : Aside) (faults faults' : ℕ) : Type 0 where
  pub incoming : after.incoming ≡ before.incoming
  pub later : faults ≤ faults'
