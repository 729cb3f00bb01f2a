-- The link, where a URL is fetched: the peer that is asked, and how far the exchange with it came.
use Rattle.std.specs.Prelude.{◌⊎◌, ℕ, ◌+◌, List, [], ◌∷◌, Some, IfSome}
use Rattle.std.specs.declared.option.Option.{Option}
use Rattle.edr_base.specs.Outside.{Asked as AskedOf, Rose}
use Rattle.edr_base.specs.Calls.{ReadsAtMost}
use Rattle.edr_http.specs.Heads.{Told}
use Rattle.edr_reply.specs.declared.messages.Message.{Message}
use Rattle.edr_reply.specs.Messages.{TakesMessage, BreaksOff, most_beyond}
use Rattle.edr_reply.specs.BrokenParts.{IsFirstBreak}
use Rattle.edr_fetch.specs.declared.requests.Request.{Request}
use Rattle.edr_fetch.specs.Exchanges.{LinkMoment, IsUnconnected, IsUnsent, IsSent, Halted}
use Rattle.edr.specs.declared.endings.Ending.{Ending}
use Rattle.edr.specs.declared.endings.Ending.TheVariants.{Done, ReadFault, WriteFault, OutOfMemory, NoDocument, ConnectFault}
use Rattle.edr.specs.declared.endings.DocumentRefusal.TheVariants.{Cov, BadReply, NotData}

-- the host of a URL and its port
abbrev pub peer_of : Request → List AskedOf
peer_of request = (request.host, request.port) ∷ []

-- a reply was read whole, and no more than a read may have taken beside
abbrev pub IsTaken : Option (List ℕ) → Option (List ℕ) → Type 0
IsTaken incoming left = Told (λ bytes rest. (message : Message) × TakesMessage message bytes rest) incoming left

-- a reply breaks off, and little more was read than what stands before that place and the longest body
abbrev pub IsBroken : Option (List ℕ) → Option (List ℕ) → Type 0
IsBroken incoming left = IfSome incoming (λ bytes. (place : ℕ) × IsFirstBreak bytes place × ReadsAtMost (place + most_beyond) (Some bytes) left)

-- how far the exchange with the peer came; a write failed either on the output, behind it, or to the peer, before its end
abbrev pub LinkEnds : Ending → List ℕ → Option (List ℕ) → ℕ → ℕ → LinkMoment → LinkMoment → Type 0
LinkEnds Done text incoming output output' before after = IsSent text incoming before after × IsTaken incoming after.left
LinkEnds ReadFault text incoming output output' before after =
    IsSent text incoming before after × Rose before.faults after.faults × IfSome incoming (λ bytes. BreaksOff (Some bytes) after.left)
LinkEnds WriteFault text incoming output output' before after =
    (IsSent text incoming before after × IsTaken incoming after.left × Rose output output')
    ⊎ (IsUnsent text incoming before after × Rose before.faults after.faults)
LinkEnds OutOfMemory text incoming output output' before after = Halted text incoming before after
LinkEnds (NoDocument Cov) text incoming output output' before after = IsSent text incoming before after × IsTaken incoming after.left
LinkEnds (NoDocument BadReply) text incoming output output' before after = IsSent text incoming before after × IsBroken incoming after.left
LinkEnds (NoDocument (NotData status)) text incoming output output' before after = IsSent text incoming before after × IsTaken incoming after.left
LinkEnds ConnectFault text incoming output output' before after = IsUnconnected before after × Rose before.faults after.faults
LinkEnds ending text incoming output output' before after = ⊥
