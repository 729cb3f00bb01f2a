-- What holds of replies as they are taken.
use Rattle.std.specs.Prelude.{◌≡◌, ℕ, ◌<◌, ◌≤◌, ◌^◌, Bool, false, List, ◌++◌, length, IfSome}
use Rattle.std.specs.declared.option.Option.{Option}
use Rattle.edr_http.specs.Replies.{Body, IsStatus, reply_text}
use Rattle.edr_reply.specs.declared.messages.Message.{Message}
use Rattle.edr_reply.specs.Messages.{IsMessage, HasNoMessage, body_limit}
use Rattle.edr_reply.specs.BrokenParts.{BreaksAt}

-- bytes begin with one reply at most
abbrev pub MessageIsOne : Type 0
MessageIsOne = (bytes : List ℕ) (one other : Message) (rest rest' : List ℕ) → IsMessage bytes one rest → IsMessage bytes other rest' → (one ≡ other) × (rest ≡ rest')

-- bytes break off at one place at most
abbrev pub BreakIsOne : Type 0
BreakIsOne = (bytes : List ℕ) (one other : ℕ) → BreaksAt bytes one → BreaksAt bytes other → one ≡ other

-- bytes that break off begin with no reply
abbrev pub BrokenIsNone : Type 0
BrokenIsNone = (bytes : List ℕ) (place : ℕ) → BreaksAt bytes place → HasNoMessage bytes

-- what the server writes of a reply with a body, and what it says
abbrev pub message_of : Body → Option ℕ → Message
message_of body edition = record { status = body.status; edition = edition; body = body.text }

-- what it writes is read as what it says, also before other bytes, where the body is within the limit
abbrev pub WrittenRepliesAreRead : Type 0
WrittenRepliesAreRead =
    (body : Body) (edition : Option ℕ) (close : Bool) (rest : List ℕ) → IsStatus body.status → IfSome edition (λ number. number < 2 ^ 64) → length body.text ≤ body_limit
    → IsMessage (reply_text body edition false close ++ rest) (message_of body edition) rest
