-- What is heard of a peer that was connected to.
use Rattle.std.proofs.Common.{◌≡◌, ℕ, ◌+◌, List, Err, None, Some, IfSome, IsErrOf, refl, subst}
use Rattle.std.specs.Prelude.{Result}
use Rattle.std.specs.declared.option.Option.{Option}
use Rattle.edr_base.specs.Calls.{ReadsAtMost}
use Rattle.edr_http.specs.Heads.{Told}
use Rattle.edr_reply.specs.Messages.{HasNoMessage, BreaksOff, most_beyond}
use Rattle.edr_reply.specs.BrokenParts.{IsFirstBreak}
use Rattle.covjson_checks.specs.declared.faults.CovFault.{CovFault}
use Rattle.edr_client.specs.declared.replies.Reply.{Reply}
use Rattle.edr_client.specs.declared.replies.ReplyFault.{ReplyFault}
use Rattle.edr_client.specs.declared.replies.ReplyFault.TheVariants as replies
use Rattle.edr_client.specs.Replies.{IsNotData, IsNoDocument, IsLeft}
use Rattle.edr_fetch.specs.Exchanges.{Heard}
use Rattle.edr_fetch.specs.Outcomes.{fault_of}

-- what is told of what was left behind the connect is told of what the peer gives
told_opened : (P : List ℕ → List ℕ → Type 0) (incoming before after : Option (List ℕ)) → IfSome incoming (λ told. before ≡ Some told)
    → Told P before after → Told P incoming after
told_opened P None before after opened t = tt
told_opened P (Some bytes) before after opened t = let Q : Option (List ℕ) → Type 0 = λ b. Told P b after in subst Q opened t

broken_opened : (place : ℕ) (incoming before after : Option (List ℕ)) → IfSome incoming (λ told. before ≡ Some told)
    → IfSome before (λ bytes. IsFirstBreak bytes place) → IfSome before HasNoMessage → ReadsAtMost (place + most_beyond) before after
    → IfSome incoming (λ bytes. IsFirstBreak bytes place × HasNoMessage bytes × ReadsAtMost (place + most_beyond) (Some bytes) after)
broken_opened place None before after opened first none near = tt
broken_opened place (Some bytes) before after opened first none near = (
  let Q : Option (List ℕ) → Type 0 = λ b. IfSome b (λ (told : List ℕ). IsFirstBreak told place) in subst Q opened first,
  let Q : Option (List ℕ) → Type 0 = λ b. IfSome b HasNoMessage in subst Q opened none,
  let Q : Option (List ℕ) → Type 0 = λ b. ReadsAtMost (place + most_beyond) b after in subst Q opened near,
)

off_opened : (incoming before after : Option (List ℕ)) → IfSome incoming (λ told. before ≡ Some told) → BreaksOff before after
    → IfSome incoming (λ bytes. BreaksOff (Some bytes) after)
off_opened None before after opened off = tt
off_opened (Some bytes) before after opened off = let Q : Option (List ℕ) → Type 0 = λ b. BreaksOff b after in subst Q opened off

-- no reply was read
pub heard_fault : (fault : ReplyFault) (incoming before after : Option (List ℕ)) → IfSome incoming (λ told. before ≡ Some told)
    → (IsErrOf {T = Reply} (Err fault) replies.ReadFault → BreaksOff before after)
    → ((place : ℕ) → ◌≡◌ {A = Result Reply ReplyFault} (Err fault) (Err (replies.BadReply place)) → IfSome before (λ bytes. IsFirstBreak bytes place))
    → ((place : ℕ) → ◌≡◌ {A = Result Reply ReplyFault} (Err fault) (Err (replies.BadReply place)) → IfSome before HasNoMessage)
    → ((place : ℕ) → ◌≡◌ {A = Result Reply ReplyFault} (Err fault) (Err (replies.BadReply place)) → ReadsAtMost (place + most_beyond) before after)
    → ((status : ℕ) (code : List ℕ) → ◌≡◌ {A = Result Reply ReplyFault} (Err fault) (Err (replies.NotData status code))
    → Told (λ bytes rest. IsLeft (IsNotData bytes status code) rest) before after)
    → ((inner : CovFault) → ◌≡◌ {A = Result Reply ReplyFault} (Err fault) (Err (replies.Cov inner)) → Told (λ bytes rest. IsLeft (IsNoDocument bytes inner) rest) before after)
    → Heard (Err (fault_of fault)) incoming after
heard_fault replies.ReadFault incoming before after opened off first none near not_data no_document = off_opened incoming before after opened (off refl)
heard_fault (replies.BadReply place) incoming before after opened off first none near not_data no_document =
    broken_opened place incoming before after opened (first place refl) (none place refl) (near place refl)
heard_fault (replies.NotData status code) incoming before after opened off first none near not_data no_document =
    told_opened (λ bytes rest. IsLeft (IsNotData bytes status code) rest) incoming before after opened (not_data status code refl)
heard_fault (replies.Cov inner) incoming before after opened off first none near not_data no_document =
    told_opened (λ bytes rest. IsLeft (IsNoDocument bytes inner) rest) incoming before after opened (no_document inner refl)
heard_fault replies.OutOfMemory incoming before after opened off first none near not_data no_document = tt
