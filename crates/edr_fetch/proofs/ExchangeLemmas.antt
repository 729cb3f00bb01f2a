-- How far an exchange came, by the fault that is handed on.
use Rattle.std.proofs.Common.{◌≡◌, ℕ, List, Err, refl, inl, inr}
use Rattle.std.specs.declared.option.Option.{Option}
use Rattle.edr_base.specs.Outside.{Rose}
use Rattle.edr_base.specs.declared.sending.SendFault.{SendFault}
use Rattle.edr_base.specs.declared.sending.SendFault.TheVariants as sending
use Rattle.edr_client.specs.declared.replies.ReplyFault.{ReplyFault}
use Rattle.edr_client.specs.declared.replies.ReplyFault.TheVariants as replies
use Rattle.edr_fetch.specs.Exchanges.{LinkMoment, IsUnsent, IsSent, Exchanged, Heard}
use Rattle.edr_fetch.specs.Outcomes.{fault_of, fault_of_sending}

-- the request wasn't written whole
pub exchanged_unsent : (fault : SendFault) (text : List ℕ) (incoming : Option (List ℕ)) (before after : LinkMoment) → IsUnsent text incoming before after
    → (fault ≡ sending.WriteFault → Rose before.faults after.faults) → Exchanged (Err (fault_of_sending fault)) text incoming before after
exchanged_unsent sending.WriteFault text incoming before after unsent rose = (unsent, rose refl)
exchanged_unsent sending.OutOfMemory text incoming before after unsent rose = inr (inr (inl unsent))

pub heard_unsent : (fault : SendFault) (incoming left : Option (List ℕ)) → Heard (Err (fault_of_sending fault)) incoming left
heard_unsent sending.WriteFault incoming left = tt
heard_unsent sending.OutOfMemory incoming left = tt

-- no reply was read
pub exchanged_sent : (fault : ReplyFault) (text : List ℕ) (incoming : Option (List ℕ)) (before after : LinkMoment) → IsSent text incoming before after
    → (fault ≡ replies.ReadFault → Rose before.faults after.faults) → Exchanged (Err (fault_of fault)) text incoming before after
exchanged_sent replies.ReadFault text incoming before after sent rose = (sent, rose refl)
exchanged_sent (replies.BadReply place) text incoming before after sent rose = sent
exchanged_sent (replies.NotData status code) text incoming before after sent rose = sent
exchanged_sent (replies.Cov fault) text incoming before after sent rose = sent
exchanged_sent replies.OutOfMemory text incoming before after sent rose = inr (inr (inr sent))
