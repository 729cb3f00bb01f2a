-- Faults of messages, handed on as faults of replies.
use Rattle.std.proofs.Common.{◌≡◌, ℕ, List, Err, refl, sym, subst}
use Rattle.std.specs.Prelude.{Result, IsErrAnd}
use Rattle.covjson_checks.specs.declared.faults.CovFault.{CovFault}
use Rattle.edr_reply.specs.declared.messages.MessageFault.{MessageFault}
use Rattle.edr_reply.specs.declared.messages.MessageFault.TheVariants as messages
use Rattle.edr_client.specs.declared.replies.ReplyFault.TheVariants.{ReadFault, BadReply, NotData, Cov}
use Rattle.edr_client.specs.Answering.{fault_of}

-- a fault that is handed on
pub handed_on : {T E : Type 0} (r : Result T E) (found fault : E) → IsErrAnd r (λ e. e ≡ found) → r ≡ Err fault → found ≡ fault
handed_on r found fault h e = sym (subst (λ z. IsErrAnd z (λ e. e ≡ found)) e h)

-- what it was before
pub failed_was : (given : MessageFault) → fault_of given ≡ ReadFault → given ≡ messages.ReadFault
failed_was messages.ReadFault e = refl
failed_was (messages.Broken place) e = absurd cc
failed_was messages.OutOfMemory e = absurd cc

pub broken_was : (given : MessageFault) (place : ℕ) → fault_of given ≡ BadReply place → given ≡ messages.Broken place
broken_was messages.ReadFault place e = absurd cc
broken_was (messages.Broken at) place e = cc
broken_was messages.OutOfMemory place e = absurd cc

-- no message, so no status and no body
pub no_status : (given : MessageFault) (status : ℕ) (code : List ℕ) → ¬ (fault_of given ≡ NotData status code)
no_status messages.ReadFault status code e = absurd cc
no_status (messages.Broken place) status code e = absurd cc
no_status messages.OutOfMemory status code e = absurd cc

pub no_body : (given : MessageFault) (fault : CovFault) → ¬ (fault_of given ≡ Cov fault)
no_body messages.ReadFault fault e = absurd cc
no_body (messages.Broken place) fault e = absurd cc
no_body messages.OutOfMemory fault e = absurd cc
