-- For private clauses: what is answered of a reply whose bytes were read.
use Rattle.std.specs.Prelude.{◌≡◌, ◌≢◌, Result, ⊤}
use Rattle.std.specs.Prelude.{Ok, Err}
use Rattle.covjson_value.specs.declared.coverages.Document.{Document}
use Rattle.covjson_checks.specs.declared.faults.CovFault.{CovFault}
use Rattle.covjson_checks.specs.declared.faults.CovFault.TheVariants as cov
use Rattle.covjson_read.specs.Standing.{StandsForDocument}
use Rattle.covjson_read.specs.Rows.{DocumentRows}
use Rattle.edr_reply.specs.declared.messages.Message.{Message}
use Rattle.edr_reply.specs.declared.messages.MessageFault.{MessageFault}
use Rattle.edr_reply.specs.declared.messages.MessageFault.TheVariants as messages
use Rattle.edr_client.specs.declared.replies.Reply.{Reply}
use Rattle.edr_client.specs.declared.replies.ReplyFault.{ReplyFault}
use Rattle.edr_client.specs.declared.replies.ReplyFault.TheVariants.{ReadFault, BadReply, NotData, Cov, OutOfMemory}
use Rattle.edr_client.specs.Replies.{IsCode}

-- want of memory, or the status and the code
abbrev pub TellsNotData : Message → ReplyFault → Type 0
TellsNotData message ReadFault = ⊥
TellsNotData message (BadReply place) = ⊥
TellsNotData message (NotData status code) = (status ≡ message.status) × IsCode message.body code
TellsNotData message (Cov fault) = ⊥
TellsNotData message OutOfMemory = ⊤

-- why no message was read, as a fault of a reply
abbrev pub fault_of : MessageFault → ReplyFault
fault_of messages.ReadFault = ReadFault
fault_of (messages.Broken place) = BadReply place
fault_of messages.OutOfMemory = OutOfMemory

-- want of memory, or the fault
abbrev pub TellsCov : CovFault → ReplyFault → Type 0
TellsCov fault ReadFault = ⊥
TellsCov fault (BadReply place) = ⊥
TellsCov fault (NotData status code) = ⊥
TellsCov fault (Cov found) = (found ≡ fault) × (fault ≢ cov.OutOfMemory)
TellsCov fault OutOfMemory = ⊤

-- what is answered of a reply
abbrev pub Answers : Message → Result Reply ReplyFault → Type 0
Answers message (Ok reply) = (message.status ≡ 200) × (reply.edition ≡ message.edition) × StandsForDocument message.body reply.document
Answers message (Err ReadFault) = ⊥
Answers message (Err (BadReply place)) = ⊥
Answers message (Err (NotData status code)) = (status ≡ message.status) × (status ≢ 200) × IsCode message.body code
Answers message (Err (Cov fault)) =
    (message.status ≡ 200) × ((document : Document) → ¬ (StandsForDocument message.body document)) × DocumentRows message.body (Err fault)
Answers message (Err OutOfMemory) = ⊤
