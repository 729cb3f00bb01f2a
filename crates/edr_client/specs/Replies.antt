-- What a reply of a server of data is, and what is answered where the bytes are none (RFC 9112; OGC 21-069r2).
use Rattle.std.specs.Prelude.{◌≡◌, ◌≢◌, ◌⊎◌, ℕ, List, [], ◌++◌, length, codes, Result, ◌≤◌}
use Rattle.std.specs.Prelude.{Ok, Err}
use Rattle.serde_json.specs.Data.{Data}
use Rattle.serde_json.specs.Find.{get}
use Rattle.edr_base.specs.Calls.{buffer_size}
use Rattle.edr_json.specs.Json.{IsJson, IsNoJson}
use Rattle.edr_json.specs.Trees.{text_or_empty}
use Rattle.covjson_value.specs.declared.coverages.Document.{Document}
use Rattle.covjson_checks.specs.declared.faults.CovFault.{CovFault}
use Rattle.covjson_read.specs.Standing.{StandsForDocument}
use Rattle.covjson_read.specs.Rows.{DocumentRows}
use Rattle.edr_reply.specs.declared.messages.Message.{Message}
use Rattle.edr_reply.specs.Messages.{IsMessage}
use Rattle.edr_reply.specs.BrokenParts.{IsFirstBreak}
use Rattle.edr_client.specs.declared.replies.Reply.{Reply}
use Rattle.edr_client.specs.declared.replies.ReplyFault.{ReplyFault}
use Rattle.edr_client.specs.declared.replies.ReplyFault.TheVariants.{ReadFault, BadReply, NotData, Cov, OutOfMemory}

-- the code that a body gives: the text of its member `code`, where it is a JSON object with one, else the empty text
abbrev pub IsCode : List ℕ → List ℕ → Type 0
IsCode body code = ((tree : Data) × IsJson body tree × (code ≡ text_or_empty (get (codes "code") tree))) ⊎ (IsNoJson body × (code ≡ []))

-- the bytes begin with a reply of status 200 whose body stands for the document, and the rest follows it
pub record IsReply (bytes : List ℕ) (reply : Reply) (rest : List ℕ) : Type 0 where
  pub message : Message
  pub is_message : IsMessage bytes message rest
  pub status : message.status ≡ 200
  pub edition : reply.edition ≡ message.edition
  pub document : StandsForDocument message.body reply.document

-- the bytes begin with a reply of another status, whose body gives the code, and the rest follows it
pub record IsNotData (bytes : List ℕ) (status : ℕ) (code rest : List ℕ) : Type 0 where
  pub message : Message
  pub is_message : IsMessage bytes message rest
  pub status_is : status ≡ message.status
  pub other : status ≢ 200
  pub code_is : IsCode message.body code

-- the bytes begin with a reply of status 200 whose body stands for no document and fails this check first, and the rest follows it
pub record IsNoDocument (bytes : List ℕ) (fault : CovFault) (rest : List ℕ) : Type 0 where
  pub message : Message
  pub is_message : IsMessage bytes message rest
  pub status : message.status ≡ 200
  pub none : (document : Document) → ¬ (StandsForDocument message.body document)
  pub first_fault : DocumentRows message.body (Err fault)

-- what is left of the rest behind a reply: at most so many bytes of it were read with the reply
abbrev pub IsLeft : (List ℕ → Type 0) → List ℕ → Type 0
IsLeft IsRest left = (more : List ℕ) × IsRest (more ++ left) × (length more ≤ buffer_size)

-- what is heard in some bytes: a reply of data, or why there is none
abbrev pub Hears : List ℕ → Result Reply ReplyFault → Type 0
Hears bytes (Ok reply) = (rest : List ℕ) × IsReply bytes reply rest
Hears bytes (Err ReadFault) = ⊥
Hears bytes (Err (BadReply place)) = IsFirstBreak bytes place
Hears bytes (Err (NotData status code)) = (rest : List ℕ) × IsNotData bytes status code rest
Hears bytes (Err (Cov fault)) = (rest : List ℕ) × IsNoDocument bytes fault rest
Hears bytes (Err OutOfMemory) = ⊥
