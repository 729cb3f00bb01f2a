-- Documents that are shown as tables: in the input, or in what a peer gives.
use Rattle.std.specs.Prelude.{◌≡◌, ◌≢◌, ◌⊎◌, ℕ, ◌<◌, ◌≤◌, List, [], length, None, Some, IfSome}
use Rattle.std.specs.declared.option.Option.{Option}
use Rattle.covjson_value.specs.declared.coverages.Document.{Document}
use Rattle.covjson_value.specs.Coverages.{IsValidDocument}
use Rattle.covjson_read.specs.Standing.{StandsForDocument}
use Rattle.edr_reply.specs.declared.messages.Message.{Message}
use Rattle.edr_reply.specs.Messages.{IsMessage, HasNoMessage, body_limit}
use Rattle.edr_client.specs.declared.replies.Reply.{Reply}
use Rattle.edr_client.specs.Replies.{IsReply}
use Rattle.edr_table.specs.Tables.{table_of}
use Rattle.edr.specs.declared.endings.DocumentRefusal.{DocumentRefusal}
use Rattle.edr.specs.declared.endings.DocumentRefusal.TheVariants.{TooLong, Cov, BadReply, NotData}

-- ---- in the input

-- the input is bytes for which P holds; where it isn't told, some bytes are
abbrev pub OfInput : (List ℕ → Type 0) → Option (List ℕ) → Type 0
OfInput P None = (bytes : List ℕ) × P bytes
OfInput P (Some bytes) = P bytes

-- the bytes stand for a document, and this is its table
pub record IsTableOf (bytes text : List ℕ) : Type 0 where
  pub within : length bytes ≤ body_limit
  pub document : Document
  pub stands : StandsForDocument bytes document
  pub text_is : text ≡ table_of document

abbrev pub IsTableIn : Option (List ℕ) → List ℕ → Type 0
IsTableIn input text = OfInput (λ bytes. IsTableOf bytes text) input

-- the bytes are more than a document may have, or stand for none
abbrev pub IsNoDocumentBy : DocumentRefusal → List ℕ → Type 0
IsNoDocumentBy TooLong bytes = body_limit < length bytes
IsNoDocumentBy Cov bytes = (length bytes ≤ body_limit) × ((document : Document) → ¬ (StandsForDocument bytes document))
IsNoDocumentBy refusal bytes = ⊥

abbrev pub IsNoDocumentIn : Option (List ℕ) → DocumentRefusal → Type 0
IsNoDocumentIn input refusal = OfInput (IsNoDocumentBy refusal) input

-- ---- in what a peer gives

-- the bytes begin with a reply of data, and this is the table of its document
pub record IsTableOfReply (bytes text : List ℕ) : Type 0 where
  pub reply : Reply
  pub rest : List ℕ
  pub is_reply : IsReply bytes reply rest
  pub text_is : text ≡ table_of reply.document

-- where it isn't told what the peer gives, it is the table of a document
abbrev pub IsTableHeard : Option (List ℕ) → List ℕ → Type 0
IsTableHeard None text = (document : Document) × IsValidDocument document × (text ≡ table_of document)
IsTableHeard (Some bytes) text = IsTableOfReply bytes text

-- the same table, of which a beginning is written; or nothing, where none is heard
abbrev pub IsTableBegun : Option (List ℕ) → List ℕ → Type 0
IsTableBegun incoming text = (text ≡ []) ⊎ IsTableHeard incoming text

-- the bytes begin with a reply of this status
pub record IsReplyOf (status : ℕ) (bytes : List ℕ) : Type 0 where
  pub message : Message
  pub rest : List ℕ
  pub is_message : IsMessage bytes message rest
  pub status_is : status ≡ message.status

-- the bytes begin with a reply of status 200 whose body stands for no document
pub record IsReplyWithout (bytes : List ℕ) : Type 0 where
  pub message : Message
  pub rest : List ℕ
  pub is_message : IsMessage bytes message rest
  pub status_is : message.status ≡ 200
  pub none : (document : Document) → ¬ (StandsForDocument message.body document)

-- the peer gives no reply, one of another status, or one of status 200 without a document
abbrev pub IsNoReplyHeard : Option (List ℕ) → DocumentRefusal → Type 0
IsNoReplyHeard incoming TooLong = ⊥
IsNoReplyHeard incoming Cov = IfSome incoming IsReplyWithout
IsNoReplyHeard incoming BadReply = IfSome incoming HasNoMessage
IsNoReplyHeard incoming (NotData status) = IfSome incoming (λ bytes. (status ≢ 200) × IsReplyOf status bytes)
