-- What holds of replies.
use Rattle.std.specs.Prelude.{◌≡◌, ℕ, ◌<◌, ◌≤◌, ◌^◌, Bool, false, List, ◌++◌, length, Result, IfSome}
use Rattle.std.specs.declared.option.Option.{Option}
use Rattle.edr_base.specs.RefusalTable.{line_of}
use Rattle.edr_base.specs.declared.refusals.Refusal.{Refusal}
use Rattle.edr_http.specs.Replies.{Body, refusal_body, reply_text}
use Rattle.covjson_value.specs.declared.coverages.Document.{Document}
use Rattle.covjson_value.specs.Coverages.{IsValidDocument}
use Rattle.covjson_value.specs.Trees.{document_text}
use Rattle.edr_reply.specs.Messages.{body_limit}
use Rattle.edr_client.specs.declared.replies.Reply.{Reply}
use Rattle.edr_client.specs.declared.replies.ReplyFault.{ReplyFault}
use Rattle.edr_client.specs.Replies.{IsReply, IsNotData, Hears}

-- at most one thing is heard in some bytes
abbrev pub OneIsHeard : Type 0
OneIsHeard = (bytes : List ℕ) (one other : Result Reply ReplyFault) → Hears bytes one → Hears bytes other → one ≡ other

-- the body of a reply of data
abbrev pub data_body : Document → Body
data_body document = record { status = 200; json = false; text = document_text document }

-- what the server writes of a valid document, with the number of its edition, is heard as these, also before other bytes, where the
-- text of the document is within the limit of a body
abbrev pub WrittenDocumentsAreHeard : Type 0
WrittenDocumentsAreHeard =
    (document : Document) (edition : Option ℕ) (close : Bool) (rest : List ℕ) → IsValidDocument document → IfSome edition (λ number. number < 2 ^ 64) → length (document_text document) ≤ body_limit
    → IsReply (reply_text (data_body document) edition false close ++ rest) (record { edition = edition; document = document }) rest

-- what the server writes of a refusal is heard as no data, with its status and its code, also before other bytes
abbrev pub WrittenRefusalsAreHeard : Type 0
WrittenRefusalsAreHeard =
    (refusal : Refusal) (edition : Option ℕ) (close : Bool) (rest : List ℕ) → IfSome edition (λ number. number < 2 ^ 64)
    → IsNotData (reply_text (refusal_body refusal) edition false close ++ rest) (line_of refusal).status (line_of refusal).code rest
