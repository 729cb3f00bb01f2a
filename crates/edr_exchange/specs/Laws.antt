-- What a server replies, as a client hears it (RFC 9112, sections 4 and 7.1; OGC 21-069r2).
use Rattle.std.specs.Prelude.{◌≡◌, ◌<◌, ◌≤◌, ◌^◌, false, List, ◌∷◌, length, Result, Ok, Err, None, Some}
use Rattle.edr_base.specs.RefusalTable.{line_of}
use Rattle.edr_base.specs.declared.refusals.Refusal.{Refusal}
use Rattle.covjson_value.specs.Trees.{document_text}
use Rattle.edr_edition.specs.Values.{EditionValue}
use Rattle.edr_edition.specs.Editions.{AreCollections}
use Rattle.edr_edition.specs.Stores.{Subject, subject_of}
use Rattle.edr_query.specs.Values.{QueryValue}
use Rattle.edr_query.specs.Queries.{IsQuery}
use Rattle.edr_query.specs.Targets.{IsTarget}
use Rattle.edr_query.specs.Spelling.{spell}
use Rattle.edr_query.specs.declared.pages.Page.{Page}
use Rattle.edr_query.specs.declared.pages.Page.TheVariants.{Ask}
use Rattle.edr_select.specs.Refusals.{IsFirstRefusal}
use Rattle.edr_select.specs.Documents.{document}
use Rattle.edr_reply.specs.Messages.{body_limit}
use Rattle.edr_client.specs.Replies.{IsReply, IsNotData}
use Rattle.edr_serve.specs.Requests.{Request}
use Rattle.edr_serve.specs.Replies.{output}

-- the target that is written of a query asks for that query
abbrev pub WrittenQueriesAreAsked : Type 0
WrittenQueriesAreAsked = (query : QueryValue) (asked : Result Page Refusal) → IsQuery query → IsTarget (spell query) asked → asked ≡ Ok (Ask query)

-- what the client can hear of an edition: it is valid, and its number is one of 64 bits
pub record IsTold (edition : EditionValue) : Type 0 where
  pub collections : AreCollections edition.collections
  pub number : edition.number < 2 ^ 64

-- a query that an edition answers with a document
pub record IsAnswered (edition : EditionValue) (query : QueryValue) (subject : Subject) : Type 0 where
  pub is_query : IsQuery query
  pub none : IsFirstRefusal edition (Ask query) None
  pub named : subject_of edition query.collection query.instance ≡ Some subject

-- the first of the replies is heard as the document of its query in the first of the editions, with its number; the other replies follow
abbrev pub FirstDataIsHeard : Type 0
FirstDataIsHeard =
    (request : Request) (requests : List Request) (edition : EditionValue) (editions : List EditionValue) (query : QueryValue) (subject : Subject)
    → request.is_head ≡ false → request.asked ≡ Ok (Ask query) → IsTold edition → IsAnswered edition query subject
    → length (document_text (document subject query)) ≤ body_limit
    → IsReply (output (request ∷ requests) (edition ∷ editions)) (record { edition = Some edition.number; document = document subject query }) (output requests editions)

-- where the page is refused, it is heard as no data, with the status and the code of the refusal
abbrev pub FirstRefusalIsHeard : Type 0
FirstRefusalIsHeard =
    (request : Request) (requests : List Request) (edition : EditionValue) (editions : List EditionValue) (page : Page) (refusal : Refusal)
    → request.is_head ≡ false → request.asked ≡ Ok page → IsTold edition → IsFirstRefusal edition page (Some refusal)
    → IsNotData (output (request ∷ requests) (edition ∷ editions)) (line_of refusal).status (line_of refusal).code (output requests editions)

-- and likewise where the request itself is refused, for which no edition is read
abbrev pub RefusedRequestsAreHeard : Type 0
RefusedRequestsAreHeard =
    (request : Request) (requests : List Request) (editions : List EditionValue) (refusal : Refusal)
    → request.is_head ≡ false → request.asked ≡ Err refusal
    → IsNotData (output (request ∷ requests) editions) (line_of refusal).status (line_of refusal).code (output requests editions)
