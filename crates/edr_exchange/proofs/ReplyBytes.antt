-- The bytes of replies to GET.
use Rattle.std.proofs.Common.{◌≡◌, ◌∙◌, ap, Bool, false, List, [], ℕ, Some, None}
use Rattle.std.specs.Prelude.{Result, Option, option_map, unwrap_or, is_some}
use Rattle.std.specs.List.{flat_map}
use Rattle.edr_base.specs.declared.refusals.Refusal.{Refusal}
use Rattle.covjson_value.specs.Trees.{document_text}
use Rattle.edr_edition.specs.Values.{EditionValue}
use Rattle.edr_edition.specs.Stores.{Subject, subject_of}
use Rattle.edr_query.specs.Values.{QueryValue}
use Rattle.edr_query.specs.declared.pages.Page.{Page}
use Rattle.edr_query.specs.declared.pages.Page.TheVariants.{Ask}
use Rattle.edr_select.specs.Documents.{document}
use Rattle.edr_select.specs.Refusals.{IsFirstRefusal}
use Rattle.edr_select.specs.RefusalLaws.{first_found}
use Rattle.edr_http.specs.Replies.{Body, refusal_body, reply_text}
use Rattle.edr_client.specs.Laws.{data_body}
use Rattle.edr_serve.specs.Requests.{Request}
use Rattle.edr_serve.specs.Replies.{body_from, body_unless, bytes_of, first_reply, reply_from, reply_without, replies}

-- a body of data with this text, where there is one
abbrev data_of : QueryValue → Option Subject → Body
data_of query found = record { status = 200; json = false; text = unwrap_or (option_map (λ (subject : Subject). document_text (document subject query)) found) [] }

data_is : (edition : EditionValue) (query : QueryValue) (subject : Subject) → IsFirstRefusal edition (Ask query) None → subject_of edition query.collection query.instance ≡ Some subject
    → body_from edition (Ask query) ≡ data_body (document subject query)
data_is edition query subject none named =
    ap (λ (refusal : Option Refusal). body_unless refusal edition (Ask query)) (first_found edition (Ask query) None none) ∙ ap (data_of query) named

-- the bytes of a reply of data
pub data_bytes : (request : Request) (edition : EditionValue) (query : QueryValue) (subject : Subject) → request.is_head ≡ false → IsFirstRefusal edition (Ask query) None
    → subject_of edition query.collection query.instance ≡ Some subject
    → bytes_of (reply_from request (Ask query) edition) ≡ reply_text (data_body (document subject query)) (Some edition.number) false (is_some request.end)
data_bytes request edition query subject get none named =
    ap (λ (is_head : Bool). reply_text (body_from edition (Ask query)) (Some edition.number) is_head (is_some request.end)) get
    ∙ ap (λ (body : Body). reply_text body (Some edition.number) false (is_some request.end)) (data_is edition query subject none named)

-- of a reply that refuses a page
pub refused_bytes : (request : Request) (edition : EditionValue) (page : Page) (refusal : Refusal) → request.is_head ≡ false → IsFirstRefusal edition page (Some refusal)
    → bytes_of (reply_from request page edition) ≡ reply_text (refusal_body refusal) (Some edition.number) false (is_some request.end)
refused_bytes request edition page refusal get some =
    ap (λ (is_head : Bool). reply_text (body_from edition page) (Some edition.number) is_head (is_some request.end)) get
    ∙ ap (λ (found : Option Refusal). reply_text (body_unless found edition page) (Some edition.number) false (is_some request.end)) (first_found edition page (Some refusal) some)

-- and of one that refuses the request itself
pub bytes_without : (request : Request) (refusal : Refusal) → request.is_head ≡ false
    → bytes_of (reply_without request refusal) ≡ reply_text (refusal_body refusal) None false (is_some request.end)
bytes_without request refusal get = ap (λ (is_head : Bool). reply_text (refusal_body refusal) None is_head (is_some request.end)) get

-- all bytes, by what the first request asks for
abbrev pub output_by : Request → Result Page Refusal → List Request → List EditionValue → List ℕ
output_by request asked requests editions = flat_map bytes_of (first_reply request asked editions (replies requests))
