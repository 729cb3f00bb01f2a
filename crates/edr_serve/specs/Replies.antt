-- The replies of a session: their bytes, and the chunks that are opened for them (RFC 9112, section 9.3.2).
use Rattle.std.specs.Prelude.{ℕ, suc, Bool, true, false, List, [], ◌∷◌, Result, Ok, Err, Option, None, Some, is_some, option_map, option_to_list, unwrap_or}
use Rattle.std.specs.List.{flat_map}
use Rattle.edr_base.specs.declared.refusals.Refusal.{Refusal}
use Rattle.edr_edition.specs.Values.{EditionValue}
use Rattle.edr_edition.specs.Stores.{Subject, subject_of}
use Rattle.edr_query.specs.Values.{QueryValue}
use Rattle.edr_query.specs.declared.pages.Page.{Page}
use Rattle.edr_query.specs.declared.pages.Page.TheVariants.{Ask}
use Rattle.edr_select.specs.Refusals.{refused}
use Rattle.edr_select.specs.Selections.{needed}
use Rattle.edr_http.specs.Replies.{Body, refusal_body, reply_text}
use Rattle.edr_describe.specs.Answers.{page_text}
use Rattle.edr_serve.specs.Requests.{Request}

-- ---- what an edition answers to a page

abbrev pub is_description : Page → Bool
is_description (Ask query) = false
is_description other = true

-- the refusal that applies, else the text of the page
abbrev pub body_unless : Option Refusal → EditionValue → Page → Body
body_unless (Some refusal) edition page = refusal_body refusal
body_unless None edition page = record { status = 200; json = is_description page; text = unwrap_or (page_text edition page) [] }

abbrev pub body_from : EditionValue → Page → Body
body_from edition page = body_unless (refused edition page) edition page

-- the chunks that hold a sample which a query selects
abbrev pub chunks_needed : EditionValue → QueryValue → List ℕ
chunks_needed edition query =
    unwrap_or (option_map (λ (subject : Subject). needed subject query) (subject_of edition query.collection query.instance)) []

abbrev pub chunks_unless : Option Refusal → EditionValue → Page → List ℕ
chunks_unless None edition (Ask query) = chunks_needed edition query
chunks_unless any edition other = []

-- the chunks that are opened for a reply: those that are needed for data, and none where only its head is sent
abbrev pub chunks_from : EditionValue → Page → Bool → List ℕ
chunks_from edition page true = []
chunks_from edition page false = chunks_unless (refused edition page) edition page

-- ---- replies

-- a reply to a request: the edition that it is from, where it is from one, its body, and the chunks that are opened for it
pub record Reply : Type 0 where
  pub request : Request
  pub edition : Option EditionValue
  pub body : Body
  pub chunks : List ℕ

abbrev pub reply_from : Request → Page → EditionValue → Reply
reply_from request page edition = record {
  request = request;
  edition = Some edition;
  body = body_from edition page;
  chunks = chunks_from edition page request.is_head;
}

abbrev pub reply_without : Request → Refusal → Reply
reply_without request refusal = record { request = request; edition = None; body = refusal_body refusal; chunks = [] }

-- a refusal is answered without an edition, and a page from the first of the editions; no reply comes where there is none
abbrev pub first_reply : Request → Result Page Refusal → List EditionValue → (List EditionValue → List Reply) → List Reply
first_reply request (Err refusal) editions others = reply_without request refusal ∷ others editions
first_reply request (Ok page) [] others = []
first_reply request (Ok page) (edition ∷ editions) others = reply_from request page edition ∷ others editions

-- the replies to requests, from the editions that they read, one for each request that reads one and in their order
abbrev pub replies : List Request → List EditionValue → List Reply
replies [] editions = []
replies (request ∷ requests) editions = first_reply request request.asked editions (replies requests)

-- how many of the requests read an edition: those that ask for a page
abbrev pub count_if_page : Result Page Refusal → ℕ → ℕ
count_if_page (Ok page) others = suc others
count_if_page (Err refusal) others = others

abbrev pub readers : List Request → ℕ
readers [] = 0
readers (request ∷ requests) = count_if_page request.asked (readers requests)

-- ---- what is written, and what is opened

abbrev pub number_of : EditionValue → ℕ
number_of edition = edition.number

-- the bytes of a reply; it says `close` where the session ends with it
abbrev pub bytes_of : Reply → List ℕ
bytes_of reply = reply_text reply.body (option_map number_of reply.edition) reply.request.is_head (is_some reply.request.end)

-- the chunks of a reply that is from an edition
abbrev pub chunks_of : Reply → List (List ℕ)
chunks_of reply = option_to_list (option_map (λ (edition : EditionValue). reply.chunks) reply.edition)

-- all bytes of the replies, one after the other
abbrev pub output : List Request → List EditionValue → List ℕ
output requests editions = flat_map bytes_of (replies requests editions)

-- the chunks that are opened for each request that reads an edition
abbrev pub opened : List Request → List EditionValue → List (List ℕ)
opened requests editions = flat_map chunks_of (replies requests editions)
