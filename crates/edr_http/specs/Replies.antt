-- Replies as bytes (RFC 9112, sections 4 and 7.1).
use Rattle.std.specs.Prelude.{◌≡◌, ◌⊎◌, ℕ, ◌==◌, Bool, true, if◌then◌else◌, codes, List, [], ◌++◌}
use Rattle.std.specs.declared.option.Option.{Option}
use Rattle.std.specs.Prelude.{None, Some}
use Rattle.std.specs.Fmt.{decimal}
use Rattle.edr_base.specs.RefusalTable.{line_of, body_of}
use Rattle.edr_base.specs.declared.refusals.Refusal.{Refusal}
use Rattle.edr_http.specs.Chunks.{chunked}

-- the statuses that replies have (RFC 9110, section 15)
abbrev pub IsStatus : ℕ → Type 0
IsStatus status = (status ≡ 200) ⊎ ((status ≡ 400) ⊎ ((status ≡ 404) ⊎ ((status ≡ 405) ⊎ ((status ≡ 413) ⊎ (status ≡ 505)))))

-- their phrases
abbrev pub phrase_of : ℕ → List ℕ
phrase_of status =
    if status == 200 then codes "OK" else
    if status == 400 then codes "Bad Request" else
    if status == 404 then codes "Not Found" else
    if status == 405 then codes "Method Not Allowed" else
    if status == 413 then codes "Content Too Large" else codes "HTTP Version Not Supported"

-- ---- the lines of the head of a reply

abbrev pub status_line : ℕ → List ℕ
status_line status = codes "HTTP/1.1 " ++ decimal status ++ codes " " ++ phrase_of status ++ codes "\r\n"

-- JSON of descriptions and refusals, CoverageJSON of data
abbrev pub type_line : Bool → List ℕ
type_line json = if json then codes "Content-Type: application/json\r\n" else codes "Content-Type: application/prs.coverage+json\r\n"

-- the number of the edition that the reply is from, where it is from one
abbrev pub edition_line : Option ℕ → List ℕ
edition_line None = []
edition_line (Some number) = codes "X-Edr-Edition: " ++ decimal number ++ codes "\r\n"

-- the methods that are offered, where another was asked for
abbrev pub allow_line : ℕ → List ℕ
allow_line status = if status == 405 then codes "Allow: GET, HEAD\r\n" else []

abbrev pub coding_line : List ℕ
coding_line = codes "Transfer-Encoding: chunked\r\n"

-- the connection ends with this reply
abbrev pub close_line : Bool → List ℕ
close_line close = if close then codes "Connection: close\r\n" else []

-- the head of a reply
abbrev pub reply_head : ℕ → Bool → Option ℕ → Bool → List ℕ
reply_head status json edition close =
    status_line status ++ (type_line json ++ (edition_line edition ++ (allow_line status ++ (coding_line ++ (close_line close ++ codes "\r\n")))))

-- ---- whole replies

-- a reply without its framing: `json` is whether it is a description or a refusal, and not data
pub record Body : Type 0 where
  pub status : ℕ
  pub json : Bool
  pub text : List ℕ

-- the body that tells a refusal
abbrev pub refusal_body : Refusal → Body
refusal_body refusal = record { status = (line_of refusal).status; json = true; text = body_of refusal }

-- the whole reply; to the method HEAD it ends with its head
abbrev pub reply_text : Body → Option ℕ → Bool → Bool → List ℕ
reply_text body edition is_head close = reply_head body.status body.json edition close ++ (if is_head then [] else chunked body.text)
