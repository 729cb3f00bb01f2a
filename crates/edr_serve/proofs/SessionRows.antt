-- Small sessions: what is written, what is opened, and how they end.
use Rattle.std.proofs.Common.{◌≡◌, ℕ, true, false, codes, List, [], ◌∷◌, ◌++◌, refl, Some, None, Ok, Err, arith}
use Rattle.std.specs.Fmt.{digits}
use Rattle.serde_json.proofs.OnLiterals.{serde_json_on_literals}
use Rattle.edr_base.specs.declared.refusals.Refusal.TheVariants.{VersionNotOffered, MethodNotOffered}
use Rattle.edr_edition.specs.Values.{EditionValue}
use Rattle.edr_query.specs.declared.pages.Page.TheVariants.{Conformance, Collection}
use Rattle.edr_serve.specs.declared.ends.End.TheVariants.{EndOfInput, ClosedByPeer, ClosedByRefusal, RequestLimit}
use Rattle.edr_serve.specs.Requests.{Request, no_head, end_of, session_end}
use Rattle.edr_serve.specs.Replies.{output, opened}
use Rattle.edr_serve.specs.Sessions.{Uses, last_number, NeverFall}

abbrev edition : ℕ → EditionValue
edition number = record { number = number; collections = [] }

-- GET and HEAD of a page, a page that the edition hasn't, and another method
abbrev get : Request
get = record { is_head = false; asked = Ok Conformance; end = None }

abbrev head : Request
head = record { is_head = true; asked = Ok Conformance; end = None }

abbrev unknown : Request
unknown = record { is_head = false; asked = Ok (Collection (codes "grid")); end = None }

abbrev post : Request
post = record { is_head = false; asked = Err MethodNotOffered; end = None }

abbrev get_text : List ℕ
get_text = codes "HTTP/1.1 200 OK\r\nContent-Type: application/json\r\nX-Edr-Edition: 1\r\nTransfer-Encoding: chunked\r\n\r\n11\r\n{\"conformsTo\":[]}\r\n0\r\n\r\n"

abbrev bad_text : List ℕ
bad_text = codes "HTTP/1.1 400 Bad Request\r\nContent-Type: application/json\r\nTransfer-Encoding: chunked\r\nConnection: close\r\n\r\n1d\r\n{\"code\":\"BadHead\",\"number\":1}\r\n0\r\n\r\n"

-- ---- what is written

nothing : output [] [] ≡ []
nothing = refl

got : output (get ∷ []) (edition 1 ∷ []) ≡ get_text
unfolding digits serde_json_on_literals
got = refl

head_alone : output (head ∷ []) (edition 1 ∷ []) ≡ codes "HTTP/1.1 200 OK\r\nContent-Type: application/json\r\nX-Edr-Edition: 1\r\nTransfer-Encoding: chunked\r\n\r\n"
unfolding digits serde_json_on_literals
head_alone = refl

not_known : output (unknown ∷ []) (edition 2 ∷ [])
    ≡ codes "HTTP/1.1 404 Not Found\r\nContent-Type: application/json\r\nX-Edr-Edition: 2\r\nTransfer-Encoding: chunked\r\n\r\n28\r\n{\"code\":\"UnknownCollection\",\"number\":18}\r\n0\r\n\r\n"
unfolding digits
not_known = refl

posted : output (post ∷ []) []
    ≡ codes "HTTP/1.1 405 Method Not Allowed\r\nContent-Type: application/json\r\nAllow: GET, HEAD\r\nTransfer-Encoding: chunked\r\n\r\n26\r\n{\"code\":\"MethodNotOffered\",\"number\":5}\r\n0\r\n\r\n"
unfolding digits
posted = refl

bad_head : output (no_head ∷ []) [] ≡ bad_text
unfolding digits
bad_head = refl

-- in one input the replies come one after the other
together : output (get ∷ no_head ∷ []) (edition 1 ∷ []) ≡ get_text ++ bad_text
unfolding digits serde_json_on_literals
together = refl

-- and none from a request on that has no edition to read
unread : output (get ∷ no_head ∷ []) [] ≡ []
unread = refl

opens_none : opened (get ∷ post ∷ head ∷ []) (edition 1 ∷ edition 1 ∷ []) ≡ [] ∷ ([] ∷ [])
opens_none = refl

-- ---- how it ends

empty : session_end [] ≡ EndOfInput
empty = refl

closed : session_end (get ∷ no_head ∷ []) ≡ ClosedByRefusal 1
closed = refl

goes_on : end_of 2 false (Err MethodNotOffered) ≡ None
goes_on = refl

peer_closes : end_of 1 true (Err MethodNotOffered) ≡ Some ClosedByPeer
peer_closes = refl

version_closes : end_of 5 true (Err VersionNotOffered) ≡ Some (ClosedByRefusal 4)
version_closes = refl

last_turn : end_of 1 false (Ok Conformance) ≡ Some RequestLimit
last_turn = refl

-- ---- three requests over a shelf that has seen none and gives two editions, one after the other

stepped : Uses [] (edition 1 ∷ edition 2 ∷ edition 2 ∷ []) (edition 1 ∷ edition 2 ∷ [])
stepped =
    let first : List EditionValue = edition 1 ∷ [] in
    let both : List EditionValue = edition 1 ∷ edition 2 ∷ [] in
    (first, (first, refl), ([], refl), (both, (edition 2 ∷ [], refl), (first, refl), (both, ([], refl), (first, refl), ([], refl))))

never_fall : NeverFall (last_number []) (1 ∷ 2 ∷ 2 ∷ []) (last_number (edition 1 ∷ edition 2 ∷ []))
never_fall = (omega arith, (omega arith, (omega arith, omega arith)))
