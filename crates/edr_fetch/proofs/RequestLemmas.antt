-- Requests by their URLs, and their bytes.
use Rattle.std.proofs.Common.{◌≡◌, ◌≤◌, ◌∙◌, ℕ, true, false, List, ◌++◌, length, codes, None, refl, ap, append_assoc}
use Rattle.std.specs.Prelude.{Bool, IsUtf8}
use Rattle.std.specs.Str.{is_utf8}
use Rattle.std.proofs.Math.Bool.{and-false}
use Rattle.std.proofs.lemmas.Bool.{le-leb}
use Rattle.std.proofs.lemmas.Str.{IsUtf8-from_is_utf8, is_utf8-from_IsUtf8}
use Rattle.url.specs.Parser.{parse_url}
use Rattle.edr_fetch.specs.Requests.{request_of, request_read, request_text, port_text, url_limit}
use Rattle.edr_fetch.specs.declared.requests.Request.{Request}

not_true : (b : Bool) → ¬ (b ≡ true) → b ≡ false
not_true true other = absurd (other refl)
not_true false other = refl

-- what is no text asks for nothing
pub no_text : (bytes : List ℕ) → ¬ (IsUtf8 bytes) → None ≡ request_of bytes
no_text bytes none = rw (not_true (is_utf8 bytes) (λ e. none (IsUtf8-from_is_utf8 bytes e)), and-false) refl

-- of a text that isn't too long, the URL is read
pub of_text : (bytes : List ℕ) → length bytes ≤ url_limit → IsUtf8 bytes → request_of bytes ≡ request_read (parse_url None bytes)
of_text bytes short text = rw (le-leb (length bytes) url_limit short, is_utf8-from_IsUtf8 bytes text) refl

joined : (a b c d e f : List ℕ) → ((((a ++ b) ++ c) ++ d) ++ e) ++ f ≡ a ++ (b ++ (c ++ (d ++ (e ++ f))))
joined a b c d e f = simp append_assoc refl

-- pieces put one behind the other are the text of a request
pub put_together : (request : Request) (target host first second third fourth fifth text : List ℕ) → target ≡ request.target → host ≡ request.host
    → first ≡ codes "GET " → second ≡ first ++ target → third ≡ second ++ codes " HTTP/1.1\r\nHost: " → fourth ≡ third ++ host
    → fifth ≡ fourth ++ port_text request.port → text ≡ fifth ++ codes "\r\nConnection: close\r\n\r\n" → text ≡ request_text request
put_together request target host first second third fourth fifth text s h a b c d e f =
    f ∙ ap (λ (t : List ℕ). t ++ codes "\r\nConnection: close\r\n\r\n") (e ∙ ap (λ (t : List ℕ). t ++ port_text request.port)
    (d ∙ ap (λ (t : List ℕ). t ++ host) (c ∙ ap (λ (t : List ℕ). t ++ codes " HTTP/1.1\r\nHost: ") (b ∙ ap (λ (t : List ℕ). t ++ target) a))))
    ∙ joined (codes "GET ") target (codes " HTTP/1.1\r\nHost: ") host (port_text request.port) (codes "\r\nConnection: close\r\n\r\n")
    ∙ ap (λ (t : List ℕ). codes "GET " ++ (t ++ (codes " HTTP/1.1\r\nHost: " ++ (host ++ (port_text request.port ++ codes "\r\nConnection: close\r\n\r\n"))))) s
    ∙ ap (λ (t : List ℕ). codes "GET " ++ (request.target ++ (codes " HTTP/1.1\r\nHost: " ++ (t ++ (port_text request.port ++ codes "\r\nConnection: close\r\n\r\n"))))) h
