-- The head of a request that is made of a URL.
use Rattle.std.proofs.Common.{◌≡◌, ◌∙◌, ℕ, ◌+◌, ◌<◌, ◌^◌, true, false, nat_eq, List, [], ◌∷◌, ◌++◌, length, length-append, reverse, codes, Some, None, inl, inr, ⊎_elim, refl, sym, ap, subst, append_assoc, arith, lit<, lit≤}
use Rattle.std.specs.Prelude.{not, ◌&&◌, ◌==◌, nat_le, All, IsTrue, IsUtf8, IfSome, MatchOption, bytes_eq, is_some, option_map, unwrap_or}
use Rattle.std.specs.declared.option.Option.{Option}
use Rattle.std.specs.Fmt.{decimal}
use Rattle.std.specs.Str.Parse.{AllDigits}
use Rattle.std.specs.Int.{IsInRange}
use Rattle.std.proofs.lemmas.Bool.{cond-true, cond-false, cases_Bool}
use Rattle.std.proofs.lemmas.Bool.Decides.{nat_tests}
use Rattle.std.proofs.lemmas.Fmt.{decimal_is_IsNumeral}
use Rattle.std.proofs.lemmas.List.{reverse-reverse}
use Rattle.std.proofs.lemmas.List.Elements.{All-nil, All-cons, All-append, All-head, All-weaker}
use Rattle.std.proofs.lemmas.List.Sums.{AllPass-from_list_all}
use Rattle.std.proofs.lemmas.Slice.Eq.{bytes_eq-Decides}
use Rattle.std.proofs.lemmas.Str.{IsUtf8-from_ascii}
use Rattle.std.proofs.lemmas.Str.Ascii.{IsAscii-from_all}
use Rattle.std.proofs.lemmas.Str.Parse.{digit_from_value}
use Rattle.std.specs.List.{flat_map}
use Rattle.httparse.specs.Grammar.{print_field, Field, IsField, crlf, is_token_byte, is_uri_byte, is_value_byte, is_ows, skip_ows, trim_ows, RequestHead, IsRequestHead, print_request}
use Rattle.httparse.proofs.OnLiterals.{httparse_on_literals}
use Rattle.httparse.proofs.TrimLemmas.{AllPass-reverse}
use Rattle.percent_encoding.specs.Percent.{IsKept}
use Rattle.percent_encoding.specs.declared.ascii_set.TheConstants.{CONTROLS}
use Rattle.percent_encoding.proofs.AsciiSetLemmas.{ascii_from_kept}
use Rattle.url.specs.declared.host.Host.{Host}
use Rattle.url.specs.declared.scheme.SchemeType.{SchemeType}
use Rattle.url.specs.Scheme.{scheme_type, is_special}
use Rattle.url.specs.declared.scheme.SchemeType.TheVariants.{SpecialNotFile}
use Rattle.url.specs.declared.sets.TheConstants.{PATH, SPECIAL_QUERY, FORBIDDEN_HOST, FORBIDDEN_DOMAIN}
use Rattle.url.specs.Host.{host_text, IsHostOf}
use Rattle.url.specs.Parts.{Parts, IsValid, IsValidPath, IsPortOf, kind_of, nonempty_host, has_host, has_authority, cannot_be_a_base, query_set}
use Rattle.url.proofs.OnLiterals.{url_on_literals}
use Rattle.url.proofs.HostLemmas.{All-host_text}
use Rattle.url.proofs.SetLemmas.{passes_from_kept, kept_differs}
use Rattle.url.proofs.ValidLemmas.{segment_list_kept}
use Rattle.edr_http.specs.Heads.{head_of}
use Rattle.edr_http.specs.Checks.{Applies, says_close}
use Rattle.edr_base.specs.declared.refusals.Refusal.{Refusal}
use Rattle.edr_base.specs.declared.refusals.Refusal.TheVariants.{BadHead, BodyNotAllowed, BadHost, VersionNotOffered, MethodNotOffered, NoSuchPage, UnknownParameter, RepeatedParameter, BadFormat, MissingParameter, BadCoords, WrongGeometry, BadBbox, BadDatetime, BadLevel, BadDistance, Conflict, UnknownCollection, UnknownInstance, UnknownLocation, QueryNotOffered, UnknownParameterName, BadCrs, NoLevels, NoSamples, TooLarge}
use Rattle.edr_fetch.specs.declared.requests.Request.{Request}
use Rattle.edr_fetch.specs.Requests.{request_to, request_by, request_text, query_behind, port_text, http_port}
use Rattle.edr_fetch.specs.Heads.{head_said, IsServed}

-- a byte that is seen: no blank and no control byte
abbrev IsSeen : ℕ → Type 0
IsSeen b = IsTrue (is_uri_byte b)

-- ---- the host and the port

opaque_seen : (b : ℕ) → IsKept FORBIDDEN_HOST b → IsKept CONTROLS b → IsSeen b
opaque_seen b allowed kept =
    let visible = passes_from_kept CONTROLS (λ x. nat_le 32 x && not (x == 127)) refl b kept in
    let other = kept_differs FORBIDDEN_HOST 32 refl b allowed in
    grind (arith, nat_tests, visible, other)

host_seen : (host : Host (List ℕ)) → IsHostOf SpecialNotFile host → All IsSeen (host_text host)
host_seen host is =
    All-host_text IsSeen SpecialNotFile host (passes_from_kept FORBIDDEN_DOMAIN is_uri_byte refl) opaque_seen (λ b d. grind (arith, nat_tests, d)) (λ b d. grind (arith, nat_tests, d)) refl refl is

all_seen : (ds : List ℕ) → AllDigits 10 ds → All IsSeen ds
all_seen [] h = All-nil IsSeen
all_seen (c ∷ cs) h = let digit : IsInRange 48 57 c = digit_from_value c h.0 in All-cons IsSeen c cs (grind (arith, nat_tests, digit)) (all_seen cs h.1)

port_seen : (port : ℕ) → port < 2 ^ 16 → All IsSeen (port_text port)
port_seen port small =
    ⊎_elim (λ (same : nat_eq port http_port ≡ true). rw same (All-nil IsSeen))
    (λ (other : nat_eq port http_port ≡ false). rw other (All-cons IsSeen 58 (decimal port) refl (all_seen (decimal port) (decimal_is_IsNumeral port (omega (arith, small))).0.1)))
    (cases_Bool (nat_eq port http_port))

-- ---- the target

path_seen : (url : Parts) → IsValidPath url → kind_of url ≡ SpecialNotFile → has_authority url ≡ true → All IsSeen url.path × All (λ b. b < 128) url.path × (0 < length url.path)
path_seen url (inl list) kind host =
    let kept = segment_list_kept (kind_of url) url.path list.0 in (
      All-weaker (IsKept PATH) IsSeen (passes_from_kept PATH is_uri_byte refl) url.path kept,
      All-weaker (IsKept PATH) (λ b. b < 128) (ascii_from_kept PATH) url.path kept,
      list.1 (rw kind refl),
    )
path_seen url (inr opaque) kind host =
    let no_base : cannot_be_a_base url ≡ true = opaque.0 in
    let never : false ≡ true = rw host at no_base in absurd cc

query_seen : (query : Option (List ℕ)) → IfSome query (All (IsKept SPECIAL_QUERY)) → All IsSeen (query_behind query) × All (λ b. b < 128) (query_behind query)
query_seen None kept = (All-nil IsSeen, All-nil (λ b. b < 128))
query_seen (Some query) kept = (
  All-cons IsSeen 63 query refl (All-weaker (IsKept SPECIAL_QUERY) IsSeen (passes_from_kept SPECIAL_QUERY is_uri_byte refl) query kept),
  All-cons (λ b. b < 128) 63 query (lit< tt) (All-weaker (IsKept SPECIAL_QUERY) (λ b. b < 128) (ascii_from_kept SPECIAL_QUERY) query kept),
)

-- ---- the values of fields

no_blank : (b : ℕ) → IsSeen b → is_ows b ≡ false
no_blank b h = grind (arith, nat_tests, h)

skip_same : (bs : List ℕ) → All IsSeen bs → skip_ows bs ≡ bs
skip_same [] h = refl
skip_same (b ∷ bs) h = cond-false _ _ _ (no_blank b (All-head IsSeen b bs h))

trim_seen : (bs : List ℕ) → All IsSeen bs → trim_ows (32 ∷ bs) ≡ bs
unfolding trim_ows
trim_seen bs h =
    ap (λ w. reverse (skip_ows (reverse w))) (skip_same bs h)
    ∙ (ap reverse (skip_same (reverse bs) (AllPass-reverse is_uri_byte bs h)) ∙ reverse-reverse bs)

value_byte : (b : ℕ) → IsSeen b → IsTrue (is_value_byte b)
value_byte b h = grind (arith, nat_tests, h)

-- ---- the head

abbrev host_field : Request → Field
host_field request = record { name = codes "Host"; raw = 32 ∷ (request.host ++ port_text request.port); end = crlf }

abbrev close_field : Field
close_field = record { name = codes "Connection"; raw = codes " close"; end = crlf }

abbrev tree_of : Request → RequestHead
tree_of request = record { blank = []; method = codes "GET"; target = request.target; minor = 1; line_end = crlf; fields = host_field request ∷ (close_field ∷ []); last = crlf }

is_host_field : (request : Request) → All IsSeen (request.host ++ port_text request.port) → IsField (host_field request)
unfolding httparse_on_literals
is_host_field request seen = record {
  name = (lit< tt, AllPass-from_list_all is_token_byte (codes "Host") refl);
  raw = All-cons (λ b. IsTrue (is_value_byte b)) 32 (request.host ++ port_text request.port) refl
      (All-weaker IsSeen (λ b. IsTrue (is_value_byte b)) value_byte (request.host ++ port_text request.port) seen);
}

is_close_field : IsField close_field
unfolding httparse_on_literals
is_close_field = record {
  name = (lit< tt, AllPass-from_list_all is_token_byte (codes "Connection") refl);
  raw = AllPass-from_list_all is_value_byte (codes " close") refl;
}

is_tree : (request : Request) → All IsSeen request.target → 0 < length request.target → IsUtf8 request.target → All IsSeen (request.host ++ port_text request.port)
    → IsRequestHead (tree_of request)
unfolding httparse_on_literals
is_tree request target some utf8 host = record {
  method = (lit< tt, AllPass-from_list_all is_token_byte (codes "GET") refl);
  target = (some, target);
  target_text = utf8;
  minor = lit≤ tt;
  fields = All-cons IsField (host_field request) (close_field ∷ []) (is_host_field request host) (All-cons IsField close_field [] is_close_field (All-nil IsField));
}

nested : (host port a b c : List ℕ) → (((host ++ port) ++ a) ++ b) ++ c ≡ host ++ (port ++ (a ++ (b ++ c)))
nested host port a b c = append_assoc ((host ++ port) ++ a) b c ∙ append_assoc (host ++ port) a (b ++ c) ∙ append_assoc host port (a ++ (b ++ c))

print_parts : (method target version end section : List ℕ) → method ++ 32 ∷ target ++ 32 ∷ version ++ end ++ section ≡ method ++ (32 ∷ (target ++ (32 ∷ (version ++ (end ++ section)))))
print_parts method target version end section = simp append_assoc refl

printed : (request : Request) → print_request (tree_of request) ≡ request_text request
unfolding httparse_on_literals
printed request =
    let section : flat_map print_field (host_field request ∷ (close_field ∷ [])) ++ codes "\r\n" ≡ codes "Host: " ++ (request.host ++ (port_text request.port ++ codes "\r\nConnection: close\r\n\r\n")) =
    ap (λ (w : List ℕ). codes "Host: " ++ w) (nested request.host (port_text request.port) (codes "\r\n") (codes "Connection: close\r\n") (codes "\r\n")) in
    print_parts (codes "GET") request.target (codes "HTTP/1.1") (codes "\r\n") (flat_map print_field (host_field request ∷ (close_field ∷ [])) ++ codes "\r\n")
    ∙ ap (λ (w : List ℕ). codes "GET " ++ (request.target ++ (codes " HTTP/1.1\r\n" ++ w))) section

accepted : (request : Request) (refusal : Refusal) → ¬ (Applies (head_said request) refusal)
accepted request BadHead h = h
accepted request BodyNotAllowed h = absurd cc
accepted request BadHost h = h refl
accepted request VersionNotOffered h = h refl
accepted request MethodNotOffered h = h.0 refl
accepted request NoSuchPage h = h
accepted request UnknownParameter h = h
accepted request RepeatedParameter h = h
accepted request BadFormat h = h
accepted request MissingParameter h = h
accepted request BadCoords h = h
accepted request WrongGeometry h = h
accepted request BadBbox h = h
accepted request BadDatetime h = h
accepted request BadLevel h = h
accepted request BadDistance h = h
accepted request Conflict h = h
accepted request UnknownCollection h = h
accepted request UnknownInstance h = h
accepted request UnknownLocation h = h
accepted request QueryNotOffered h = h
accepted request UnknownParameterName h = h
accepted request BadCrs h = h
accepted request NoLevels h = h
accepted request NoSamples h = h
accepted request TooLarge h = h

closing : (request : Request) → says_close (head_said request) ≡ true
unfolding httparse_on_literals
closing request = refl

said : (request : Request) → All IsSeen (request.host ++ port_text request.port) → head_said request ≡ head_of (tree_of request)
unfolding httparse_on_literals
said request host =
    ap (λ (value : List ℕ). record { method = codes "GET"; target = request.target; minor = 1; fields = (codes "Host", value) ∷ ((codes "Connection", codes "close") ∷ []) })
    (sym (trim_seen (request.host ++ port_text request.port) host))

pub served : (request : Request) → All IsSeen request.target → 0 < length request.target → IsUtf8 request.target → All IsSeen (request.host ++ port_text request.port)
    → IsServed request
served request target some utf8 host = record {
  head = λ rest short. record {
    tree = tree_of request;
    begins = record {
      reads = (is_tree request target some utf8 host, ap (λ w. w ++ rest) (sym (printed request)));
      few_fields = lit≤ tt;
      short = rw (printed request) short;
    };
    says = said request host;
  };
  accepted = accepted request;
  closes = closing request;
}

-- ---- of a URL

port_small : (scheme : List ℕ) (port : Option ℕ) → IsPortOf scheme port → unwrap_or port http_port < 2 ^ 16
port_small scheme None h = lit< tt
port_small scheme (Some n) h = h.0

served_as : (url : Parts) (host : Host (List ℕ)) → IsValid url → kind_of url ≡ SpecialNotFile → url.host ≡ Some host → IsServed (request_to url host)
served_as url host valid kind is =
    let H : Option (Host (List ℕ)) → SchemeType → Type 0 = λ h k. MatchOption h (is_special k ≡ false) (IsHostOf k) in
    let here : IsHostOf SpecialNotFile host = subst (H (Some host)) kind (subst (λ h. H h (kind_of url)) is valid.head.host) in
    let authority : has_authority url ≡ true = ap is_some is in
    let path = path_seen url valid.path kind authority in
    let query = query_seen url.query (subst (λ (k : SchemeType). IfSome url.query (All (IsKept (query_set k)))) kind valid.query) in
    let some : 0 < length url.path = path.2 in
    let both : length (url.path ++ query_behind url.query) ≡ length url.path + length (query_behind url.query) = length-append url.path (query_behind url.query) in
    served (request_to url host) (All-append IsSeen url.path (query_behind url.query) path.0 query.0) (omega (arith, some, both))
    (IsUtf8-from_ascii _ (IsAscii-from_all _ (All-append (λ b. b < 128) url.path (query_behind url.query) path.1 query.1)))
    (All-append IsSeen (host_text host) (port_text (unwrap_or url.port http_port)) (host_seen host here) (port_seen _ (port_small url.scheme url.port valid.head.port)))

host_there : (url : Parts) (host : Host (List ℕ)) → nonempty_host url ≡ Some host → url.host ≡ Some host
host_there url host e =
    ⊎_elim (λ (there : has_host url ≡ true). let is : nonempty_host url ≡ url.host = cond-true _ _ _ there in sym is ∙ e)
    (λ (none : has_host url ≡ false). let is : nonempty_host url ≡ None = cond-false _ _ _ none in let never : None ≡ Some host = sym is ∙ e in absurd cc) (cases_Bool (has_host url))

served_with : (url : Parts) → IsValid url → kind_of url ≡ SpecialNotFile → (host : Option (Host (List ℕ))) → nonempty_host url ≡ host → IfSome (option_map (request_to url) host) IsServed
served_with url valid kind None e = tt
served_with url valid kind (Some host) e = served_as url host valid kind (host_there url host e)

http_kind : scheme_type (codes "http") ≡ SpecialNotFile
unfolding url_on_literals
http_kind = refl

pub served_by : (url : Parts) → IsValid url → IfSome (request_by url) IsServed
served_by url valid =
    ⊎_elim
    (λ (http : bytes_eq url.scheme (codes "http") ≡ true).
    let kind : kind_of url ≡ SpecialNotFile = ap scheme_type ((bytes_eq-Decides url.scheme (codes "http")).0 http) ∙ http_kind in
    let is : request_by url ≡ option_map (request_to url) (nonempty_host url) = cond-true _ _ _ http in
    subst (λ (r : Option Request). IfSome r IsServed) (sym is) (served_with url valid kind (nonempty_host url) refl))
    (λ (other : bytes_eq url.scheme (codes "http") ≡ false).
    let is : request_by url ≡ None = cond-false _ _ _ other in
    subst (λ (r : Option Request). IfSome r IsServed) (sym is) tt)
    (cases_Bool (bytes_eq url.scheme (codes "http")))
