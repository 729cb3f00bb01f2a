-- Replies as the server writes them are read as what they say.
use Rattle.std.proofs.Common.{◌≡◌, ℕ, ◌<◌, ◌≤◌, ◌^◌, length, length-append, List, [], ◌∷◌, ◌++◌, map, codes, Bool, true, false, Some, None, refl, sym, ap, ◌∙◌, subst, arith, lit≤, inl, inr}
use Rattle.std.specs.declared.option.Option.{Option}
use Rattle.std.specs.Prelude.{IfSome, ◌==◌}
use Rattle.std.specs.Char.{is_ascii_digit}
use Rattle.std.specs.Fmt.{decimal, digits}
use Rattle.std.specs.List.{flat_map}
use Rattle.std.proofs.lemmas.Fmt.{decimal_is_IsNumeral, decimal_nonempty, length-decimal-le}
use Rattle.std.proofs.lemmas.List.Sums.{AllPass-from_list_all}
use mathlib.Core.List.{append_assoc}
use Rattle.httparse.specs.Grammar.{AllPass, is_value_byte, trim_ows, print_field, print_response}
use Rattle.httparse.specs.Spans.{name_and_value}
use Rattle.httparse.proofs.OnLiterals.{httparse_on_literals}
use Rattle.edr_http.specs.Chunks.{crlf, chunked}
use Rattle.edr_http.specs.Replies.{IsStatus, phrase_of, status_line, type_line, edition_line, coding_line, close_line, reply_head}
use Rattle.edr_reply.specs.declared.framing.Framing.TheVariants.{Chunked}
use Rattle.edr_reply.specs.Messages.{IsHead, values_of, IsEdition, IsInChunks}
use Rattle.edr_reply.specs.Laws.{WrittenRepliesAreRead}
use Rattle.edr_reply.proofs.WrittenHeads.{trim_digits, decimal_digits, all_fields, head_of, fields_are, allowed, section_text}
use Rattle.edr_reply.proofs.WrittenChunks.{written_body}

-- ---- the line of the status

record IsLine (status : ℕ) : Type 0 where
  three : length (decimal status) ≡ 3
  digits : AllPass is_ascii_digit (decimal status)
  phrase : AllPass is_value_byte (phrase_of status)
  short : length (status_line status) ≤ 64
  small : status < 1000

line_200 : IsLine 200
unfolding digits httparse_on_literals
line_200 = record { three = refl; digits = AllPass-from_list_all is_ascii_digit (decimal 200) refl; phrase = AllPass-from_list_all is_value_byte (phrase_of 200) refl; short = lit≤ tt; small = omega arith }

line_400 : IsLine 400
unfolding digits httparse_on_literals
line_400 = record { three = refl; digits = AllPass-from_list_all is_ascii_digit (decimal 400) refl; phrase = AllPass-from_list_all is_value_byte (phrase_of 400) refl; short = lit≤ tt; small = omega arith }

line_404 : IsLine 404
unfolding digits httparse_on_literals
line_404 = record { three = refl; digits = AllPass-from_list_all is_ascii_digit (decimal 404) refl; phrase = AllPass-from_list_all is_value_byte (phrase_of 404) refl; short = lit≤ tt; small = omega arith }

line_405 : IsLine 405
unfolding digits httparse_on_literals
line_405 = record { three = refl; digits = AllPass-from_list_all is_ascii_digit (decimal 405) refl; phrase = AllPass-from_list_all is_value_byte (phrase_of 405) refl; short = lit≤ tt; small = omega arith }

line_413 : IsLine 413
unfolding digits httparse_on_literals
line_413 = record { three = refl; digits = AllPass-from_list_all is_ascii_digit (decimal 413) refl; phrase = AllPass-from_list_all is_value_byte (phrase_of 413) refl; short = lit≤ tt; small = omega arith }

line_505 : IsLine 505
unfolding digits httparse_on_literals
line_505 = record { three = refl; digits = AllPass-from_list_all is_ascii_digit (decimal 505) refl; phrase = AllPass-from_list_all is_value_byte (phrase_of 505) refl; short = lit≤ tt; small = omega arith }

line_is : (status : ℕ) → IsStatus status → IsLine status
line_is status (inl e) = subst IsLine (sym e) line_200
line_is status (inr (inl e)) = subst IsLine (sym e) line_400
line_is status (inr (inr (inl e))) = subst IsLine (sym e) line_404
line_is status (inr (inr (inr (inl e)))) = subst IsLine (sym e) line_405
line_is status (inr (inr (inr (inr (inl e))))) = subst IsLine (sym e) line_413
line_is status (inr (inr (inr (inr (inr e))))) = subst IsLine (sym e) line_505

-- ---- the head whole

abbrev before_fields : ℕ → List ℕ → List ℕ
before_fields status section = codes "HTTP/1.1 " ++ (decimal status ++ (32 ∷ (phrase_of status ++ (crlf ++ section))))

line_text : (status : ℕ) (section : List ℕ) → status_line status ++ section ≡ before_fields status section
line_text status section = simp append_assoc

tree_text : (status : ℕ) (json : Bool) (edition : Option ℕ) (allow close : Bool) → print_response (head_of status json edition allow close)
    ≡ before_fields status (flat_map print_field (all_fields json edition allow close) ++ crlf)
unfolding print_response
tree_text status json edition allow close =
    let section : List ℕ = flat_map print_field (all_fields json edition allow close) ++ crlf in
    let phrase : List ℕ = 32 ∷ phrase_of status in
    ap (λ w. codes "HTTP/1.1 " ++ w) (append_assoc (decimal status ++ phrase) crlf section ∙ append_assoc (decimal status) phrase (crlf ++ section))

head_text : (status : ℕ) (json : Bool) (edition : Option ℕ) (allow close : Bool) → print_response (head_of status json edition allow close)
    ≡ status_line status ++ (type_line json ++ (edition_line edition ++ (allowed allow ++ (coding_line ++ (close_line close ++ crlf)))))
head_text status json edition allow close =
    let section : List ℕ = flat_map print_field (all_fields json edition allow close) ++ crlf in
    tree_text status json edition allow close ∙ (sym (line_text status section) ∙ ap (λ w. status_line status ++ w) (section_text json edition allow close crlf))

type_short : (json : Bool) → length (type_line json) ≤ 64
type_short true = lit≤ tt
type_short false = lit≤ tt

edition_short : (edition : Option ℕ) → IfSome edition (λ n. n < 2 ^ 64) → length (edition_line edition) ≤ 64
edition_short None h = lit≤ tt
edition_short (Some n) h =
    let few = length-decimal-le 20 n (omega arith) (omega (arith, h)) h in
    omega (arith, few, length-append (codes "X-Edr-Edition: ") (decimal n ++ codes "\r\n"), length-append (decimal n) (codes "\r\n"))

allow_short : (allow : Bool) → length (allowed allow) ≤ 64
allow_short true = lit≤ tt
allow_short false = lit≤ tt

close_short : (close : Bool) → length (close_line close) ≤ 64
close_short true = lit≤ tt
close_short false = lit≤ tt

few_fields : (json : Bool) (edition : Option ℕ) (allow close : Bool) → length (all_fields json edition allow close) ≤ 64
few_fields json None true true = lit≤ tt
few_fields json None true false = lit≤ tt
few_fields json None false true = lit≤ tt
few_fields json None false false = lit≤ tt
few_fields json (Some n) true true = lit≤ tt
few_fields json (Some n) true false = lit≤ tt
few_fields json (Some n) false true = lit≤ tt
few_fields json (Some n) false false = lit≤ tt

head_is : (status : ℕ) (json : Bool) (edition : Option ℕ) (allow close : Bool) → IsStatus status → IfSome edition (λ n. n < 2 ^ 64) → IsHead (head_of status json edition allow close)
head_is status json edition allow close s h =
    let line = line_is status s in
    let type = type_short json in
    let number = edition_short edition h in
    let methods = allow_short allow in
    let ends = close_short close in
    let short = line.short in
    record {
      reads = record { minor = omega arith; digits = (line.three, line.digits); reason = line.phrase; fields = fields_are json edition allow close h };
      version = refl;
      few_fields = few_fields json edition allow close;
      short = omega (
        arith,
        ap length (head_text status json edition allow close),
        short,
        type,
        number,
        methods,
        ends,
        length-append (status_line status) (type_line json ++ (edition_line edition ++ (allowed allow ++ (coding_line ++ (close_line close ++ crlf))))),
        length-append (type_line json) (edition_line edition ++ (allowed allow ++ (coding_line ++ (close_line close ++ crlf)))),
        length-append (edition_line edition) (allowed allow ++ (coding_line ++ (close_line close ++ crlf))),
        length-append (allowed allow) (coding_line ++ (close_line close ++ crlf)),
        length-append coding_line (close_line close ++ crlf),
        length-append (close_line close) crlf,
      );
    }

-- ---- what its fields say

abbrev trimmed : Option ℕ → List (List ℕ)
trimmed None = []
trimmed (Some n) = trim_ows (32 ∷ decimal n) ∷ []

edition_values : (json : Bool) (edition : Option ℕ) (allow close : Bool) → values_of (codes "x-edr-edition") (map name_and_value (all_fields json edition allow close)) ≡ trimmed edition
edition_values json None true true = refl
edition_values json None true false = refl
edition_values json None false true = refl
edition_values json None false false = refl
edition_values json (Some n) true true = refl
edition_values json (Some n) true false = refl
edition_values json (Some n) false true = refl
edition_values json (Some n) false false = refl

edition_says : (json : Bool) (edition : Option ℕ) (allow close : Bool) → IfSome edition (λ n. n < 2 ^ 64) → IsEdition (map name_and_value (all_fields json edition allow close)) edition
edition_says json None allow close h =
    λ n small x. none x.value (sym x.one ∙ edition_values json None allow close)
  where
    none : (v : List ℕ) → ◌≡◌ {A = List (List ℕ)} (v ∷ []) [] → ⊥
    none v e = cc
edition_says json (Some n) allow close h =
    let passes = decimal_digits n h in
    let trim = trim_digits (decimal n) passes in (
      record {
        value = decimal n;
        one = edition_values json (Some n) allow close ∙ ap (λ w. w ∷ []) trim;
        some = decimal_nonempty n h;
        digits = passes;
        number_is = sym (decimal_is_IsNumeral n h).1;
      },
      h,
    )

coding_says : (json : Bool) (edition : Option ℕ) (allow close : Bool) → IsInChunks (map name_and_value (all_fields json edition allow close))
unfolding trim_ows
coding_says json None true true = refl
coding_says json None true false = refl
coding_says json None false true = refl
coding_says json None false false = refl
coding_says json (Some n) true true = refl
coding_says json (Some n) true false = refl
coding_says json (Some n) false true = refl
coding_says json (Some n) false false = refl

-- ---- the law

pub written_replies : WrittenRepliesAreRead
written_replies body edition close rest s h few =
    let allow : Bool = body.status == 405 in
    let small = (line_is body.status s).small in
    let whole : (reply_head body.status body.json edition close ++ chunked body.text) ++ rest ≡ print_response (head_of body.status body.json edition allow close) ++ (chunked body.text ++ rest) =
    append_assoc (reply_head body.status body.json edition close) (chunked body.text) rest
    ∙ ap (λ w. w ++ (chunked body.text ++ rest)) (sym (head_text body.status body.json edition allow close)) in
    record {
      head = head_of body.status body.json edition allow close;
      behind = chunked body.text ++ rest;
      framing = Chunked;
      begins = (head_is body.status body.json edition allow close s h, whole);
      status = sym (decimal_is_IsNumeral body.status (omega (arith, small))).1;
      edition = edition_says body.json edition allow close h;
      framed = coding_says body.json edition allow close;
      body = written_body body.text rest few;
    }
