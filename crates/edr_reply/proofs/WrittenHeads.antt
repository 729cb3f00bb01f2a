-- Heads of replies as the server writes them.
use Rattle.std.proofs.Common.{◌≡◌, ℕ, ◌<◌, ◌^◌, length, List, [], ◌∷◌, ◌++◌, reverse, codes, Bool, true, false, Some, None, refl, ap, ap₂, ◌∙◌, arith, lit<, append-nil}
use Rattle.std.specs.declared.option.Option.{Option}
use Rattle.std.specs.Prelude.{All, IfSome, IsTrue, if◌then◌else◌}
use Rattle.std.specs.Char.{is_ascii_digit}
use Rattle.std.specs.Fmt.{decimal}
use Rattle.std.specs.Int.{IsInRange}
use Rattle.std.specs.List.{AllPass as AllTrue, list_all, flat_map}
use Rattle.std.specs.Str.Parse.{AllDigits}
use Rattle.std.proofs.lemmas.Bool.{cond-false}
use Rattle.std.proofs.lemmas.Bool.Decides.{nat_tests}
use Rattle.std.proofs.lemmas.Fmt.{decimal_is_IsNumeral}
use Rattle.std.proofs.lemmas.Grind.{flat_map-append}
use Rattle.std.proofs.lemmas.List.{reverse-reverse}
use Rattle.std.proofs.lemmas.List.Elements.{All-nil, All-cons, All-append, All-head, All-tail}
use Rattle.std.proofs.lemmas.List.Sums.{AllPass-from_list_all}
use Rattle.std.proofs.lemmas.Str.Parse.{digit_from_value}
use mathlib.Core.List.{append_assoc}
use Rattle.httparse.specs.Grammar.{AllPass, Field as FieldLine, IsField, crlf as with_return, is_token_byte, is_value_byte, is_ows, skip_ows, trim_ows, print_field, ResponseHead}
use Rattle.httparse.proofs.OnLiterals.{httparse_on_literals}
use Rattle.httparse.proofs.TrimLemmas.{AllPass-reverse}
use Rattle.edr_http.specs.Replies.{phrase_of, type_line, edition_line, coding_line, close_line}

-- ---- the digits of a number

digit_passes : (c : ℕ) → IsInRange 48 57 c → is_ascii_digit c ≡ true
digit_passes c h = grind (arith, nat_tests, h)

all_pass : (ds : List ℕ) → AllDigits 10 ds → AllTrue is_ascii_digit ds
all_pass [] h = All-nil (λ c. is_ascii_digit c ≡ true)
all_pass (c ∷ cs) h = All-cons (λ c. is_ascii_digit c ≡ true) c cs (digit_passes c (digit_from_value c h.0)) (all_pass cs h.1)

pub decimal_digits : (n : ℕ) → n < 2 ^ 64 → AllTrue is_ascii_digit (decimal n)
decimal_digits n h = all_pass (decimal n) (decimal_is_IsNumeral n h).0.1

value_passes : (c : ℕ) → is_ascii_digit c ≡ true → IsTrue (is_value_byte c)
value_passes c h = grind (arith, nat_tests, h)

digits_are_values : (ds : List ℕ) → AllTrue is_ascii_digit ds → AllPass is_value_byte ds
digits_are_values [] h = All-nil (λ c. IsTrue (is_value_byte c))
digits_are_values (c ∷ cs) h =
    All-cons (λ c. IsTrue (is_value_byte c)) c cs (value_passes c (All-head (λ c. is_ascii_digit c ≡ true) c cs h)) (digits_are_values cs (All-tail (λ c. is_ascii_digit c ≡ true) c cs h))

no_blank : (c : ℕ) → is_ascii_digit c ≡ true → is_ows c ≡ false
no_blank c h = grind (arith, nat_tests, h)

skip_same : (ds : List ℕ) → AllTrue is_ascii_digit ds → skip_ows ds ≡ ds
skip_same [] h = refl
skip_same (c ∷ cs) h = cond-false _ _ _ (no_blank c (All-head (λ c. is_ascii_digit c ≡ true) c cs h))

pub trim_digits : (ds : List ℕ) → AllTrue is_ascii_digit ds → trim_ows (32 ∷ ds) ≡ ds
unfolding trim_ows
trim_digits ds h =
    ap (λ w. reverse (skip_ows (reverse w))) (skip_same ds h)
    ∙ (ap reverse (skip_same (reverse ds) (AllPass-reverse is_ascii_digit ds h)) ∙ reverse-reverse ds)

-- ---- the fields, as they are written

abbrev type_field : Bool → FieldLine
type_field json = record { name = codes "Content-Type"; raw = if json then codes " application/json" else codes " application/prs.coverage+json"; end = with_return }

abbrev edition_fields : Option ℕ → List FieldLine
edition_fields None = []
edition_fields (Some n) = record { name = codes "X-Edr-Edition"; raw = 32 ∷ decimal n; end = with_return } ∷ []

abbrev allow_fields : Bool → List FieldLine
allow_fields true = record { name = codes "Allow"; raw = codes " GET, HEAD"; end = with_return } ∷ []
allow_fields false = []

abbrev coding_field : FieldLine
coding_field = record { name = codes "Transfer-Encoding"; raw = codes " chunked"; end = with_return }

abbrev close_fields : Bool → List FieldLine
close_fields true = record { name = codes "Connection"; raw = codes " close"; end = with_return } ∷ []
close_fields false = []

abbrev pub all_fields : Bool → Option ℕ → Bool → Bool → List FieldLine
all_fields json edition allow close = type_field json ∷ (edition_fields edition ++ (allow_fields allow ++ (coding_field ∷ close_fields close)))

abbrev pub head_of : ℕ → Bool → Option ℕ → Bool → Bool → ResponseHead
head_of status json edition allow close = record {
  blank = [];
  minor = 1;
  digits = decimal status;
  reason = Some (phrase_of status);
  line_end = with_return;
  fields = all_fields json edition allow close;
  last = with_return;
}

-- ---- each is a field, and its line is the server's

field_is : (f : FieldLine) → 0 < length f.name → list_all is_token_byte f.name ≡ true → list_all is_value_byte f.raw ≡ true → IsField f
field_is f some name raw = record { name = (some, AllPass-from_list_all is_token_byte f.name name); raw = AllPass-from_list_all is_value_byte f.raw raw }

type_is : (json : Bool) → IsField (type_field json)
unfolding httparse_on_literals
type_is true = field_is (type_field true) (lit< tt) refl refl
type_is false = field_is (type_field false) (lit< tt) refl refl

edition_is : (edition : Option ℕ) → IfSome edition (λ n. n < 2 ^ 64) → All IsField (edition_fields edition)
unfolding httparse_on_literals
edition_is None h = All-nil IsField
edition_is (Some n) h =
    All-cons IsField _ [] (record {
      name = (lit< tt, AllPass-from_list_all is_token_byte (codes "X-Edr-Edition") refl);
      raw = All-cons (λ c. IsTrue (is_value_byte c)) 32 (decimal n) refl (digits_are_values (decimal n) (decimal_digits n h));
    }) (All-nil IsField)

allow_is : (allow : Bool) → All IsField (allow_fields allow)
unfolding httparse_on_literals
allow_is true = All-cons IsField _ [] (field_is _ (lit< tt) refl refl) (All-nil IsField)
allow_is false = All-nil IsField

coding_is : IsField coding_field
unfolding httparse_on_literals
coding_is = field_is coding_field (lit< tt) refl refl

close_is : (close : Bool) → All IsField (close_fields close)
unfolding httparse_on_literals
close_is true = All-cons IsField _ [] (field_is _ (lit< tt) refl refl) (All-nil IsField)
close_is false = All-nil IsField

pub fields_are : (json : Bool) (edition : Option ℕ) (allow close : Bool) → IfSome edition (λ n. n < 2 ^ 64) → All IsField (all_fields json edition allow close)
fields_are json edition allow close h =
    All-cons IsField (type_field json) _ (type_is json)
    (All-append IsField (edition_fields edition) _ (edition_is edition h)
    (All-append IsField (allow_fields allow) _ (allow_is allow) (All-cons IsField coding_field (close_fields close) coding_is (close_is close))))

type_text : (json : Bool) → print_field (type_field json) ≡ type_line json
type_text true = refl
type_text false = refl

edition_text : (edition : Option ℕ) → flat_map print_field (edition_fields edition) ≡ edition_line edition
edition_text None = refl
edition_text (Some n) = append-nil (edition_line (Some n))

abbrev pub allowed : Bool → List ℕ
allowed allow = if allow then codes "Allow: GET, HEAD\r\n" else []

allow_text : (allow : Bool) → flat_map print_field (allow_fields allow) ≡ allowed allow
allow_text true = refl
allow_text false = refl

close_text : (close : Bool) → flat_map print_field (close_fields close) ≡ close_line close
close_text true = refl
close_text false = refl

pub section_text : (json : Bool) (edition : Option ℕ) (allow close : Bool) (end : List ℕ) → flat_map print_field (all_fields json edition allow close) ++ end
    ≡ type_line json ++ (edition_line edition ++ (allowed allow ++ (coding_line ++ (close_line close ++ end))))
section_text json edition allow close end =
    let c : List ℕ = flat_map print_field (close_fields close) in
    let a : List ℕ = flat_map print_field (allow_fields allow) in
    let e : List ℕ = flat_map print_field (edition_fields edition) in
    let parts : flat_map print_field (all_fields json edition allow close) ≡ type_line json ++ (e ++ (a ++ (coding_line ++ c))) =
    ap₂ (λ x y. x ++ y) (type_text json) (flat_map-append print_field (edition_fields edition) (allow_fields allow ++ (coding_field ∷ close_fields close))
    ∙ ap (λ w. e ++ w) (flat_map-append print_field (allow_fields allow) (coding_field ∷ close_fields close))) in
    let same : type_line json ++ (e ++ (a ++ (coding_line ++ c))) ≡ type_line json ++ (edition_line edition ++ (allowed allow ++ (coding_line ++ close_line close))) =
    ap (λ w. type_line json ++ w) (ap₂ (λ x y. x ++ y) (edition_text edition) (ap₂ (λ x y. x ++ y) (allow_text allow) (ap (λ w. coding_line ++ w) (close_text close)))) in
    ap (λ w. w ++ end) (parts ∙ same)
    ∙ (append_assoc (type_line json) (edition_line edition ++ (allowed allow ++ (coding_line ++ close_line close))) end
    ∙ ap (λ w. type_line json ++ w) (append_assoc (edition_line edition) (allowed allow ++ (coding_line ++ close_line close)) end
    ∙ ap (λ w. edition_line edition ++ w) (append_assoc (allowed allow) (coding_line ++ close_line close) end ∙ ap (λ w. allowed allow ++ w) (append_assoc coding_line (close_line close) end))))
