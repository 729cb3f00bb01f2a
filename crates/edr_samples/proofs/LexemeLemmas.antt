-- What the lexer of JSON gives at a mark, a blank, a whole number, `null`, and a text with nothing to escape.
use Rattle.std.proofs.Common.{◌≡◌, ℕ, zero, suc, ◌+◌, ◌*◌, ◌/◌, ◌%◌, ◌<◌, ◌≤◌, ◌^◌, pos, negsuc, neg_ℤ, ◌||◌, Bool, true, false, cond, ◌==◌, List, [], ◌∷◌, ◌++◌, length, take, drop, decimal, inl, inr, ◌⊎◌, refl, sym, ap, ap₂, ◌∙◌, subst, arith}
use Rattle.std.proofs.lemmas.Bool.{or_cases, or_parts, not-true, eqb-true, eqb-false, ltb-false}
use Rattle.std.proofs.lemmas.List.{drop_more}
use Rattle.std.proofs.lemmas.Fmt.{decimal_step}
use Rattle.std.specs.List.{prefix_len}
use Rattle.json.specs.Token.{bad, string, null, begin_array, end_array, begin_object, end_object}
use Rattle.json.specs.Text.{content, plain}
use Rattle.json.specs.Word.{head, is_operator, is_space, ends_word, word}
use Rattle.json.specs.Lex.{token, comma, colon, string_token, lex, between, in_string}
use Rattle.json.specs.Print.{escape}
use Rattle.json.specs.Run.{is_plain}
use Rattle.json.proofs.Printed.Decimals.{IsNumber-decimal, IsNumber-signed_decimal}
use Rattle.json.proofs.Printed.Numbers.{in_word-ended, lex-number}
use Rattle.json.proofs.Printed.Strings.{escape_byte_plain, content-escape, lex-escape}
use Rattle.serde_json.proofs.Numbers.{number_of-decimal, number_of-negative}
use Rattle.edr_samples.specs.Lexemes.{Gives, GivesWhole}

-- ---- the byte at a place, and the text from it on

pub at_byte : (d : List ℕ) (i b : ℕ) → i < length d → head (drop i d) ≡ b → drop i d ≡ b ∷ drop (i + 1) d
at_byte d i b inside h = let e = drop_more d i 32 inside in e ∙ ap (λ x. x ∷ drop (i + 1) d) (sym (ap head e) ∙ h)

-- ---- marks and blanks

pub lex-nil : lex between [] ≡ []
unfolding lex
lex-nil = refl

pub lex-comma : (r : List ℕ) → Gives (44 ∷ r) comma r
unfolding lex
lex-comma r = refl

pub lex-colon : (r : List ℕ) → Gives (58 ∷ r) colon r
unfolding lex
lex-colon r = refl

pub lex-begin_array : (r : List ℕ) → Gives (91 ∷ r) (token begin_array) r
unfolding lex
lex-begin_array r = refl

pub lex-end_array : (r : List ℕ) → Gives (93 ∷ r) (token end_array) r
unfolding lex
lex-end_array r = refl

pub lex-begin_object : (r : List ℕ) → Gives (123 ∷ r) (token begin_object) r
unfolding lex
lex-begin_object r = refl

pub lex-end_object : (r : List ℕ) → Gives (125 ∷ r) (token end_object) r
unfolding lex
lex-end_object r = refl

-- which bytes are blanks
four : (P : ℕ → Type 0) → P 32 → P 9 → P 10 → P 13 → (x : ℕ) → is_space x ≡ true → P x
four P a b c d x h = last (or_cases _ _ h)
  where
    here : (n : ℕ) → P n → (x == n) ≡ true → P x
    here n p e = subst P (sym (eqb-true x n e)) p

    first : ((x == 32) ≡ true) ⊎ ((x == 9) ≡ true) → P x
    first (inl e) = here 32 a e
    first (inr e) = here 9 b e

    next : (((x == 32) || (x == 9)) ≡ true) ⊎ ((x == 10) ≡ true) → P x
    next (inl e) = first (or_cases _ _ e)
    next (inr e) = here 10 c e

    last : ((((x == 32) || (x == 9)) || (x == 10)) ≡ true) ⊎ ((x == 13) ≡ true) → P x
    last (inl e) = next (or_cases _ _ e)
    last (inr e) = here 13 d e

pub lex-blank : (x : ℕ) (r : List ℕ) → is_space x ≡ true → lex between (x ∷ r) ≡ lex between r
unfolding lex
lex-blank x r h = four (λ b. lex between (b ∷ r) ≡ lex between r) refl refl refl refl x h

-- ---- words

pub lex-null : (r : List ℕ) → ends_word r ≡ true → Gives (110 ∷ 117 ∷ 108 ∷ 108 ∷ r) (token null) r
unfolding lex word
lex-null r ended = ap₂ (λ b l. token (cond b null bad) ∷ l) ended (in_word-ended r ended)

-- one digit more
pub decimal_more : (n d : ℕ) → 0 < n → d ≤ 9 → n * 10 + d < 2 ^ 64 → decimal (n * 10 + d) ≡ decimal n ++ (48 + d) ∷ []
decimal_more n d some small fits =
    let front : (n * 10 + d) / 10 ≡ n = omega (arith, small) in
    let end : (n * 10 + d) % 10 ≡ d = omega (arith, small) in
    decimal_step (n * 10 + d) (omega arith) fits ∙ ap₂ (λ m e. decimal m ++ (48 + e) ∷ []) front end

pub gives_natural : (n : ℕ) (text rest : List ℕ) → n < 10 ^ 18 → text ≡ decimal n ++ rest → ends_word rest ≡ true → GivesWhole text (pos n) rest
gives_natural n text rest few is ended =
    let fits : n < 2 ^ 64 = omega arith in
    (decimal n, number_of-decimal n fits, ap (lex between) is ∙ lex-number (decimal n) rest (IsNumber-decimal n fits) ended)

pub gives_negative : (n : ℕ) (text rest : List ℕ) → suc n < 10 ^ 18 → text ≡ 45 ∷ (decimal (suc n) ++ rest) → ends_word rest ≡ true → GivesWhole text (negsuc n) rest
gives_negative n text rest few is ended =
    let fits : n < 2 ^ 63 = omega arith in
    (45 ∷ decimal (suc n), number_of-negative n fits, ap (lex between) is ∙ lex-number (45 ∷ decimal (suc n)) rest (IsNumber-signed_decimal (negsuc n) (omega arith)) ended)

pub gives_minus : (n : ℕ) (text rest : List ℕ) → 0 < n → n < 10 ^ 18 → text ≡ 45 ∷ (decimal n ++ rest) → ends_word rest ≡ true → GivesWhole text (neg_ℤ (pos n)) rest
gives_minus zero text rest some few is ended = absurd (omega arith)
gives_minus (suc n) text rest some few is ended = gives_negative n text rest few is ended

-- the byte that follows ends a word
pub ended_by : (rest : List ℕ) (b : ℕ) → b ≡ head rest → (is_operator b || is_space b) ≡ true → ends_word rest ≡ true
ended_by rest b e h = ap (λ x. is_operator x || is_space x) (sym e) ∙ h

-- ---- texts

plain_step : (p : Bool) (x n : ℕ) (xs : List ℕ) → p ≡ is_plain x → escape (take n xs) ≡ take n xs → escape (take (cond p (1 + n) 0) (x ∷ xs)) ≡ take (cond p (1 + n) 0) (x ∷ xs)
plain_step false x n xs e h = refl
plain_step true x n xs e h =
    let next : suc n ≡ 1 + n = omega arith in
    let none = or_parts ((x == 34) || (x == 92)) _ (not-true _ (sym e)) in
    let tests = or_parts (x == 34) _ none.0 in
    let one = escape_byte_plain x (eqb-false x 34 tests.0) (eqb-false x 92 tests.1) (ltb-false x 32 none.1) in
    subst (λ k. escape (take k (x ∷ xs)) ≡ take k (x ∷ xs)) next (ap₂ (λ a b. a ++ b) one h)

-- the bytes up to the first quote, backslash or byte below a blank have nothing to escape
pub escape-plain : (xs : List ℕ) → escape (take (prefix_len is_plain xs) xs) ≡ take (prefix_len is_plain xs) xs
escape-plain [] = refl
escape-plain (x ∷ xs) = plain_step (is_plain x) x (prefix_len is_plain xs) xs refl (escape-plain xs)

pub lex-text : (s r : List ℕ) → escape s ≡ s → Gives (34 ∷ (s ++ 34 ∷ r)) (token (string s)) r
unfolding lex
lex-text s r h =
    let same : s ++ 34 ∷ r ≡ escape s ++ 34 ∷ r = ap (λ e. e ++ 34 ∷ r) (sym h) in
    ap₂ (λ o l. token (string_token o) ∷ l) (ap (content plain) same ∙ content-escape s r) (ap (lex in_string) same ∙ lex-escape s r)
