-- The texts among the tokens of UTF-8 are UTF-8.
use Rattle.std.proofs.Common.{◌≡◌, ℕ, suc, ◌≤◌, Bool, true, false, cond, ◌&&◌, ◌==◌, List, [], ◌∷◌, ◌++◌, IsUtf8, Option, Some, None, refl, arith, append_assoc}
use Rattle.std.specs.Prelude.{⊤, nat_eq, length, take, drop, ◌-◌}
use Rattle.std.specs.List.{starts_with}
use Rattle.std.proofs.lemmas.Bool.{eqb-true}
use Rattle.json.specs.Ascii as ascii
use Rattle.json.specs.Token.{Token, begin_object, end_object, begin_array, end_array, key, string, number, boolean, null, bad}
use Rattle.json.specs.Text.{plain, content}
use Rattle.json.specs.Word.{is_operator, is_space, ends_word, head, literal, number_before, after_number, word}
use Rattle.json.specs.Lex.{Lexeme, token, comma, colon, Class, quote, backslash, operator, space, other, class, operator_lexeme, string_token, Mode, between, in_word, in_string, in_escape, lex_byte, lex, Place, fresh, after_value, after_comma, after_key, begins_colon, may_begin, may_close, if_allowed, place_token, punctuate, tokens}
use Rattle.edr_json.proofs.Contents.{behind_ascii, content_is_utf8}

-- the text of a token is UTF-8, where it has one
abbrev pub TextIs : Token → Type 0
TextIs begin_object = ⊤
TextIs end_object = ⊤
TextIs begin_array = ⊤
TextIs end_array = ⊤
TextIs (key s) = IsUtf8 s
TextIs (string s) = IsUtf8 s
TextIs (number s) = ⊤
TextIs (boolean b) = ⊤
TextIs null = ⊤
TextIs bad = ⊤

-- and so of each
abbrev pub TextsAre : List Token → Type 0
TextsAre [] = ⊤
TextsAre (t ∷ ts) = TextIs t × TextsAre ts

abbrev LexemesAre : List Lexeme → Type 0
LexemesAre [] = ⊤
LexemesAre (token t ∷ ls) = TextIs t × LexemesAre ls
LexemesAre (comma ∷ ls) = LexemesAre ls
LexemesAre (colon ∷ ls) = LexemesAre ls

-- what holds of both holds of the one that is chosen
either_of : {A : Type 0} (P : A → Type 0) (b : Bool) (x y : A) → P x → P y → P (cond b x y)
either_of P true x y one two = one
either_of P false x y one two = two

-- ---- lexemes

-- a word has no text
literal_is : (name : List ℕ) (t : Token) (xs : List ℕ) → TextIs t → TextIs (literal name t xs)
literal_is name t xs is = either_of TextIs (starts_with nat_eq xs name && ends_word (drop (length name) xs)) t bad is tt

number_is : (xs : List ℕ) (rest : Option (List ℕ)) → TextIs (number_before xs rest)
number_is xs None = tt
number_is xs (Some rest) = either_of TextIs (ends_word rest) (number (take (length xs - length rest) xs)) bad tt tt

word_is : (xs : List ℕ) → TextIs (word xs)
unfolding word
word_is xs =
    either_of TextIs (head xs == ascii.lower_t) (literal ascii.true_text (boolean true) xs) _ (literal_is ascii.true_text (boolean true) xs tt)
    (either_of TextIs (head xs == ascii.lower_f) (literal ascii.false_text (boolean false) xs) _ (literal_is ascii.false_text (boolean false) xs tt)
    (either_of TextIs (head xs == ascii.lower_n) (literal ascii.null_text null xs) _ (literal_is ascii.null_text null xs tt) (number_is xs (after_number xs))))

-- an operator hasn't either
operator_is : (x : ℕ) (ls : List Lexeme) → LexemesAre ls → LexemesAre (operator_lexeme x ∷ ls)
operator_is x ls rest =
    let P : Lexeme → Type 0 = λ l. LexemesAre (l ∷ ls) in
    either_of P (x == ascii.open_brace) (token begin_object) _ (tt, rest)
    (either_of P (x == ascii.close_brace) (token end_object) _ (tt, rest)
    (either_of P (x == ascii.open_bracket) (token begin_array) _ (tt, rest)
    (either_of P (x == ascii.close_bracket) (token end_array) _ (tt, rest)
    (either_of P (x == ascii.comma) comma colon rest rest))))

-- a string has its content
string_is : (o : Option (List ℕ)) → ((s : List ℕ) → o ≡ Some s → IsUtf8 s) → TextIs (string_token o)
string_is None all = tt
string_is (Some s) all = all s refl

-- the byte at which a string begins
quote_by : (a b c d : Bool) → cond a quote (cond b backslash (cond c operator (cond d space other))) ≡ quote → a ≡ true
quote_by true b c d h = refl
quote_by false true c d h = cc
quote_by false false true d h = cc
quote_by false false false true h = cc
quote_by false false false false h = cc

quote_is : (x : ℕ) → class x ≡ quote → x ≡ 34
quote_is x h = eqb-true x 34 (quote_by (x == ascii.quote) (x == ascii.backslash) (is_operator x) (is_space x) h)

-- the lexeme that begins at a byte, if one does, and those behind it
byte_is : (m : Mode) (c : Class) (x : ℕ) (xs : List ℕ) (k : Mode → List Lexeme) → class x ≡ c → (x ≡ 34 → IsUtf8 xs) → ((next : Mode) → LexemesAre (k next))
    → LexemesAre (lex_byte m c x xs k)
byte_is between quote x xs k is behind rest = (string_is (content plain xs) (λ s. content_is_utf8 xs s (behind (quote_is x is))), rest in_string)
byte_is between backslash x xs k is behind rest = (tt, rest in_word)
byte_is between operator x xs k is behind rest = operator_is x (k between) (rest between)
byte_is between space x xs k is behind rest = rest between
byte_is between other x xs k is behind rest = (word_is (x ∷ xs), rest in_word)
byte_is in_word quote x xs k is behind rest = rest in_word
byte_is in_word backslash x xs k is behind rest = rest in_word
byte_is in_word operator x xs k is behind rest = operator_is x (k between) (rest between)
byte_is in_word space x xs k is behind rest = rest between
byte_is in_word other x xs k is behind rest = rest in_word
byte_is in_string quote x xs k is behind rest = rest between
byte_is in_string backslash x xs k is behind rest = rest in_escape
byte_is in_string operator x xs k is behind rest = rest in_string
byte_is in_string space x xs k is behind rest = rest in_string
byte_is in_string other x xs k is behind rest = rest in_string
byte_is in_escape c x xs k is behind rest = rest in_string

-- those of the rest of a text
lexemes_are : (xs front : List ℕ) (m : Mode) → IsUtf8 (front ++ xs) → LexemesAre (lex m xs)
unfolding lex
lexemes_are [] front m utf8 = tt
lexemes_are (x ∷ xs) front m utf8 =
    let whole : IsUtf8 ((front ++ x ∷ []) ++ xs) = rw (append_assoc front (x ∷ []) xs) utf8 in
    byte_is m (class x) x xs (λ next. lex next xs) refl (λ is. behind_ascii front xs x utf8 (omega arith)) (λ next. lexemes_are xs (front ++ x ∷ []) next whole)

-- ---- tokens

allowed_is : (may : Bool) (t : Token) (k : Place → List Token) (next : Place) → TextIs t → TextsAre (k next) → TextsAre (if_allowed may t k next)
allowed_is true t k next is rest = (is, rest)
allowed_is false t k next is rest = (tt, tt)

placed_is : (p : Place) (t : Token) (before_colon : Bool) (k : Place → List Token) → TextIs t → ((next : Place) → TextsAre (k next)) → TextsAre (place_token p t before_colon k)
placed_is p begin_object b k is rest = allowed_is (may_begin p) begin_object k fresh tt (rest fresh)
placed_is p end_object b k is rest = allowed_is (may_close p) end_object k after_value tt (rest after_value)
placed_is p begin_array b k is rest = allowed_is (may_begin p) begin_array k fresh tt (rest fresh)
placed_is p end_array b k is rest = allowed_is (may_close p) end_array k after_value tt (rest after_value)
placed_is p (key s) b k is rest = (tt, tt)
placed_is p (string s) true k is rest = allowed_is (may_begin p) (key s) k after_key is (rest after_key)
placed_is p (string s) false k is rest = allowed_is (may_begin p) (string s) k after_value is (rest after_value)
placed_is p (number s) b k is rest = allowed_is (may_begin p) (number s) k after_value tt (rest after_value)
placed_is p (boolean x) b k is rest = allowed_is (may_begin p) (boolean x) k after_value tt (rest after_value)
placed_is p null b k is rest = allowed_is (may_begin p) null k after_value tt (rest after_value)
placed_is p bad b k is rest = (tt, tt)

punctuated : (p : Place) (ls : List Lexeme) → LexemesAre ls → TextsAre (punctuate p ls)
unfolding punctuate
punctuated fresh [] h = tt
punctuated after_value [] h = tt
punctuated after_comma [] h = (tt, tt)
punctuated after_key [] h = (tt, tt)
punctuated fresh (token t ∷ ls) h = placed_is fresh t (begins_colon ls) (λ next. punctuate next ls) h.0 (λ next. punctuated next ls h.1)
punctuated after_value (token t ∷ ls) h = placed_is after_value t (begins_colon ls) (λ next. punctuate next ls) h.0 (λ next. punctuated next ls h.1)
punctuated after_comma (token t ∷ ls) h = placed_is after_comma t (begins_colon ls) (λ next. punctuate next ls) h.0 (λ next. punctuated next ls h.1)
punctuated after_key (token t ∷ ls) h = placed_is after_key t (begins_colon ls) (λ next. punctuate next ls) h.0 (λ next. punctuated next ls h.1)
punctuated fresh (comma ∷ ls) h = (tt, tt)
punctuated after_value (comma ∷ ls) h = punctuated after_comma ls h
punctuated after_comma (comma ∷ ls) h = (tt, tt)
punctuated after_key (comma ∷ ls) h = (tt, tt)
punctuated fresh (colon ∷ ls) h = (tt, tt)
punctuated after_value (colon ∷ ls) h = (tt, tt)
punctuated after_comma (colon ∷ ls) h = (tt, tt)
punctuated after_key (colon ∷ ls) h = punctuated fresh ls h

-- the tokens of a text
pub tokens_are : (text : List ℕ) → IsUtf8 text → TextsAre (tokens text)
tokens_are text utf8 = punctuated fresh (lex between text) (lexemes_are text [] between utf8)

-- ---- how many there are

-- a byte begins at most one lexeme
byte_count : (m : Mode) (c : Class) (x n : ℕ) (xs : List ℕ) (k : Mode → List Lexeme) → ((next : Mode) → length (k next) ≤ n) → length (lex_byte m c x xs k) ≤ suc n
byte_count between quote x n xs k rest = let h = rest in_string in omega arith
byte_count between backslash x n xs k rest = let h = rest in_word in omega arith
byte_count between operator x n xs k rest = let h = rest between in omega arith
byte_count between space x n xs k rest = let h = rest between in omega arith
byte_count between other x n xs k rest = let h = rest in_word in omega arith
byte_count in_word quote x n xs k rest = let h = rest in_word in omega arith
byte_count in_word backslash x n xs k rest = let h = rest in_word in omega arith
byte_count in_word operator x n xs k rest = let h = rest between in omega arith
byte_count in_word space x n xs k rest = let h = rest between in omega arith
byte_count in_word other x n xs k rest = let h = rest in_word in omega arith
byte_count in_string quote x n xs k rest = let h = rest between in omega arith
byte_count in_string backslash x n xs k rest = let h = rest in_escape in omega arith
byte_count in_string operator x n xs k rest = let h = rest in_string in omega arith
byte_count in_string space x n xs k rest = let h = rest in_string in omega arith
byte_count in_string other x n xs k rest = let h = rest in_string in omega arith
byte_count in_escape c x n xs k rest = let h = rest in_string in omega arith

lexeme_count : (m : Mode) (xs : List ℕ) → length (lex m xs) ≤ length xs
unfolding lex
lexeme_count m [] = omega arith
lexeme_count m (x ∷ xs) = byte_count m (class x) x (length xs) xs (λ next. lex next xs) (λ next. lexeme_count next xs)

-- a lexeme is at most one token, and one fault may end them
allowed_count : (may : Bool) (t : Token) (k : Place → List Token) (next : Place) (n : ℕ) → length (k next) ≤ suc n → length (if_allowed may t k next) ≤ suc (suc n)
allowed_count true t k next n rest = omega arith
allowed_count false t k next n rest = omega arith

placed_count : (p : Place) (t : Token) (before_colon : Bool) (k : Place → List Token) (n : ℕ) → ((next : Place) → length (k next) ≤ suc n) → length (place_token p t before_colon k) ≤ suc (suc n)
placed_count p begin_object b k n rest = allowed_count (may_begin p) begin_object k fresh n (rest fresh)
placed_count p end_object b k n rest = allowed_count (may_close p) end_object k after_value n (rest after_value)
placed_count p begin_array b k n rest = allowed_count (may_begin p) begin_array k fresh n (rest fresh)
placed_count p end_array b k n rest = allowed_count (may_close p) end_array k after_value n (rest after_value)
placed_count p (key s) b k n rest = omega arith
placed_count p (string s) true k n rest = allowed_count (may_begin p) (key s) k after_key n (rest after_key)
placed_count p (string s) false k n rest = allowed_count (may_begin p) (string s) k after_value n (rest after_value)
placed_count p (number s) b k n rest = allowed_count (may_begin p) (number s) k after_value n (rest after_value)
placed_count p (boolean x) b k n rest = allowed_count (may_begin p) (boolean x) k after_value n (rest after_value)
placed_count p null b k n rest = allowed_count (may_begin p) null k after_value n (rest after_value)
placed_count p bad b k n rest = omega arith

token_count : (p : Place) (ls : List Lexeme) → length (punctuate p ls) ≤ suc (length ls)
unfolding punctuate
token_count fresh [] = omega arith
token_count after_value [] = omega arith
token_count after_comma [] = omega arith
token_count after_key [] = omega arith
token_count fresh (token t ∷ ls) = placed_count fresh t (begins_colon ls) (λ next. punctuate next ls) (length ls) (λ next. token_count next ls)
token_count after_value (token t ∷ ls) = placed_count after_value t (begins_colon ls) (λ next. punctuate next ls) (length ls) (λ next. token_count next ls)
token_count after_comma (token t ∷ ls) = placed_count after_comma t (begins_colon ls) (λ next. punctuate next ls) (length ls) (λ next. token_count next ls)
token_count after_key (token t ∷ ls) = placed_count after_key t (begins_colon ls) (λ next. punctuate next ls) (length ls) (λ next. token_count next ls)
token_count fresh (comma ∷ ls) = omega arith
token_count after_value (comma ∷ ls) = let h = token_count after_comma ls in omega arith
token_count after_comma (comma ∷ ls) = omega arith
token_count after_key (comma ∷ ls) = omega arith
token_count fresh (colon ∷ ls) = omega arith
token_count after_value (colon ∷ ls) = omega arith
token_count after_comma (colon ∷ ls) = omega arith
token_count after_key (colon ∷ ls) = let h = token_count fresh ls in omega arith

pub tokens_counted : (text : List ℕ) → length (tokens text) ≤ suc (length text)
tokens_counted text = let h = token_count fresh (lex between text) in let k = lexeme_count between text in omega arith
