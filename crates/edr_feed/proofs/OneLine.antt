-- The text of plain JSON is one line.
use Rattle.std.proofs.Common.{◌≡◌, ℕ, zero, suc, ◌+◌, ◌<◌, ◌≤◌, ◌^◌, ◌==◌, ◌&&◌, pos, negsuc, Bool, true, false, not, true≢false, List, [], ◌∷◌, ◌++◌, map, Contains, inl, inr, sym, refl, ap, subst, arith}
use Rattle.std.proofs.lemmas.Bool.{and_parts, not-true, cases_lt, cases_eq}
use Rattle.std.proofs.lemmas.Fmt.{decimal_digit, decimal-digits_of}
use Rattle.std.specs.Fmt.{decimal, signed_decimal}
use Rattle.json.specs.Print.{escape_byte, escape, quoted, token_text}
use Rattle.json.specs.Token.{boolean as boolean_token, null as null_token}
use Rattle.json.proofs.Printed.Strings.{escape_byte_plain}
use Rattle.serde_json.specs.Data.{Num, unsigned, negative, float, Data, null, boolean, number, string, array, object, Items, no_items, item, Members, no_members, member}
use Rattle.serde_json.specs.Written.{compact_text, items_text, members_text, comma_if, number_text}
use Rattle.covjson_value.specs.Plain.{IsWhole, IsPlain, ArePlain, IsOrdered}

-- no line feed
abbrev pub IsOneLine : List ℕ → Type 0
IsOneLine text = ¬ (Contains text 10)

none : IsOneLine []
none (k, inside, e) = absurd (omega (arith, inside))

before : (x : ℕ) (xs : List ℕ) → ¬ (x ≡ 10) → IsOneLine xs → IsOneLine (x ∷ xs)
before x xs other h (zero, inside, e) = other e
before x xs other h (suc k, inside, e) = h (k, omega (arith, inside), e)

joined : (xs ys : List ℕ) → IsOneLine xs → IsOneLine ys → IsOneLine (xs ++ ys)
joined [] ys p q = q
joined (x ∷ xs) ys p q = before x (xs ++ ys) (λ e. p (zero, omega arith, e)) (joined xs ys (λ h. p (suc h.0, omega (arith, h.1), h.2)) q)

-- ---- what can be looked at byte by byte

abbrev clean : List ℕ → Bool
clean [] = true
clean (x ∷ xs) = not (x == 10) && clean xs

one : (xs : List ℕ) → clean xs ≡ true → IsOneLine xs
one [] e = none
one (x ∷ xs) e =
    let p = and_parts (not (x == 10)) (clean xs) e in
    before x xs (λ same. let is : not (10 == 10) ≡ true = subst (λ (y : ℕ). not (y == 10) ≡ true) same p.0 in true≢false (sym is)) (one xs p.1)

-- ---- strings

abbrev escapes_below : ℕ → Bool
escapes_below zero = true
escapes_below (suc n) = clean (escape_byte n) && escapes_below n

escape_below : (n : ℕ) → escapes_below n ≡ true → (x : ℕ) → x < n → clean (escape_byte x) ≡ true
escape_below zero e x h = absurd (omega arith)
escape_below (suc n) e x h =
    let p = and_parts _ _ e in
    elim (cases_eq x n) [ inl same ↦ rw same p.0 | inr other ↦ escape_below n p.1 x (omega arith) ]

all_clean : escapes_below 93 ≡ true
unfolding escape_byte
all_clean = refl

escaped : (x : ℕ) → IsOneLine (escape_byte x)
escaped x = elim (cases_lt x 93) [
  | inl small ↦ one (escape_byte x) (escape_below 93 all_clean x small)
  | inr big ↦
      subst IsOneLine (sym (escape_byte_plain x (λ e. omega (arith, e, big)) (λ e. omega (arith, e, big)) (omega (arith, big))))
      (before x [] (λ e. omega (arith, e, big)) none)
]

escape_line : (s : List ℕ) → IsOneLine (escape s)
escape_line [] = none
escape_line (x ∷ s) = joined (escape_byte x) (escape s) (escaped x) (escape_line s)

quoted_line : (s : List ℕ) → IsOneLine (quoted s)
quoted_line s = before 34 _ (λ e. omega (arith, e)) (joined (escape s) (34 ∷ []) (escape_line s) (one (34 ∷ []) refl))

-- ---- numbers

digits : (ds : List ℕ) → IsOneLine (map (λ d. 48 + d) ds)
digits [] = none
digits (d ∷ ds) = before (48 + d) _ (λ e. omega (arith, e)) (digits ds)

decimal_line : (n : ℕ) → n < 2 ^ 64 → IsOneLine (decimal n)
decimal_line zero h = subst IsOneLine (sym (decimal_digit 0 (omega arith))) (one (48 ∷ []) refl)
decimal_line (suc n) h = subst IsOneLine (sym (decimal-digits_of (suc n) (omega arith) h)) (digits _)

number_line : (n : Num) → IsWhole n → IsOneLine (number_text n)
number_line (unsigned n) h = decimal_line n h
number_line (negative (pos n)) h = absurd h
number_line (negative (negsuc n)) h = before 45 _ (λ e. omega (arith, e)) (decimal_line (suc n) (omega (arith, h)))
number_line (float x) h = absurd h

-- ---- trees

comma_line : (later : Bool) → IsOneLine (comma_if later)
comma_line true = one (44 ∷ []) refl
comma_line false = none

boolean_line : (b : Bool) → IsOneLine (token_text (boolean_token b))
boolean_line true = one (token_text (boolean_token true)) refl
boolean_line false = one (token_text (boolean_token false)) refl

mutual
  pub text_line : (d : Data) → IsPlain d → IsOneLine (compact_text d)
  text_line null h = one (token_text null_token) refl
  text_line (boolean b) h = boolean_line b
  text_line (number n) h = number_line n h
  text_line (string s) h = quoted_line s
  text_line (array ds) h = before 91 _ (λ e. omega (arith, e)) (items_line false ds h)
  text_line (object ms) h = before 123 _ (λ e. omega (arith, e)) (members_line false ms h)

  items_line : (later : Bool) (ds : Items) → ArePlain ds → IsOneLine (items_text later ds)
  items_line later no_items h = one (93 ∷ []) refl
  items_line later (item d ds) h = joined _ _ (comma_line later) (joined _ _ (text_line d h.0) (items_line true ds h.1))

  members_line : (later : Bool) (ms : Members) → IsOrdered ms → IsOneLine (members_text later ms)
  members_line later no_members h = one (125 ∷ []) refl
  members_line later (member k d ms) h =
      joined _ _ (comma_line later) (joined (quoted k) _ (quoted_line k) (before 58 _ (λ e. omega (arith, e)) (joined _ _ (text_line d h.1) (members_line true ms h.3))))
