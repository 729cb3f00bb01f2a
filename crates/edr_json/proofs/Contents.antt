-- The content of a string within UTF-8 is UTF-8.
use Rattle.std.proofs.Common.{◌≡◌, ℕ, zero, suc, ◌+◌, ◌*◌, ◌<◌, ◌≤◌, Bool, true, false, cond, ◌&&◌, ◌==◌, nat_lt, List, [], ◌∷◌, ◌++◌, length, get_or, IsUtf8, Option, Some, None, option_and_then, refl, sym, subst, arith, append_assoc}
use Rattle.std.proofs.Math.Seq.{drop-append-add, take-append_seam}
use Rattle.std.proofs.lemmas.Bool.{and_parts, eqb-true}
use Rattle.std.proofs.lemmas.Bool.Decides.{nat_tests}
use Rattle.std.proofs.lemmas.Str.{IsUtf8-append, IsUtf8-nil, IsUtf8-encode, IsUtf8-take, IsUtf8-drop, encode_ascii, IsCharBoundary-before_ascii, IsCharBoundary-after_ascii}
use Rattle.std.specs.Char.{digit_value, is_digit, encode_utf8, IsScalar}
use lib.Utf8.{scalar, low_scalar}
use Rattle.json.specs.Ascii as ascii
use Rattle.json.specs.Text.{code_unit, short_escape, is_high_surrogate, is_low_surrogate, surrogate_pair, plain, after_backslash, after_u, after_high, prepend, content}

-- ---- cuts beside an ASCII byte

met : (front rest : List ℕ) (x : ℕ) → get_or (front ++ x ∷ rest) (length front) 0 ≡ x
met [] rest x = refl
met (y ∷ front) rest x = met front rest x

inside : (front rest : List ℕ) (x : ℕ) → length front < length (front ++ x ∷ rest)
inside [] rest x = omega arith
inside (y ∷ front) rest x = let h = inside front rest x in omega arith

-- what stands before it is UTF-8
pub before_ascii : (front rest : List ℕ) (x : ℕ) → IsUtf8 (front ++ x ∷ rest) → x < 128 → IsUtf8 front
before_ascii front rest x utf8 small =
    let whole : List ℕ = front ++ x ∷ rest in
    let at : get_or whole (length front) 0 < 128 = rw (met front rest x) small in
    subst IsUtf8 (take-append_seam front (x ∷ rest)) (IsUtf8-take whole (length front) utf8 (IsCharBoundary-before_ascii whole (length front) (inside front rest x) at))

-- and what stands behind it
pub behind_ascii : (front rest : List ℕ) (x : ℕ) → IsUtf8 (front ++ x ∷ rest) → x < 128 → IsUtf8 rest
behind_ascii front rest x utf8 small =
    let whole : List ℕ = front ++ x ∷ rest in
    let at : get_or whole (length front) 0 < 128 = rw (met front rest x) small in
    subst IsUtf8 (drop-append-add front (x ∷ rest) 1) (IsUtf8-drop whole (length front + 1) utf8 (IsCharBoundary-after_ascii whole (length front) utf8 (inside front rest x) at))

-- an ASCII byte before UTF-8
ascii_before : (x : ℕ) (xs : List ℕ) → x < 128 → IsUtf8 xs → IsUtf8 (x ∷ xs)
ascii_before x xs small utf8 = IsUtf8-append (x ∷ []) xs (subst IsUtf8 (encode_ascii x small) (IsUtf8-encode x (low_scalar x (omega arith)))) utf8

-- ---- escapes

-- what is prepended stands before the rest
prepended : (front : List ℕ) (o : Option (List ℕ)) (s : List ℕ) → prepend front o ≡ Some s → (rest : List ℕ) × (o ≡ Some rest) × (s ≡ front ++ rest)
prepended front None s h = cc
prepended front (Some rest) s h = (rest, refl, cc)

-- a short escape is an ASCII byte, and stands for one
short_ascii : (x c : ℕ) → short_escape x ≡ Some c → (x < 128) × (c < 128)
unfolding short_escape
short_ascii x c h = grind (arith, nat_tests)

-- a hex digit is ASCII
hex_ascii : (d : ℕ) → is_digit d 16 ≡ true → (d < 128) × (digit_value d < 16)
hex_ascii d h = grind (arith, nat_tests)

-- where the test is passed, the value
taken_if : {A : Type 0} (b : Bool) (o : Option A) (a : A) → cond b o None ≡ Some a → (b ≡ true) × (o ≡ Some a)
taken_if true o a h = (refl, h)
taken_if false o a h = cc

-- and where it isn't
taken_unless : {A : Type 0} (b : Bool) (o : Option A) (a : A) → cond b None o ≡ Some a → (b ≡ false) × (o ≡ Some a)
taken_unless true o a h = cc
taken_unless false o a h = (refl, h)

-- what was found first
bound : {A B : Type 0} (o : Option A) (next : A → Option B) (b : B) → option_and_then next o ≡ Some b → (a : A) × (o ≡ Some a) × (next a ≡ Some b)
bound None next b h = cc
bound (Some a) next b h = (a, refl, h)

-- four hex digits are ASCII, and spell a code unit
unit_fits : (a b c d u : ℕ) → code_unit a b c d ≡ Some u → (d < 128) × (u < 65536)
unfolding code_unit
unit_fits a b c d u h =
    let value : ℕ = digit_value a * 4096 + digit_value b * 256 + digit_value c * 16 + digit_value d in
    let t = taken_if (is_digit a 16 && is_digit b 16 && is_digit c 16 && is_digit d 16) (Some value) u h in
    let p = and_parts (is_digit a 16 && is_digit b 16 && is_digit c 16) (is_digit d 16) t.0 in
    let q = and_parts (is_digit a 16 && is_digit b 16) (is_digit c 16) p.0 in
    let r = and_parts (is_digit a 16) (is_digit b 16) q.0 in
    let same : value ≡ u = cc in
    let one = hex_ascii a r.0 in
    let two = hex_ascii b r.1 in
    let three = hex_ascii c q.1 in
    let four = hex_ascii d p.1 in
    (four.0, omega arith)

-- a unit that is no surrogate is a scalar value
lone_scalar : (u : ℕ) → u < 65536 → is_high_surrogate u ≡ false → is_low_surrogate u ≡ false → IsScalar u
lone_scalar u fits high low = grind (arith, nat_tests)

-- and so is what a pair spells
pair_scalar : (h l : ℕ) → is_high_surrogate h ≡ true → is_low_surrogate l ≡ true → IsScalar (surrogate_pair h l)
pair_scalar h l high low = grind (arith, nat_tests)

-- ---- the content

-- of texts of at most that length, what is kept of the rest is UTF-8 behind the front that was kept
abbrev Keeps : ℕ → Type 0
Keeps n = (xs front s : List ℕ) → length xs ≤ n → IsUtf8 (front ++ xs) → content plain xs ≡ Some s → IsUtf8 (front ++ s)

-- a character that was spelled out stands before the rest
spelled : (n c : ℕ) → Keeps n → (xs s : List ℕ) → length xs ≤ n → IsScalar c → IsUtf8 xs → prepend (encode_utf8 c) (content plain xs) ≡ Some s → IsUtf8 s
spelled n c keeps xs s few scalar utf8 e =
    let p = prepended (encode_utf8 c) (content plain xs) s e in
    subst IsUtf8 (sym p.2) (IsUtf8-append (encode_utf8 c) p.0 (IsUtf8-encode c scalar) (keeps xs [] p.0 few utf8 p.1))

-- behind a first half of a pair
behind_high : (n h : ℕ) → Keeps n → (xs s : List ℕ) → length xs ≤ n → is_high_surrogate h ≡ true → IsUtf8 xs → content (after_high h) xs ≡ Some s → IsUtf8 s
unfolding content
behind_high n h keeps [] s few high utf8 e = cc
behind_high n h keeps (t ∷ []) s few high utf8 e = cc
behind_high n h keeps (t ∷ u ∷ []) s few high utf8 e = cc
behind_high n h keeps (t ∷ u ∷ a ∷ []) s few high utf8 e = cc
behind_high n h keeps (t ∷ u ∷ a ∷ b ∷ []) s few high utf8 e = cc
behind_high n h keeps (t ∷ u ∷ a ∷ b ∷ c ∷ []) s few high utf8 e = cc
behind_high n h keeps (t ∷ u ∷ a ∷ b ∷ c ∷ d ∷ xs) s few high utf8 e =
    let marked = taken_if ((t == ascii.backslash) && (u == ascii.lower_u)) _ s e in
    let unit = bound (code_unit a b c d) _ s marked.1 in
    let low = taken_if (is_low_surrogate unit.0) _ s unit.2 in
    let fits = unit_fits a b c d unit.0 unit.1 in
    let rest = behind_ascii (t ∷ u ∷ a ∷ b ∷ c ∷ []) xs d utf8 fits.0 in
    spelled n (surrogate_pair h unit.0) keeps xs s (omega arith) (pair_scalar h unit.0 high low.0) rest low.1

-- behind `\u`: the code unit is a first half, or stands alone
by_unit : (n u : ℕ) → Keeps n → (xs s : List ℕ) → length xs ≤ n → u < 65536 → IsUtf8 xs → (high : Bool) → is_high_surrogate u ≡ high
    → cond high (content (after_high u) xs) (cond (is_low_surrogate u) None (prepend (encode_utf8 u) (content plain xs))) ≡ Some s → IsUtf8 s
by_unit n u keeps xs s few fits utf8 true is e = behind_high n u keeps xs s few is utf8 e
by_unit n u keeps xs s few fits utf8 false is e =
    let alone = taken_unless (is_low_surrogate u) _ s e in
    spelled n u keeps xs s few (lone_scalar u fits is alone.0) utf8 alone.1

behind_u : (n : ℕ) → Keeps n → (xs s : List ℕ) → length xs ≤ n → IsUtf8 xs → content after_u xs ≡ Some s → IsUtf8 s
unfolding content
behind_u n keeps [] s few utf8 e = cc
behind_u n keeps (a ∷ []) s few utf8 e = cc
behind_u n keeps (a ∷ b ∷ []) s few utf8 e = cc
behind_u n keeps (a ∷ b ∷ c ∷ []) s few utf8 e = cc
behind_u n keeps (a ∷ b ∷ c ∷ d ∷ xs) s few utf8 e =
    let unit = bound (code_unit a b c d) _ s e in
    let fits = unit_fits a b c d unit.0 unit.1 in
    let rest = behind_ascii (a ∷ b ∷ c ∷ []) xs d utf8 fits.0 in
    by_unit n unit.0 keeps xs s (omega arith) fits.1 rest (is_high_surrogate unit.0) refl unit.2

-- behind a backslash
by_escape : (n x : ℕ) → Keeps n → (xs s : List ℕ) → length xs ≤ n → IsUtf8 (x ∷ xs) → (long : Bool) → (x == ascii.lower_u) ≡ long
    → cond long (content after_u xs) (option_and_then (λ c. prepend (c ∷ []) (content plain xs)) (short_escape x)) ≡ Some s → IsUtf8 s
by_escape n x keeps xs s few utf8 true is e =
    let mark : x ≡ 117 = eqb-true x 117 is in
    behind_u n keeps xs s few (behind_ascii [] xs x utf8 (omega arith)) e
by_escape n x keeps xs s few utf8 false is e =
    let short = bound (short_escape x) _ s e in
    let small = short_ascii x short.0 short.1 in
    let p = prepended (short.0 ∷ []) (content plain xs) s short.2 in
    subst IsUtf8 (sym p.2) (ascii_before short.0 p.0 small.1 (keeps xs [] p.0 few (behind_ascii [] xs x utf8 small.0) p.1))

behind_backslash : (n : ℕ) → Keeps n → (xs s : List ℕ) → length xs ≤ n → IsUtf8 xs → content after_backslash xs ≡ Some s → IsUtf8 s
unfolding content
behind_backslash n keeps [] s few utf8 e = cc
behind_backslash n keeps (x ∷ xs) s few utf8 e = by_escape n x keeps xs s (omega arith) utf8 (x == ascii.lower_u) refl e

-- the closing quote, an escape, or a byte that is kept
by_byte : (n x : ℕ) → Keeps n → (xs front s : List ℕ) → length xs ≤ n → IsUtf8 (front ++ x ∷ xs) → (ends escapes : Bool) → (x == ascii.quote) ≡ ends → (x == ascii.backslash) ≡ escapes
    → cond ends (Some []) (cond escapes (content after_backslash xs) (cond (nat_lt x ascii.space) None (prepend (x ∷ []) (content plain xs)))) ≡ Some s → IsUtf8 (front ++ s)
by_byte n x keeps xs front s few utf8 true escapes is mark e =
    let same : x ≡ 34 = eqb-true x 34 is in
    let none : [] ≡ s = cc in
    subst (λ (t : List ℕ). IsUtf8 (front ++ t)) none (IsUtf8-append front [] (before_ascii front xs x utf8 (omega arith)) IsUtf8-nil)
by_byte n x keeps xs front s few utf8 false true is mark e =
    let same : x ≡ 92 = eqb-true x 92 mark in
    IsUtf8-append front s (before_ascii front xs x utf8 (omega arith)) (behind_backslash n keeps xs s few (behind_ascii front xs x utf8 (omega arith)) e)
by_byte n x keeps xs front s few utf8 false false is mark e =
    let kept = taken_unless (nat_lt x ascii.space) _ s e in
    let p = prepended (x ∷ []) (content plain xs) s kept.1 in
    let more = keeps xs (front ++ x ∷ []) p.0 few (rw (append_assoc front (x ∷ []) xs) utf8) p.1 in
    subst (λ (t : List ℕ). IsUtf8 (front ++ t)) (sym p.2) (rw (append_assoc front (x ∷ []) p.0) at more)

keeps : (n : ℕ) → Keeps n
unfolding content
keeps n [] front s few utf8 e = cc
keeps zero (x ∷ xs) front s few utf8 e = absurd (omega arith)
keeps (suc n) (x ∷ xs) front s few utf8 e = by_byte n x (keeps n) xs front s (omega arith) utf8 (x == ascii.quote) (x == ascii.backslash) refl refl e

-- the content of a string is UTF-8 where the rest of the text is
pub content_is_utf8 : (xs s : List ℕ) → IsUtf8 xs → content plain xs ≡ Some s → IsUtf8 s
content_is_utf8 xs s utf8 e = keeps (length xs) xs [] s (omega arith) utf8 e
