-- Written names read back, and what is written is UTF-8.
use Rattle.std.proofs.Common.{◌≡◌, ◌⊎◌, inl, inr, ⊎_elim, ℕ, zero, suc, ℤ, pos, negsuc, ◌<◌, ◌^◌, List, [], ◌∷◌, ◌++◌, IsUtf8, Bool, false, cond, refl, ap, sym, ◌∙◌, arith, append-nil, append_assoc}
use Rattle.std.specs.Prelude.{bytes_eq, unsigned_abs, ◌||◌}
use Rattle.std.specs.Fmt.{decimal, signed_decimal}
use Rattle.std.specs.Str.{IsAscii}
use Rattle.std.specs.List.{flat_map, AllByRecursion, list_any, Contains}
use Rattle.std.proofs.lemmas.Fmt.{IsAscii-decimal}
use Rattle.std.proofs.lemmas.Slice.Eq.{bytes_eq-Decides}
use Rattle.std.proofs.lemmas.Str.{IsUtf8-append, IsUtf8-nil, IsUtf8-from_ascii}
use Rattle.edr_wkt.specs.Spelling.{joined}
use Rattle.edr_query.specs.Queries.{with_name, with_names, names_in, HasNoTwins, AreNames}
use Rattle.edr_query.proofs.ListLemmas.{not_true, split_cut, split_whole}
use Rattle.edr_query.proofs.NameLemmas.{pieces}

abbrev pub plain : List ℕ → List ℕ
plain name = name

abbrev pub joined_names : List (List ℕ) → List ℕ
joined_names names = joined plain names

pieces_joined : (n : List ℕ) (ns : List (List ℕ)) → AllByRecursion (λ name. ¬ (Contains name 44)) (n ∷ ns) → pieces (joined_names (n ∷ ns)) ≡ n ∷ ns
pieces_joined n [] all = ap pieces (append-nil n) ∙ split_whole 44 n all.0
pieces_joined n (m ∷ ms) all =
    split_cut 44 (joined_names (n ∷ m ∷ ms)) n (joined_names (m ∷ ms)) refl (record { text_is = refl; first = all.0 })
    ∙ ap (λ l. n ∷ l) (pieces_joined m ms all.1)

either_not : (a b : Bool) → a ≡ false → b ≡ false → a || b ≡ false
either_not a b e f = ap (λ x. x || b) e ∙ f

-- names that aren't among those before them are kept
any_not : (names : List (List ℕ)) (name : List ℕ) → ¬ (Contains names name) → list_any (bytes_eq name) names ≡ false
any_not [] name h = refl
any_not (x ∷ names) name h =
    either_not (bytes_eq name x) (list_any (bytes_eq name) names) (not_true (bytes_eq name x) (λ e. h (0, omega arith, sym ((bytes_eq-Decides name x).0 e))))
    (any_not names name (λ k. h (suc k.0, omega (arith, k.1), k.2)))

added : (names : List (List ℕ)) (name : List ℕ) → ¬ (Contains names name) → with_name names name ≡ names ++ name ∷ []
added names name h = ap (λ t. cond t names (names ++ name ∷ [])) (any_not names name h)

-- no name of the second list is in the first
abbrev Apart : List (List ℕ) → List (List ℕ) → Type 0
Apart names [] = Unit {0}
Apart names (other ∷ others) = (¬ (Contains names other)) × Apart names others

at_end : (names : List (List ℕ)) (name other : List ℕ) → Contains (names ++ name ∷ []) other → Contains names other ⊎ (name ≡ other)
at_end [] name other (zero, inside, is) = inr is
at_end [] name other (suc k, inside, is) = absurd (omega (arith, inside))
at_end (x ∷ names) name other (zero, inside, is) = inl (0, omega arith, is)
at_end (x ∷ names) name other (suc k, inside, is) = ⊎_elim (λ h. inl (suc h.0, omega (arith, h.1), h.2)) (λ e. inr e) (at_end names name other (k, omega (arith, inside), is))

in_rest : (others : List (List ℕ)) (name : List ℕ) (x : List ℕ) → Contains others name → Contains (x ∷ others) name
in_rest others name x h = (suc h.0, omega (arith, h.1), h.2)

apart_more : (names : List (List ℕ)) (name : List ℕ) (others : List (List ℕ)) → ¬ (Contains others name) → Apart names others → Apart (names ++ name ∷ []) others
apart_more names name [] once apart = tt
apart_more names name (o ∷ os) once apart =
    ((λ h. ⊎_elim apart.0 (λ e. once (0, omega arith, sym e)) (at_end names name o h)), apart_more names name os (λ k. once (in_rest os name o k)) apart.1)

all_added : (names others : List (List ℕ)) → HasNoTwins others → Apart names others → with_names names others ≡ names ++ others
all_added names [] once apart = sym (append-nil names)
all_added names (o ∷ os) once apart =
    ap (λ l. with_names l os) (added names o apart.0)
    ∙ all_added (names ++ o ∷ []) os once.1 (apart_more names o os once.0 apart.1)
    ∙ append_assoc names (o ∷ []) os

none_apart : (others : List (List ℕ)) → Apart [] others
none_apart [] = tt
none_apart (o ∷ os) = ((λ h. omega (arith, h.1)), none_apart os)

pub names_back : (names : List (List ℕ)) → AreNames names → names_in (joined_names names) ≡ names
names_back [] are = absurd (are.some refl)
names_back (n ∷ ns) are = ap (with_names []) (pieces_joined n ns are.no_comma) ∙ all_added [] (n ∷ ns) are.once (none_apart (n ∷ ns))

-- ---- UTF-8

one_ascii : (c : ℕ) → c < 128 → IsAscii (c ∷ [])
one_ascii c small zero = small
one_ascii c small (suc i) = omega arith

one_byte : (c : ℕ) → c < 128 → IsUtf8 (c ∷ [])
one_byte c small = IsUtf8-from_ascii (c ∷ []) (one_ascii c small)

pub byte_utf8 : (c : ℕ) (text : List ℕ) → c < 128 → IsUtf8 text → IsUtf8 (c ∷ text)
byte_utf8 c text small u = IsUtf8-append (c ∷ []) text (one_byte c small) u

pub number_utf8 : (z : ℤ) → unsigned_abs z < 2 ^ 64 → IsUtf8 (signed_decimal z)
number_utf8 (pos n) h = IsUtf8-from_ascii (decimal n) (IsAscii-decimal n h)
number_utf8 (negsuc n) h = byte_utf8 45 (decimal (suc n)) (omega arith) (IsUtf8-from_ascii (decimal (suc n)) (IsAscii-decimal (suc n) h))

tail_utf8 : {A : Type 0} (text : A → List ℕ) (xs : List A) → AllByRecursion (λ x. IsUtf8 (text x)) xs → IsUtf8 (flat_map (λ y. 44 ∷ text y) xs)
tail_utf8 text [] all = IsUtf8-nil
tail_utf8 text (x ∷ xs) all = IsUtf8-append (44 ∷ text x) (flat_map (λ y. 44 ∷ text y) xs) (byte_utf8 44 (text x) (omega arith) all.0) (tail_utf8 text xs all.1)

pub joined_utf8 : {A : Type 0} (text : A → List ℕ) (xs : List A) → AllByRecursion (λ x. IsUtf8 (text x)) xs → IsUtf8 (joined text xs)
joined_utf8 text [] all = IsUtf8-nil
joined_utf8 text (x ∷ xs) all = IsUtf8-append (text x) (flat_map (λ y. 44 ∷ text y) xs) all.0 (tail_utf8 text xs all.1)
