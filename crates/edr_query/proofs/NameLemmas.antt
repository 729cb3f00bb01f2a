-- Names between commas.
use Rattle.std.proofs.Common.{◌≡◌, ◌≢◌, ◌⊎◌, inl, inr, ℕ, zero, suc, ◌+◌, ◌<◌, ◌==◌, List, [], ◌∷◌, ◌++◌, length, take, drop, get_or, Bool, true, false, cond, refl, ap, sym, ◌∙◌, subst, arith, ⊎_elim}
use lib.Utf8.{encode}
use Rattle.std.specs.Prelude.{IsUtf8, bytes_eq, ◌||◌}
use Rattle.std.specs.List.{Contains, AllByRecursion, list_any, slice_split}
use Rattle.std.proofs.lemmas.Str.{IsUtf8-append, IsUtf8-take, IsUtf8-drop, IsCharBoundary-after_ascii, IsCharBoundary-at_seam}
use Rattle.std.proofs.lemmas.Bool.{false≢true}
use Rattle.std.proofs.lemmas.Slice.Eq.{bytes_eq-Decides}
use Rattle.edr_base.specs.Cuts.{IsCut}
use Rattle.edr_query.specs.Queries.{with_name, with_names, HasNoTwins, AreNames}
use Rattle.edr_query.proofs.ListLemmas.{true_false, split_cut, split_whole}

-- ---- a text of UTF-8 cut at a comma

take_front : (a b : List ℕ) → take (length a) (a ++ b) ≡ a
take_front [] b = refl
take_front (c ∷ a) b = ap (λ l. c ∷ l) (take_front a b)

drop_front : (a b : List ℕ) (c : ℕ) → drop (suc (length a)) (a ++ c ∷ b) ≡ b
drop_front [] b c = refl
drop_front (x ∷ a) b c = drop_front a b c

get_front : (a b : List ℕ) (c : ℕ) → get_or (a ++ c ∷ b) (length a) 0 ≡ c
get_front [] b c = refl
get_front (x ∷ a) b c = get_front a b c

front_short : (a b : List ℕ) (c : ℕ) → length a < length (a ++ c ∷ b)
front_short [] b c = omega arith
front_short (x ∷ a) b c = let h = front_short a b c in omega (arith, h)

comma_utf8 : IsUtf8 (44 ∷ [])
unfolding encode
comma_utf8 = (44 ∷ [], (refl, refl))

pub back_utf8 : (text front back : List ℕ) → IsCut 44 text front back → IsUtf8 text → IsUtf8 back
back_utf8 text front back cut u =
    let e = cut.text_is in
    let short : length front < length text = subst (λ (l : List ℕ). length front < length l) (sym e) (front_short front back 44) in
    let at : get_or text (length front) 0 ≡ 44 = ap (λ (l : List ℕ). get_or l (length front) 0) e ∙ get_front front back 44 in
    let small : get_or text (length front) 0 < 128 = omega (arith, at) in
    let next : length front + 1 ≡ suc (length front) = omega arith in
    let rest : drop (length front + 1) text ≡ back = ap (λ n. drop n text) next ∙ ap (drop (suc (length front))) e ∙ drop_front front back 44 in
    subst IsUtf8 rest (IsUtf8-drop text (length front + 1) u (IsCharBoundary-after_ascii text (length front) u short small))

pub front_utf8 : (text front back : List ℕ) → IsCut 44 text front back → IsUtf8 text → IsUtf8 front
front_utf8 text front back cut u =
    let e = cut.text_is in
    let tail = IsUtf8-append (44 ∷ []) back comma_utf8 (back_utf8 text front back cut u) in
    let part : take (length front) text ≡ front = ap (take (length front)) e ∙ take_front front (44 ∷ back) in
    subst IsUtf8 part (IsUtf8-take text (length front) u (IsCharBoundary-at_seam text front (44 ∷ back) e tail))

-- ---- names that are kept

-- names of UTF-8 without commas, each once
pub record AreKept (names : List (List ℕ)) : Type 0 where
  pub once : HasNoTwins names
  pub utf8 : AllByRecursion IsUtf8 names
  pub no_comma : AllByRecursion (λ name. ¬ (Contains name 44)) names

pub kept_none : AreKept []
kept_none = record { once = tt; utf8 = tt; no_comma = tt }

pub all_more : (P : List ℕ → Type 0) (names : List (List ℕ)) (name : List ℕ) → AllByRecursion P names → P name → AllByRecursion P (names ++ name ∷ [])
all_more P [] name all h = (h, tt)
all_more P (x ∷ names) name all h = (all.0, all_more P names name all.1 h)

has_first : (x : List ℕ) (names : List (List ℕ)) (name : List ℕ) → x ≡ name → Contains (x ∷ names) name
has_first x names name e = (0, omega arith, e)

has_rest : (x : List ℕ) (names : List (List ℕ)) (name : List ℕ) → Contains names name → Contains (x ∷ names) name
has_rest x names name h = (suc h.0, omega (arith, h.1), h.2)

has_end : (names : List (List ℕ)) (name other : List ℕ) → Contains (names ++ name ∷ []) other → Contains names other ⊎ (name ≡ other)
has_end [] name other (zero, inside, is) = inr is
has_end [] name other (suc k, inside, is) = absurd (omega (arith, inside))
has_end (x ∷ names) name other (zero, inside, is) = inl (has_first x names other is)
has_end (x ∷ names) name other (suc k, inside, is) = ⊎_elim (λ h. inl (has_rest x names other h)) (λ e. inr e) (has_end names name other (k, omega (arith, inside), is))

pub twins_more : (names : List (List ℕ)) (name : List ℕ) → HasNoTwins names → ¬ (Contains names name) → HasNoTwins (names ++ name ∷ [])
twins_more [] name once not = ((λ h. omega (arith, h.1)), tt)
twins_more (x ∷ names) name once not =
    ((λ h. ⊎_elim once.0 (λ e. not (has_first x names name (sym e))) (has_end names name x h)), twins_more names name once.1 (λ h. not (has_rest x names name h)))

not_in : (x : List ℕ) (names : List (List ℕ)) (name : List ℕ) → (x ≡ name → ⊥) → ¬ (Contains names name) → ¬ (Contains (x ∷ names) name)
not_in x names name first rest (zero, inside, is) = first is
not_in x names name first rest (suc k, inside, is) = rest (k, omega (arith, inside), is)

any_at : (t : Bool) (x : List ℕ) (names : List (List ℕ)) (name : List ℕ) (rest : Bool) → (t ≡ true → name ≡ x) → (x ≡ name → t ≡ true) → (rest ≡ false → ¬ (Contains names name)) → t || rest ≡ false → ¬ (Contains (x ∷ names) name)
any_at true x names name rest is same more e = absurd (true_false e)
any_at false x names name rest is same more e = λ h. not_in x names name (λ f. false≢true (same f)) (more e) h

pub not_any : (names : List (List ℕ)) (name : List ℕ) → list_any (bytes_eq name) names ≡ false → ¬ (Contains names name)
not_any [] name e = λ h. omega (arith, h.1)
not_any (x ∷ names) name e =
    any_at (bytes_eq name x) x names name (list_any (bytes_eq name) names) (bytes_eq-Decides name x).0 (λ f. (bytes_eq-Decides name x).1 (sym f)) (not_any names name) e

kept_at : (t : Bool) (names : List (List ℕ)) (name : List ℕ) → list_any (bytes_eq name) names ≡ t → AreKept names → IsUtf8 name → ¬ (Contains name 44) → AreKept (cond t names (names ++ name ∷ []))
kept_at true names name e kept u none = kept
kept_at false names name e kept u none =
    record { once = twins_more names name kept.once (not_any names name e); utf8 = all_more IsUtf8 names name kept.utf8 u; no_comma = all_more (λ n. ¬ (Contains n 44)) names name kept.no_comma none }

pub kept_more : (names : List (List ℕ)) (name : List ℕ) → AreKept names → IsUtf8 name → ¬ (Contains name 44) → AreKept (with_name names name)
kept_more names name kept u none = kept_at (list_any (bytes_eq name) names) names name refl kept u none

more_some : (names : List (List ℕ)) (name : List ℕ) → names ++ name ∷ [] ≢ []
more_some [] name e = cc
more_some (x ∷ names) name e = cc

some_at : (t : Bool) (names : List (List ℕ)) (name : List ℕ) → list_any (bytes_eq name) names ≡ t → cond t names (names ++ name ∷ []) ≢ []
some_at true [] name e = λ f. false≢true e
some_at true (x ∷ names) name e = λ f. cc
some_at false names name e = more_some names name

pub kept_names : (names : List (List ℕ)) (name : List ℕ) → AreKept names → IsUtf8 name → ¬ (Contains name 44) → AreNames (with_name names name)
kept_names names name kept u none =
    let k = kept_more names name kept u none in
    record { some = some_at (list_any (bytes_eq name) names) names name refl; once = k.once; utf8 = k.utf8; no_comma = k.no_comma }

-- ---- the names that are left

abbrev pub pieces : List ℕ → List (List ℕ)
pieces text = slice_split (λ byte. byte == 44) text

pub names_cut : (names : List (List ℕ)) (rest front back : List ℕ) → IsCut 44 rest front back → with_names names (pieces rest) ≡ with_names (with_name names front) (pieces back)
names_cut names rest front back cut = ap (with_names names) (split_cut 44 rest front back refl cut)

pub names_end : (names : List (List ℕ)) (rest : List ℕ) → ¬ (Contains rest 44) → with_names names (pieces rest) ≡ with_name names rest
names_end names rest none = ap (with_names names) (split_whole 44 rest none)
