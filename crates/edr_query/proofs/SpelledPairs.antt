-- The pairs of a written query: their names are known and stand once, and each has its value.
use Rattle.std.proofs.Common.{◌≡◌, ◌⊎◌, ⊎_elim, ℕ, List, [], ◌∷◌, map, All, IsUtf8, Bool, true, false, not, cond, refl, ap, ap₂, sym, ◌∙◌, Some, None}
use Rattle.std.specs.Prelude.{◌&&◌, bytes_eq, IfSome, option_map, if◌then◌else◌}
use Rattle.std.specs.declared.option.Option.{Option}
use Rattle.std.specs.List.{flat_map}
use Rattle.std.specs.Str.Lossy.{utf8_lossy}
use Rattle.std.proofs.lemmas.Bool.{false≢true, and_parts}
use Rattle.std.proofs.lemmas.Str.{utf8_lossy-IsUtf8}
use Rattle.std.proofs.lemmas.List.Elements.{All-head, All-tail, All-nil, All-cons, All-weaker}
use Rattle.form_urlencoded.specs.Form.{raw_pairs, decode, extend_pairs}
use Rattle.form_urlencoded.proofs.FormLemmas as form
use Rattle.edr_query.specs.declared.addresses.PageKind.{PageKind}
use Rattle.edr_query.specs.declared.parameters.Parameter.{Parameter}
use Rattle.edr_query.specs.Parameters.{Pair, read_pair, pairs_in, name_of, value_of, is_taken, HasUnknown, HasName, HasRepeat, MaySay, MaySayBoth}
use Rattle.edr_query.specs.Spelling.{pair_with}
use Rattle.edr_query.proofs.ListLemmas.{same_text}
use Rattle.edr_query.proofs.ByteLemmas.{bytes_from_utf8}

-- ---- what a form writes reads back

abbrev IsTextPair : Pair → Type 0
IsTextPair p = IsUtf8 p.0 × IsUtf8 p.1

abbrev lossy_pair : Pair → Pair
lossy_pair p = (utf8_lossy p.0, utf8_lossy p.1)

abbrev decode_pair : Pair → Pair
decode_pair p = (decode p.0, decode p.1)

split_map : (rs : List Pair) → map read_pair rs ≡ map lossy_pair (map decode_pair rs)
split_map [] = refl
split_map (r ∷ rs) = ap (λ l. read_pair r ∷ l) (split_map rs)

same_pairs : (ps : List Pair) → All IsTextPair ps → map lossy_pair ps ≡ ps
same_pairs [] h = refl
same_pairs (p ∷ ps) h =
    let first = All-head IsTextPair p ps h in
    ap₂ (λ q l. q ∷ l) (ap₂ (λ a b. (a, b)) (utf8_lossy-IsUtf8 p.0 first.0) (utf8_lossy-IsUtf8 p.1 first.1)) (same_pairs ps (All-tail IsTextPair p ps h))

pairs_back : (ps : List Pair) → All IsTextPair ps → pairs_in (extend_pairs [] ps) ≡ ps
pairs_back ps h =
    let small = All-weaker IsTextPair form.IsBytePair (λ p t. (bytes_from_utf8 p.0 t.0, bytes_from_utf8 p.1 t.1)) ps h in
    split_map (raw_pairs (extend_pairs [] ps)) ∙ ap (map lossy_pair) (form.round_trip ps small) ∙ same_pairs ps h

-- ---- entries

abbrev pub Entry : Type 0
Entry = Parameter × Option (List ℕ)

abbrev pub pairs_with : List Entry → List Pair
pairs_with entries = flat_map (λ (entry : Entry). pair_with entry.0 entry.1) entries

abbrev pub or_else : Option (List ℕ) → Option (List ℕ) → Option (List ℕ)
or_else None other = other
or_else (Some text) other = Some text

pub or_none : (o : Option (List ℕ)) → or_else o None ≡ o
or_none None = refl
or_none (Some text) = refl

abbrev pub look : Parameter → List Entry → Option (List ℕ)
look parameter [] = None
look parameter (entry ∷ entries) = if bytes_eq (name_of entry.0) (name_of parameter) then or_else entry.1 (look parameter entries) else look parameter entries

look_none : (t : Bool) (rest : Option (List ℕ)) → rest ≡ cond t (or_else None rest) rest
look_none true rest = refl
look_none false rest = refl

look_some : (t : Bool) (text : List ℕ) (rest other : Option (List ℕ)) → rest ≡ other → cond t (Some text) rest ≡ cond t (or_else (Some text) other) other
look_some true text rest other e = refl
look_some false text rest other e = e

pub value_look : (parameter : Parameter) (entries : List Entry) → value_of parameter (pairs_with entries) ≡ look parameter entries
value_look parameter [] = refl
value_look parameter ((p, None) ∷ entries) = value_look parameter entries ∙ look_none (bytes_eq (name_of p) (name_of parameter)) (look parameter entries)
value_look parameter ((p, Some text) ∷ entries) = look_some (bytes_eq (name_of p) (name_of parameter)) text (value_of parameter (pairs_with entries)) (look parameter entries) (value_look parameter entries)

-- ---- names

abbrev pub AreKnown : PageKind → List Entry → Type 0
AreKnown page [] = Unit {0}
AreKnown page (entry ∷ entries) = ((entry.1 ≡ None) ⊎ (is_taken page entry.0 ≡ true)) × AreKnown page entries

none_is : {A : Type 0} (a : A) → Some a ≡ None → ⊥
none_is a e = cc

pub known_entries : (page : PageKind) (entries : List Entry) → AreKnown page entries → ¬ (HasUnknown page (pairs_with entries))
known_entries page [] h = λ u. u
known_entries page ((p, None) ∷ entries) h = known_entries page entries h.1
known_entries page ((p, Some text) ∷ entries) h = λ u. ⊎_elim (λ k. ⊎_elim (none_is text) (λ taken. k p taken refl) h.0) (known_entries page entries h.1) u

abbrev fresh : List ℕ → List Entry → Bool
fresh name [] = true
fresh name (entry ∷ entries) = not (bytes_eq (name_of entry.0) name) && fresh name entries

abbrev pub distinct : List Entry → Bool
distinct [] = true
distinct (entry ∷ entries) = fresh (name_of entry.0) entries && distinct entries

not_at : (t : Bool) → not t ≡ true → t ≡ false
not_at true e = absurd (false≢true e)
not_at false e = refl

fresh_name : (name : List ℕ) (entries : List Entry) → fresh name entries ≡ true → ¬ (HasName name (pairs_with entries))
fresh_name name [] e = λ h. h
fresh_name name ((p, None) ∷ entries) e = fresh_name name entries (and_parts (not (bytes_eq (name_of p) name)) (fresh name entries) e).1
fresh_name name ((p, Some text) ∷ entries) e =
    let parts = and_parts (not (bytes_eq (name_of p) name)) (fresh name entries) e in
    λ h. ⊎_elim (λ same. false≢true (sym (not_at (bytes_eq (name_of p) name) parts.0) ∙ same_text (name_of p) name same)) (fresh_name name entries parts.1) h

pub distinct_entries : (entries : List Entry) → distinct entries ≡ true → ¬ (HasRepeat (pairs_with entries))
distinct_entries [] e = λ h. h
distinct_entries ((p, None) ∷ entries) e = distinct_entries entries (and_parts (fresh (name_of p) entries) (distinct entries) e).1
distinct_entries ((p, Some text) ∷ entries) e =
    let parts = and_parts (fresh (name_of p) entries) (distinct entries) e in
    λ h. ⊎_elim (fresh_name (name_of p) entries parts.0) (distinct_entries entries parts.1) h

-- ---- texts of entries are UTF-8

abbrev pub AreTexts : List Entry → Type 0
AreTexts [] = Unit {0}
AreTexts (entry ∷ entries) = IsUtf8 (name_of entry.0) × IfSome entry.1 IsUtf8 × AreTexts entries

text_pairs : (entries : List Entry) → AreTexts entries → All IsTextPair (pairs_with entries)
text_pairs [] h = All-nil IsTextPair
text_pairs ((p, None) ∷ entries) h = text_pairs entries h.2
text_pairs ((p, Some text) ∷ entries) h = All-cons IsTextPair (name_of p, text) (pairs_with entries) (h.0, h.1) (text_pairs entries h.2)

pub entries_back : (entries : List Entry) → AreTexts entries → pairs_in (extend_pairs [] (pairs_with entries)) ≡ pairs_with entries
entries_back entries h = pairs_back (pairs_with entries) (text_pairs entries h)

pub no_pairs : pairs_in [] ≡ []
no_pairs = pairs_back [] (All-nil IsTextPair)

-- ---- what is written is said

pub says_back : {V : Type 0} (Says : List ℕ → V → Type 0) (text : V → List ℕ) (o : Option V) → IfSome o (λ v. Says (text v) v) → MaySay Says (option_map text o) o
says_back Says text None h = tt
says_back Says text (Some v) h = h

pub both_back : {V : Type 0} (Says : List ℕ → List ℕ → V → Type 0) (text other : V → List ℕ) (o : Option V) → IfSome o (λ v. Says (text v) (other v) v) → MaySayBoth Says (option_map text o) (option_map other o) o
both_back Says text other None h = tt
both_back Says text other (Some v) h = h
