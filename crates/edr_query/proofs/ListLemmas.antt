-- Options, tests of texts, and texts cut at a mark.
use Rattle.std.proofs.Common.{◌≡◌, ◌≢◌, ◌⊎◌, inl, inr, ℕ, ◌==◌, List, [], ◌∷◌, Bool, true, false, cond, refl, ap, sym, ◌∙◌, Some, None, ne_eqb}
use Rattle.std.specs.Prelude.{if◌then◌else◌, bytes_eq, is_some}
use Rattle.std.specs.declared.option.Option.{Option}
use Rattle.std.specs.List.{Contains, AllByRecursion, slice_split, onto_first}
use Rattle.std.proofs.lemmas.Slice.Eq.{bytes_eq-Decides}
use Rattle.std.proofs.lemmas.List.Elements.{All-from_recursion}
use Rattle.std.proofs.lemmas.List.Splits.{slice_split_at, slice_split_none}
use Rattle.std.proofs.lemmas.Bool.{false≢true}
use Rattle.edr_base.specs.Cuts.{IsCut}
use Rattle.edr_base.specs.CutLaws.{Contains-first, Contains-rest}

pub true_false : true ≡ false → ⊥
true_false e = false≢true (sym e)

pub some_same : {V : Type 0} (a b : V) → Some a ≡ Some b → a ≡ b
some_same a b e = cc

pub none_some : {V : Type 0} (a : V) → None ≡ Some a → ⊥
none_some a e = cc

pub given : {V : Type 0} (o : Option V) → is_some o ≡ true → (v : V) × (o ≡ Some v)
given None e = absurd (false≢true e)
given (Some v) e = (v, refl)

pub absent : {V : Type 0} (o : Option V) → is_some o ≡ false → o ≡ None
absent None e = refl
absent (Some v) e = absurd (true_false e)

-- ---- a choice by a text

choice_at : {A : Type 0} (t : Bool) (P : Type 0) (a b : A) (rest : Option A) → (t ≡ true → P) → cond t (Some a) rest ≡ Some b → (P × (a ≡ b)) ⊎ (rest ≡ Some b)
choice_at true P a b rest h e = inl (h refl, some_same a b e)
choice_at false P a b rest h e = inr e

pub choice : {A : Type 0} (name text : List ℕ) (a b : A) (rest : Option A) → (if bytes_eq name text then Some a else rest) ≡ Some b → ((name ≡ text) × (a ≡ b)) ⊎ (rest ≡ Some b)
choice name text a b rest e = choice_at (bytes_eq name text) (name ≡ text) a b rest (bytes_eq-Decides name text).0 e

when_at : {A : Type 0} (t : Bool) (P : Type 0) (rest : Option A) (b : A) → (t ≡ true → P) → cond t rest None ≡ Some b → P × (rest ≡ Some b)
when_at true P rest b h e = (h refl, e)
when_at false P rest b h e = absurd (none_some b e)

pub when_text : {A : Type 0} (name text : List ℕ) (rest : Option A) (b : A) → (if bytes_eq name text then rest else None) ≡ Some b → (name ≡ text) × (rest ≡ Some b)
when_text name text rest b e = when_at (bytes_eq name text) (name ≡ text) rest b (bytes_eq-Decides name text).0 e

pub not_true : (t : Bool) → (t ≡ true → ⊥) → t ≡ false
not_true true h = absurd (h refl)
not_true false h = refl

pub same_text : (name text : List ℕ) → name ≡ text → bytes_eq name text ≡ true
same_text name text e = (bytes_eq-Decides name text).1 e

pub other_text : (name text : List ℕ) → name ≢ text → bytes_eq name text ≡ false
other_text name text h = not_true (bytes_eq name text) (λ e. h ((bytes_eq-Decides name text).0 e))

-- ---- texts cut at a mark

abbrev pub is_mark : ℕ → ℕ → Bool
is_mark mark byte = byte == mark

pub no_mark : (mark : ℕ) (front : List ℕ) → ¬ (Contains front mark) → AllByRecursion (λ byte. is_mark mark byte ≡ false) front
no_mark mark [] h = tt
no_mark mark (c ∷ cs) h = (ne_eqb c mark (λ e. h (Contains-first c cs mark e)), no_mark mark cs (λ k. h (Contains-rest c cs mark k)))

abbrev IsSome : List (List ℕ) → Type 0
IsSome parts = (x : List ℕ) × (xs : List (List ℕ)) × (parts ≡ x ∷ xs)

split_first : (t : Bool) (c : ℕ) (parts : List (List ℕ)) → IsSome parts → IsSome (cond t ([] ∷ parts) (onto_first c parts))
split_first true c parts more = ([], parts, refl)
split_first false c parts more = (c ∷ more.0, more.1, ap (onto_first c) more.2)

pub split_some : (p : ℕ → Bool) (text : List ℕ) → (x : List ℕ) × (xs : List (List ℕ)) × (slice_split p text ≡ x ∷ xs)
split_some p [] = ([], [], refl)
split_some p (c ∷ cs) = split_first (p c) c (slice_split p cs) (split_some p cs)

pub split_cut : (mark : ℕ) (text front back : List ℕ) → is_mark mark mark ≡ true → IsCut mark text front back → slice_split (λ byte. byte == mark) text ≡ front ∷ slice_split (λ byte. byte == mark) back
split_cut mark text front back is cut =
    ap (slice_split (λ byte. byte == mark)) cut.text_is
    ∙ slice_split_at (λ byte. byte == mark) front mark back (All-from_recursion _ front (no_mark mark front cut.first)) is

pub split_whole : (mark : ℕ) (text : List ℕ) → ¬ (Contains text mark) → slice_split (λ byte. byte == mark) text ≡ text ∷ []
split_whole mark text h = slice_split_none (λ byte. byte == mark) text (All-from_recursion _ text (no_mark mark text h))

pub ne_slash : (c : ℕ) → (c ≡ 47 → ⊥) → is_mark 47 c ≡ false
ne_slash c h = ne_eqb c 47 h
