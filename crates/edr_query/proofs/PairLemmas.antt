-- Names of parameters, their values, and pairs whose names are known and stand once.
use Rattle.std.proofs.Common.{◌≡◌, ◌≢◌, ◌⊎◌, inl, inr, ⊎_elim, ℕ, List, [], ◌∷◌, ◌++◌, Bool, true, false, cond, refl, ap, sym, ◌∙◌, subst, append_assoc, Some, None, codes}
use Rattle.std.specs.Prelude.{bytes_eq}
use Rattle.std.specs.declared.option.Option.{Option}
use Rattle.std.proofs.lemmas.Bool.{false≢true}
use Rattle.std.proofs.lemmas.Slice.Eq.{bytes_eq-Decides}
use Rattle.edr_query.specs.declared.addresses.PageKind.{PageKind}
use Rattle.edr_query.specs.declared.parameters.Parameter.{Parameter}
use Rattle.edr_query.specs.declared.parameters.Parameter.TheVariants.{Format, Coords, Within, WithinUnits, Bbox, CorridorWidth, WidthUnits, CorridorHeight, HeightUnits, Datetime, Z, ParameterName, Crs}
use Rattle.edr_query.specs.Parameters.{Pair, name_of, value_of, is_taken, IsUnknown, HasUnknown, HasName, HasRepeat}
use Rattle.edr_query.specs.Reads.{parameter_in, place_in, if_absent, with_pair, IsFound}
use Rattle.edr_query.proofs.ListLemmas.{some_same, none_some, choice, same_text, other_text}

-- ---- names

pub name_back : (p : Parameter) → parameter_in (name_of p) ≡ Some p
name_back Format = refl
name_back Coords = refl
name_back Within = refl
name_back WithinUnits = refl
name_back Bbox = refl
name_back CorridorWidth = refl
name_back WidthUnits = refl
name_back CorridorHeight = refl
name_back HeightUnits = refl
name_back Datetime = refl
name_back Z = refl
name_back ParameterName = refl
name_back Crs = refl

place_sound : (name : List ℕ) (p : Parameter) → place_in name ≡ Some p → name ≡ name_of p
place_sound name p e =
    ⊎_elim (λ h. h.0 ∙ ap name_of h.1) (λ e.
    ⊎_elim (λ h. h.0 ∙ ap name_of h.1) (λ e.
    ⊎_elim (λ h. h.0 ∙ ap name_of h.1) (λ e.
    ⊎_elim (λ h. h.0 ∙ ap name_of h.1) (λ e.
    ⊎_elim (λ h. h.0 ∙ ap name_of h.1) (λ e.
    ⊎_elim (λ h. h.0 ∙ ap name_of h.1) (λ e.
    ⊎_elim (λ h. h.0 ∙ ap name_of h.1) (λ e. absurd (none_some p e))
    (choice name (codes "height-units") HeightUnits p _ e))
    (choice name (codes "corridor-height") CorridorHeight p _ e))
    (choice name (codes "width-units") WidthUnits p _ e))
    (choice name (codes "corridor-width") CorridorWidth p _ e))
    (choice name (codes "bbox") Bbox p _ e))
    (choice name (codes "within-units") WithinUnits p _ e))
    (choice name (codes "within") Within p _ e)

pub parameter_sound : (name : List ℕ) (p : Parameter) → parameter_in name ≡ Some p → name ≡ name_of p
parameter_sound name p e =
    ⊎_elim (λ h. h.0 ∙ ap name_of h.1) (λ e.
    ⊎_elim (λ h. h.0 ∙ ap name_of h.1) (λ e.
    ⊎_elim (λ h. h.0 ∙ ap name_of h.1) (λ e.
    ⊎_elim (λ h. h.0 ∙ ap name_of h.1) (λ e.
    ⊎_elim (λ h. h.0 ∙ ap name_of h.1) (λ e.
    ⊎_elim (λ h. h.0 ∙ ap name_of h.1) (λ e. place_sound name p e)
    (choice name (codes "crs") Crs p _ e))
    (choice name (codes "parameter-name") ParameterName p _ e))
    (choice name (codes "z") Z p _ e))
    (choice name (codes "datetime") Datetime p _ e))
    (choice name (codes "coords") Coords p _ e))
    (choice name (codes "f") Format p _ e)

pub name_same : (a b : Parameter) → name_of a ≡ name_of b → a ≡ b
name_same a b e = some_same a b (sym (name_back a) ∙ ap parameter_in e ∙ name_back b)

pub unknown_other : (page : PageKind) (name : List ℕ) (p : Parameter) → parameter_in name ≡ Some p → is_taken page p ≡ false → IsUnknown page name
unknown_other page name p is not q taken e =
    let same : p ≡ q = name_same p q (sym (parameter_sound name p is) ∙ e) in
    false≢true (sym not ∙ ap (is_taken page) same ∙ taken)

pub known_name : (page : PageKind) (name : List ℕ) (p : Parameter) → name ≡ name_of p → is_taken page p ≡ true → ¬ (IsUnknown page name)
known_name page name p is taken unknown = unknown p taken is

-- ---- values

pub value_here : (p : Parameter) (text : List ℕ) (rest : List Pair) → value_of p ((name_of p, text) ∷ rest) ≡ Some text
value_here p text rest = ap (λ t. cond t (Some text) (value_of p rest)) (same_text (name_of p) (name_of p) refl)

pub value_past : (p q : Parameter) (text : List ℕ) (rest : List Pair) → q ≢ p → value_of p ((name_of q, text) ∷ rest) ≡ value_of p rest
value_past p q text rest ne = ap (λ t. cond t (Some text) (value_of p rest)) (other_text (name_of q) (name_of p) (λ e. ne (name_same q p e)))

name_at : (t : Bool) (name other text : List ℕ) (rest : List Pair) (o : Option (List ℕ)) → (t ≡ true → other ≡ name) → (o ≡ None → ¬ (HasName name rest)) → (t ≡ false → other ≢ name)
    → cond t (Some text) o ≡ None → ¬ (HasName name ((other, text) ∷ rest))
name_at true name other text rest o is more not e = absurd (none_some text (sym e))
name_at false name other text rest o is more not e = λ h. ⊎_elim (λ same. not refl same) (λ later. more e later) h

pub no_name : (p : Parameter) (pairs : List Pair) → value_of p pairs ≡ None → ¬ (HasName (name_of p) pairs)
no_name p [] e = λ h. h
no_name p ((other, text) ∷ pairs) e =
    name_at (bytes_eq other (name_of p)) (name_of p) other text pairs (value_of p pairs) (bytes_eq-Decides other (name_of p)).0 (no_name p pairs)
    (λ f same. false≢true (sym f ∙ same_text other (name_of p) same)) e

has_at : (t : Bool) (name other text : List ℕ) (rest : List Pair) (o : Option (List ℕ)) (v : List ℕ) → (t ≡ true → other ≡ name) → (o ≡ Some v → HasName name rest)
    → cond t (Some text) o ≡ Some v → HasName name ((other, text) ∷ rest)
has_at true name other text rest o v is more e = inl (is refl)
has_at false name other text rest o v is more e = inr (more e)

pub has_name : (p : Parameter) (pairs : List Pair) (v : List ℕ) → value_of p pairs ≡ Some v → HasName (name_of p) pairs
has_name p [] v e = absurd (none_some v e)
has_name p ((other, text) ∷ pairs) v e =
    has_at (bytes_eq other (name_of p)) (name_of p) other text pairs (value_of p pairs) v (bytes_eq-Decides other (name_of p)).0 (has_name p pairs v) e

-- a parameter that is given is known
known_at : (page : PageKind) (name : List ℕ) (pairs : List Pair) → HasName name pairs → IsUnknown page name → HasUnknown page pairs
known_at page name [] h u = h
known_at page name (pair ∷ pairs) (inl same) u = inl (λ p taken e. u p taken (sym same ∙ e))
known_at page name (pair ∷ pairs) (inr later) u = inr (known_at page name pairs later u)

untaken_at : (page : PageKind) (p : Parameter) (pairs : List Pair) (o : Option (List ℕ)) → value_of p pairs ≡ o → ¬ (HasUnknown page pairs) → is_taken page p ≡ false → o ≡ None
untaken_at page p pairs None e known not = refl
untaken_at page p pairs (Some v) e known not =
    absurd (known (known_at page (name_of p) pairs (has_name p pairs v e) (λ q taken same. false≢true (sym not ∙ ap (is_taken page) (name_same p q same) ∙ taken))))

-- a parameter that the page doesn't take is absent
pub untaken : (page : PageKind) (p : Parameter) (pairs : List Pair) → ¬ (HasUnknown page pairs) → is_taken page p ≡ false → value_of p pairs ≡ None
untaken page p pairs known not = untaken_at page p pairs (value_of p pairs) refl known not

-- ---- names that stand once

name_later : (name : List ℕ) (front : List Pair) (pair : Pair) (rest : List Pair) → pair.0 ≡ name → HasName name (front ++ pair ∷ rest)
name_later name [] pair rest e = inl e
name_later name (p ∷ front) pair rest e = inr (name_later name front pair rest e)

pub repeat_there : (front : List Pair) (pair : Pair) (rest : List Pair) → HasName pair.0 front → HasRepeat (front ++ pair ∷ rest)
repeat_there [] pair rest h = absurd h
repeat_there (p ∷ front) pair rest (inl same) = inl (name_later p.0 front pair rest (sym same))
repeat_there (p ∷ front) pair rest (inr later) = inr (repeat_there front pair rest later)

name_end : (name : List ℕ) (front : List Pair) (pair : Pair) → HasName name (front ++ pair ∷ []) → HasName name front ⊎ (pair.0 ≡ name)
name_end name [] pair (inl e) = inr e
name_end name [] pair (inr h) = absurd h
name_end name (p ∷ front) pair (inl e) = inl (inl e)
name_end name (p ∷ front) pair (inr h) = ⊎_elim (λ k. inl (inr k)) (λ k. inr k) (name_end name front pair h)

pub repeat_end : (front : List Pair) (pair : Pair) → HasRepeat (front ++ pair ∷ []) → HasRepeat front ⊎ HasName pair.0 front
repeat_end [] pair (inl h) = absurd h
repeat_end [] pair (inr h) = absurd h
repeat_end (p ∷ front) pair (inl h) = ⊎_elim (λ k. inl (inl k)) (λ e. inr (inl (sym e))) (name_end p.0 front pair h)
repeat_end (p ∷ front) pair (inr h) = ⊎_elim (λ k. inl (inr k)) (λ k. inr (inr k)) (repeat_end front pair h)

found_at : (o : Option (List ℕ)) (ps : List Pair) (p : Parameter) (text : List ℕ) (left pairs : List Pair) → value_of p ps ≡ o
    → ps ++ (name_of p, text) ∷ left ≡ pairs → ¬ (HasRepeat ps) → IsFound (if_absent o (ps ++ (name_of p, text) ∷ [])) left pairs
found_at None ps p text left pairs e same once =
    (append_assoc ps ((name_of p, text) ∷ []) left ∙ same, λ h. ⊎_elim once (no_name p ps e) (repeat_end ps (name_of p, text) h))
found_at (Some v) ps p text left pairs e same once =
    let P : List Pair → Type 0 = HasRepeat in subst P same (repeat_there ps (name_of p, text) left (has_name p ps v e))

-- the pairs so far, with one more
pub found_more : (found : Option (List Pair)) (p : Parameter) (text : List ℕ) (left pairs : List Pair) → IsFound found ((name_of p, text) ∷ left) pairs
    → IsFound (with_pair found p text) left pairs
found_more None p text left pairs h = h
found_more (Some ps) p text left pairs h = found_at (value_of p ps) ps p text left pairs refl h.0 h.1
