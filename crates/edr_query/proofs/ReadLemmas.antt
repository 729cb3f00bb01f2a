-- The pairs of a query text, one after another.
use Rattle.std.proofs.Common.{◌≡◌, ◌⊎◌, inl, inr, ⊎_elim, ℕ, List, [], ◌∷◌, ◌++◌, map, true, ap, sym, ◌∙◌, subst, append-nil, Some, None}
use Rattle.std.specs.declared.option.Option.{Option}
use Rattle.edr_base.specs.FirstThatApplies.{IsLeast}
use Rattle.edr_base.specs.declared.refusals.Refusal.TheVariants.{UnknownParameter, RepeatedParameter}
use Rattle.edr_query.specs.declared.addresses.PageKind.{PageKind}
use Rattle.edr_query.specs.declared.parameters.Parameter.{Parameter}
use Rattle.edr_query.specs.Parameters.{Pair, read_pair, name_of, is_taken, IsUnknown, HasUnknown, HasRepeat}
use Rattle.edr_base.specs.RefusalTable.{rank}
use Rattle.edr_query.specs.Targets.{Applies}
use Rattle.edr_query.specs.Reads.{read_text, with_pair, IsFound, AreRead}
use Rattle.edr_query.proofs.PairLemmas.{known_name, found_more}
use Rattle.edr_query.proofs.RefusalLemmas.{start, more}

abbrev read : List Pair → List Pair
read raw = map read_pair raw

read_is : (raw left : List Pair) (name value : List ℕ) → raw ≡ (name, value) ∷ left → read raw ≡ (read_text name, read_text value) ∷ read left
read_is raw left name value e = ap read e

pub later_more : (page : PageKind) (raw left all : List Pair) (name value : List ℕ) → raw ≡ (name, value) ∷ left → (HasUnknown page (read raw) → HasUnknown page all) → HasUnknown page (read left) → HasUnknown page all
later_more page raw left all name value e later h = let P : List Pair → Type 0 = HasUnknown page in later (subst P (sym (read_is raw left name value e)) (inr h))

pub known_more : (page : PageKind) (raw left all : List Pair) (name value : List ℕ) (p : Parameter) → raw ≡ (name, value) ∷ left → read_text name ≡ name_of p → is_taken page p ≡ true
    → (HasUnknown page all → HasUnknown page (read raw)) → HasUnknown page all → HasUnknown page (read left)
known_more page raw left all name value p e is taken known h =
    let P : List Pair → Type 0 = HasUnknown page in
    ⊎_elim (λ u. absurd (known_name page (read_text name) p is taken u)) (λ l. l) (subst P (read_is raw left name value e) (known h))

pub found_next : (found : Option (List Pair)) (raw left all : List Pair) (name value : List ℕ) (p : Parameter) → raw ≡ (name, value) ∷ left → read_text name ≡ name_of p
    → IsFound found (read raw) all → IsFound (with_pair found p (read_text value)) (read left) all
found_next found raw left all name value p e is h =
    let same : read raw ≡ (name_of p, read_text value) ∷ read left = read_is raw left name value e ∙ ap (λ n. (n, read_text value) ∷ read left) is in
    let P : List Pair → Type 0 = λ l. IsFound found l all in
    found_more found p (read_text value) (read left) all (subst P same h)

pub unknown_there : (page : PageKind) (raw left all : List Pair) (name value : List ℕ) → raw ≡ (name, value) ∷ left → (HasUnknown page (read raw) → HasUnknown page all) → IsUnknown page (read_text name) → HasUnknown page all
unknown_there page raw left all name value e later u = let P : List Pair → Type 0 = HasUnknown page in later (subst P (sym (read_is raw left name value e)) (inl u))

all_known : (page : PageKind) (raw all : List Pair) → raw ≡ [] → (HasUnknown page all → HasUnknown page (read raw)) → ¬ (HasUnknown page all)
all_known page raw all e known h = let P : List Pair → Type 0 = λ l. HasUnknown page (read l) in subst P e (known h)

pub all_read : (page : PageKind) (raw all found : List Pair) → raw ≡ [] → (HasUnknown page all → HasUnknown page (read raw)) → IsFound (Some found) (read raw) all → AreRead page all found
all_read page raw all found e known h =
    let same : found ≡ all = sym (append-nil found) ∙ ap (λ (l : List Pair). found ++ read l) (sym e) ∙ h.0 in
    let P : List Pair → Type 0 = λ l. ¬ (HasRepeat l) in
    record { same = same; known = all_known page raw all e known; once = subst P same h.1 }

pub all_twice : (page : PageKind) (raw all : List Pair) → raw ≡ [] → (HasUnknown page all → HasUnknown page (read raw)) → IsFound None (read raw) all → IsLeast rank (Applies page all) RepeatedParameter
all_twice page raw all e known h = record { applies = h; none_before = more page all UnknownParameter (start page all) (all_known page raw all e known) }
