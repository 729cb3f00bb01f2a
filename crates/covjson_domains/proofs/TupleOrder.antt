-- The names of the coordinates of tuples, and the order of their times.
use Rattle.std.specs.Prelude.{◌&&◌, if◌then◌else◌}
use Rattle.std.proofs.Common.{◌≡◌, ℕ, zero, suc, ◌+◌, ◌<◌, ℤ, ◌≤ℤ◌, List, [], ◌∷◌, length, map, Bool, true, false, Option, Some, None, refl, sym, ap, ap₂, subst, arith}
use Rattle.std.proofs.lemmas.Bool.{true≢false, false≢true, and_parts, and_from}
use Rattle.std.proofs.lemmas.Slice.Eq.{bytes_eq-Decides}
use Rattle.serde_json.specs.Data.{Data, string, Items, no_items, item}
use Rattle.serde_json.specs.Find.{as_str}
use Rattle.serde_json.specs.View.{items_of}
use Rattle.edr_axes.specs.Axes.{value_at}
use Rattle.covjson_value.specs.declared.domains.CoordinateName.{CoordinateName}
use Rattle.covjson_value.specs.Domains.{coordinate_key}
use Rattle.covjson_value.specs.Coverages.{NeverFall}
use Rattle.covjson_domains.specs.declared.tuples.TupleKind.{TupleKind}
use Rattle.covjson_domains.specs.declared.tuples.TupleKind.TheVariants.{Places, Steps, LevelSteps}
use Rattle.edr_json.specs.Trees.{is_text}
use Rattle.covjson_domains.specs.TupleAnswers.{names_of, may_have_z, are_keys, has_z_by_keys, is_at_most_first, never_falls}
use Rattle.edr_json.specs.TreeLaws.{as_str_some}
use Rattle.covjson_domains.proofs.OrderTests.{at_most_tells, at_most_given}

-- ---- names of coordinates

-- the datum of a name
abbrev pub key_data : CoordinateName → Data
key_data name = string (coordinate_key name)

-- what is that text is the text
text_tells : (text : List ℕ) (o : Option (List ℕ)) → is_text text o ≡ true → o ≡ Some text
text_tells text None h = absurd (true≢false (sym h))
text_tells text (Some found) h = ap Some ((bytes_eq-Decides found text).0 h)

-- items that are the names of some coordinates are those of the tree
pub keys_tell : (names : List CoordinateName) (ds : Items) → are_keys names ds ≡ true → ds ≡ items_of (map key_data names)
keys_tell [] no_items h = refl
keys_tell [] (item d ds) h = absurd (true≢false (sym h))
keys_tell (name ∷ names) no_items h = absurd (true≢false (sym h))
keys_tell (name ∷ names) (item d ds) h =
    let parts = and_parts (is_text (coordinate_key name) (as_str d)) (are_keys names ds) h in
    ap₂ item (as_str_some d (coordinate_key name) (text_tells (coordinate_key name) (as_str d) parts.0)) (keys_tell names ds parts.1)

-- without levels the names are those without
chosen_without : (plain may levels : Bool) → ◌≡◌ {A = Option Bool} (if plain then Some false else (if may && levels then Some true else None)) (Some false) → plain ≡ true
chosen_without true may levels h = refl
chosen_without false true true h = cc
chosen_without false true false h = cc
chosen_without false false levels h = cc

-- with levels the names are those with, which the tuples may have
chosen_with : (plain may levels : Bool) → ◌≡◌ {A = Option Bool} (if plain then Some false else (if may && levels then Some true else None)) (Some true)
    → (levels ≡ true) × (may ≡ true)
chosen_with true may levels h = cc
chosen_with false true true h = (refl, refl)
chosen_with false true false h = cc
chosen_with false false levels h = cc

-- whether tuples have levels is told by the names, which they may have
pub keys_choose : (kind : TupleKind) (ds : Items) (has_z : Bool) → has_z_by_keys kind ds ≡ Some has_z
    → (are_keys (names_of kind has_z) ds ≡ true) × (has_z ≡ true → may_have_z kind ≡ true)
keys_choose kind ds false h =
    (chosen_without (are_keys (names_of kind false) ds) (may_have_z kind) (are_keys (names_of kind true) ds) h, λ not. absurd (false≢true not))
keys_choose kind ds true h =
    let chosen = chosen_with (are_keys (names_of kind false) ds) (may_have_z kind) (are_keys (names_of kind true) ds) h in
    (chosen.0, λ _. chosen.1)

-- and the names tell it
pub keys_chosen : (kind : TupleKind) (has_z : Bool) → (has_z ≡ true → may_have_z kind ≡ true) → has_z_by_keys kind (items_of (map key_data (names_of kind has_z))) ≡ Some has_z
keys_chosen Places false may = refl
keys_chosen Places true may = refl
keys_chosen Steps false may = refl
keys_chosen Steps true may = refl
keys_chosen LevelSteps false may = refl
keys_chosen LevelSteps true may = absurd (false≢true (may refl))

-- ---- the order of times

-- a value that passes the test isn't above the first
first_tells : (value : ℤ) (values : List ℤ) → is_at_most_first value values ≡ true → 0 < length values → value ≤ℤ value_at values 0
first_tells value [] h some = absurd (omega arith)
first_tells value (next ∷ values) h some = at_most_tells value next h

-- and one that isn't above the first passes it
first_given : (value : ℤ) (values : List ℤ) → (0 < length values → value ≤ℤ value_at values 0) → is_at_most_first value values ≡ true
first_given value [] h = refl
first_given value (next ∷ values) h = at_most_given value next (h (omega arith))

-- a value isn't above the next
abbrev Rises : List ℤ → ℕ → Type 0
Rises values place = value_at values place ≤ℤ value_at values (suc place)

-- of values that pass the test none is above the next
rises_tell : (values : List ℤ) → never_falls values ≡ true → (place : ℕ) → suc place < length values → Rises values place
rises_tell [] h place inside = absurd (omega arith)
rises_tell (value ∷ values) h zero inside = first_tells value values (and_parts (is_at_most_first value values) (never_falls values) h).0 (omega arith)
rises_tell (value ∷ values) h (suc place) inside = rises_tell values (and_parts (is_at_most_first value values) (never_falls values) h).1 place (omega arith)

-- and values of which none is above the next pass it
rises_given : (values : List ℤ) → ((place : ℕ) → suc place < length values → Rises values place) → never_falls values ≡ true
rises_given [] h = refl
rises_given (value ∷ values) h =
    and_from (is_at_most_first value values) (never_falls values) (first_given value values (λ some. h 0 (omega arith)))
    (rises_given values (λ place inside. h (suc place) (omega arith)))

-- values that pass the test never fall
pub never_falls_tells : (values : List ℤ) → never_falls values ≡ true → NeverFall values
never_falls_tells values h place inside =
    let next : suc place ≡ place + 1 = omega arith in
    subst (λ (n : ℕ). value_at values place ≤ℤ value_at values n) next (rises_tell values h place (omega arith))

-- and values that never fall pass it
pub never_falls_given : (values : List ℤ) → NeverFall values → never_falls values ≡ true
never_falls_given values h =
    rises_given values (λ place inside.
    let next : place + 1 ≡ suc place = omega arith in
    subst (λ (n : ℕ). value_at values place ≤ℤ value_at values n) next (h place (omega arith)))
