-- Parameters by the places of their ids.
use Rattle.std.proofs.Common.{◌≡◌, ℕ, zero, suc, ◌+◌, ◌-◌, ◌<◌, Bool, true, false, not, List, [], ◌∷◌, ◌++◌, length, get_or, take, All, refl, ap, ap₂, sym, ◌∙◌, arith, inl, inr, eqb, Option, Some, None, Ordering, Less, Equal, bytes_eq}
use Rattle.std.specs.Prelude.{◌||◌, ◌⊎◌, Ok, Err}
use Rattle.std.specs.List.{slice_index_or, list_any, range_with_len}
use Rattle.std.proofs.lemmas.Bool.Decides.{nat_tests}
use Rattle.std.proofs.lemmas.List.Folds.{list_any_more, list_any_at}
use Rattle.std.proofs.lemmas.Slice.Eq.{bytes_eq-Decides}
use Rattle.edr_base.specs.Names.{order}
use Rattle.edr_ids.specs.Ids.{AscendBy, has_id}
use Rattle.edr_select.specs.PlacesOfIds.{IsPlaceOfId}
use Rattle.edr_ids.specs.ListLaws.{order_itself, keys_ascend}
use Rattle.edr_select.proofs.SearchedIds.{none_has_it}
use Rattle.covjson_value.specs.declared.coverages.Parameter.{Parameter}
use Rattle.covjson_value.specs.Coverages.{ids_of}
use Rattle.edr_edition.specs.Values.{parameter_id}
use Rattle.edr_select.specs.Samples.{id_at, ascending_once}
use Rattle.edr_select.specs.Refusals.{names_other}
use Rattle.edr_select.specs.ListLaws.{both}
use Rattle.edr_select.specs.Choices.{parameter_places}
use Rattle.edr_select.proofs.FoundPlaces.{Found, found_none, found_more, found_is, all_taken}

pub id_of : (ps : List Parameter) (k : ℕ) (d : Parameter) → k < length ps → parameter_id (slice_index_or ps k d) ≡ id_at ps k
id_of [] k d inside = absurd (omega arith)
id_of (x ∷ xs) zero d inside = refl
id_of (x ∷ xs) (suc k) d inside = id_of xs k d (omega arith)

some_parameter : (ps : List Parameter) (k : ℕ) → k < length ps → Parameter
some_parameter [] k inside = absurd (omega arith)
some_parameter (x ∷ xs) k inside = x

less_equal : (o : Ordering) → o ≡ Less → o ≡ Equal → ⊥
less_equal o l e = cc

ids_rise : (ps : List Parameter) → AscendBy parameter_id ps → (low high : ℕ) → low < high → high < length ps → id_at ps low ≡ id_at ps high → ⊥
ids_rise ps up low high lt inside same =
    let d : Parameter = some_parameter ps high inside in
    let below : order (id_at ps low) (id_at ps high) ≡ Less =
    ap₂ order (sym (id_of ps low d (omega arith))) (sym (id_of ps high d inside)) ∙ keys_ascend parameter_id ps up low high d lt inside in
    less_equal (order (id_at ps low) (id_at ps high)) below (ap (order (id_at ps low)) (sym same) ∙ order_itself (id_at ps low))

order_cases : (a b : ℕ) → (a ≡ b) ⊎ ((a < b) ⊎ (b < a))
order_cases a b = grind arith

-- an id stands at one place
pub id_once : (ps : List Parameter) → AscendBy parameter_id ps → (k p : ℕ) → k < length ps → p < length ps → id_at ps k ≡ id_at ps p → p ≡ k
id_once ps up k p in_k in_p same = elim (order_cases p k) [
  | inl e ↦ e
  | inr other ↦ elim other [
    | inl lt ↦ absurd (ids_rise ps up p k lt in_k (sym same))
    | inr gt ↦ absurd (ids_rise ps up k p gt in_p same)
  ]
]

equal_test : (a b : ℕ) → a ≡ b → eqb a b ≡ true
equal_test a b e = grind (arith, nat_tests)

test_equal : (a b : ℕ) → eqb a b ≡ true → a ≡ b
test_equal a b e = grind (arith, nat_tests)

-- the id at a place is that of one place alone
pub id_told : (ps : List Parameter) → AscendBy parameter_id ps → (p : ℕ) (name : List ℕ) → p < length ps → id_at ps p ≡ name → (k : ℕ) → k < length ps → bytes_eq (id_at ps k) name ≡ eqb p k
id_told ps up p name in_p is k in_k = both (bytes_eq (id_at ps k) name) (eqb p k)
    (λ e. equal_test p k (id_once ps up k p in_k in_p ((bytes_eq-Decides (id_at ps k) name).0 e ∙ sym is)))
    (λ e. (bytes_eq-Decides (id_at ps k) name).1 (ap (id_at ps) (sym (test_equal p k e)) ∙ is))

-- ---- names, one after the other

abbrev pub taken_by : List Parameter → List (List ℕ) → ℕ → Bool
taken_by ps names k = list_any (bytes_eq (id_at ps k)) names

-- the places of the first of the names, all of which are ids
pub record NamesFound (ps : List Parameter) (names : List (List ℕ)) (places : List ℕ) : Type 0 where
  pub found : Found (length ps) places (taken_by ps names)
  pub known : names_other (Some names) (ids_of ps) ≡ false

pub no_names : (ps : List Parameter) → NamesFound ps [] []
no_names ps = record { found = found_none (length ps); known = refl }

abbrev pub is_other : List Parameter → List ℕ → Bool
is_other ps name = not (list_any (bytes_eq name) (ids_of ps))

length_ids : (ps : List Parameter) → length (ids_of ps) ≡ length ps
length_ids [] = refl
length_ids (x ∷ xs) = ap suc (length_ids xs)

known_at : (ps : List Parameter) (p : ℕ) (name : List ℕ) → p < length ps → id_at ps p ≡ name → list_any (bytes_eq name) (ids_of ps) ≡ true
known_at ps p name inside is =
    list_any_at (bytes_eq name) (ids_of ps) p [] (omega (arith, length_ids ps)) ((bytes_eq-Decides name (id_at ps p)).1 (sym is))

or_both : (b c : Bool) → b ≡ false → c ≡ false → (b || c) ≡ false
or_both b c e f = rw (e, f) refl

pub names_more : (ps : List Parameter) (names : List (List ℕ)) (places : List ℕ) (i p : ℕ) (name : List ℕ) → AscendBy parameter_id ps → i < length names → get_or names i name ≡ name
    → p < length ps → id_at ps p ≡ name → NamesFound ps (take i names) places → NamesFound ps (take (i + 1) names) (places ++ p ∷ [])
names_more ps names places i p name up inside at in_p is so_far = record {
  found = found_more (length ps) p places (taken_by ps (take i names)) (λ k. bytes_eq (id_at ps k) name) (taken_by ps (take (i + 1) names)) so_far.found in_p
      (id_told ps up p name in_p is)
      (λ k. list_any_more (bytes_eq (id_at ps k)) names i name inside ∙ ap (λ n. taken_by ps (take i names) k || bytes_eq (id_at ps k) n) at);
  known = list_any_more (is_other ps) names i name inside
      ∙ or_both (list_any (is_other ps) (take i names)) (is_other ps (get_or names i name)) so_far.known (ap (is_other ps) at ∙ ap not (known_at ps p name in_p is));
}

-- a name that is no id
pub name_unknown : (ps : List Parameter) (names : List (List ℕ)) (i place : ℕ) (name : List ℕ) → i < length names → get_or names i name ≡ name
    → IsPlaceOfId parameter_id name ps (Err place) → names_other (Some names) (ids_of ps) ≡ true
name_unknown ps names i place name inside at missing =
    list_any_at (is_other ps) names i name inside (ap (is_other ps) at ∙ ap not (each ps (none_has_it parameter_id name ps place missing)))
  where
    flip : (a b : List ℕ) → bytes_eq b a ≡ false → bytes_eq a b ≡ false
    flip a b differ = both (bytes_eq a b) false (λ e. sym differ ∙ (bytes_eq-Decides b a).1 (sym ((bytes_eq-Decides a b).0 e))) (λ e. cc)

    each : (ps : List Parameter) → ((k : ℕ) (d : Parameter) → k < length ps → has_id parameter_id name (get_or ps k d) ≡ false) → list_any (bytes_eq name) (ids_of ps) ≡ false
    each [] h = refl
    each (x ∷ xs) h = or_both (bytes_eq name (parameter_id x)) (list_any (bytes_eq name) (ids_of xs)) (flip name (parameter_id x) (h 0 x (omega arith))) (each xs (λ k d inner. h (suc k) d (omega (arith, inner))))

-- the id at the place that was found
pub found_id : (ps : List Parameter) (p : ℕ) (name : List ℕ) → IsPlaceOfId parameter_id name ps (Ok p) → id_at ps p ≡ name
found_id ps p name at = let d : Parameter = some_parameter ps p at.0 in sym (id_of ps p d at.0) ∙ at.1 d

-- all names are ids, and the places are those of the parameters that are asked
pub names_taken : (ps : List Parameter) (names : List (List ℕ)) (places sorted : List ℕ) → NamesFound ps names places
    → ((count : ℕ) → All (λ n. n < count) places → sorted ≡ ascending_once count places)
    → (names_other (Some names) (ids_of ps) ≡ false) × (sorted ≡ parameter_places (Some names) ps)
names_taken ps names places sorted so_far is = (so_far.known, found_is (length ps) places sorted (taken_by ps names) so_far.found is)

minus : (n : ℕ) → n - 0 ≡ n
minus n = omega arith

-- without names there is no other one, and all are taken
pub all_asked : (names : Option (List (List ℕ))) (ps : List Parameter) (places : List ℕ) → names ≡ None → places ≡ range_with_len 0 (length ps - 0)
    → (names_other names (ids_of ps) ≡ false) × (places ≡ parameter_places names ps)
all_asked None ps places none is = (refl, is ∙ ap (range_with_len 0) (minus (length ps)) ∙ all_taken 0 (length ps))
all_asked (Some names) ps places none is = cc
