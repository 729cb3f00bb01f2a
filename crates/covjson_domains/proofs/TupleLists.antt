-- Tests along the items of tuples, and the values that are found there.
use Rattle.std.specs.Prelude.{option_and_then, unsigned_abs, bytes_eq}
use Rattle.std.proofs.Common.{◌≡◌, ℕ, suc, ◌+◌, ◌-◌, ◌<◌, ◌≤◌, ◌++◌, ℤ, List, [], ◌∷◌, length, get_or, drop, map, true, false, true≢false, Option, Some, Ok, Err, inl, inr, refl, sym, ap, ◌∙◌, append-nil, subst, arith}
use Rattle.std.proofs.lemmas.Bool.{and_parts, cases_Bool, cond-true, cond-false}
use Rattle.std.proofs.lemmas.List.{drop_all, drop_more, length-drop}
use Rattle.serde_json.specs.Data.{Data, Items, no_items, item}
use Rattle.serde_json.specs.Find.{as_array, as_str}
use Rattle.serde_json.specs.View.{items_of}
use Rattle.edr_samples.specs.Trees.{tree_view, items_view}
use Rattle.edr_samples.specs.declared.trees.Tree.{Tree}
use Rattle.edr_base.specs.declared.places.Position.{Position}
use Rattle.edr_base.specs.Limits.{coordinate_limit}
use Rattle.covjson_value.specs.declared.domains.CoordinateName.{CoordinateName}
use Rattle.covjson_value.specs.declared.domains.CoordinateName.TheVariants.{T, Z, Y, X}
use Rattle.covjson_value.specs.Domains.{coordinate_key, coordinate}
use Rattle.covjson_checks.specs.declared.faults.CovFault.{CovFault}
use Rattle.covjson_domains.specs.declared.tuples.Test.{Test}
use Rattle.covjson_domains.specs.declared.tuples.Test.TheVariants.{Within}
use Rattle.covjson_checks.specs.Answers.{Answer, onto}
use Rattle.edr_base.specs.FirstThatApplies.{and_then}
use Rattle.edr_json.specs.Trees.{count_items, is_text, whole_of}
use Rattle.edr_json.specs.TreeLaws.{count_seen}
use Rattle.covjson_domains.specs.TupleAnswers.{are_keys, is_whole_within, passes, all_pass, list_passes, tuples_pass, value_of, whole_or_zero, number_of, tuple_at, tuples_from, never_falls}
use Rattle.covjson_checks.specs.CheckLaws.{onto_more}
use Rattle.covjson_domains.proofs.TupleReads.{within_tells}
use Rattle.covjson_domains.proofs.TupleValues.{same_name}

-- as many items as names are the names
pub keys_counted : (names : List CoordinateName) (xs : List Tree) → are_keys names (items_view xs) ≡ true → length xs ≡ length names
keys_counted [] [] h = refl
keys_counted [] (x ∷ xs) h = absurd (true≢false (sym h))
keys_counted (name ∷ names) [] h = absurd (true≢false (sym h))
keys_counted (name ∷ names) (x ∷ xs) h =
    ap suc (keys_counted names xs (and_parts (is_text (coordinate_key name) (as_str (tree_view x))) (are_keys names (items_view xs)) h).1)

-- as many items as names pass a test
pub all_counted : (test : Test) (names : List CoordinateName) (ds : Items) → all_pass test names ds ≡ true → count_items ds ≡ length names
all_counted test [] no_items h = refl
all_counted test [] (item d ds) h = absurd (true≢false (sym h))
all_counted test (name ∷ names) no_items h = absurd (true≢false (sym h))
all_counted test (name ∷ names) (item d ds) h = ap suc (all_counted test names ds (and_parts (passes test name d) (all_pass test names ds) h).1)

pub seen_counted : {X : Type 0} (seen : X → Data) (test : Test) (names : List CoordinateName) (xs : List X) → all_pass test names (items_of (map seen xs)) ≡ true → length xs ≡ length names
seen_counted seen test names xs h = sym (count_seen seen xs) ∙ all_counted test names (items_of (map seen xs)) h

pub pass_counted : (test : Test) (names : List CoordinateName) (xs : List Tree) → all_pass test names (items_view xs) ≡ true → length xs ≡ length names
pass_counted = seen_counted tree_view

-- ---- the value of a name

-- the value at a place, before those after it
from_place : {X : Type 0} (xs : List X) (i : ℕ) → i < length xs → (x : X) × (drop i xs ≡ x ∷ drop (i + 1) xs)
from_place [] i h = absurd (omega arith)
from_place (x ∷ xs) i h = (get_or (x ∷ xs) i x, drop_more (x ∷ xs) i x h)

-- the value of a name isn't that of another
pub seen_later : {X : Type 0} (seen : X → Data) (name other : CoordinateName) (names : List CoordinateName) (xs : List X) (i : ℕ) → i < length names → i < length xs
    → bytes_eq (coordinate_key name) (coordinate_key (get_or names i other)) ≡ false
    → value_of name (drop i names) (items_of (map seen (drop i xs))) ≡ value_of name (drop (i + 1) names) (items_of (map seen (drop (i + 1) xs)))
seen_later seen name other names xs i h k differs =
    let x = from_place xs i k in
    rw (drop_more names i other h, x.1) (cond-false (bytes_eq (coordinate_key name) (coordinate_key (get_or names i other))) (Some (seen x.0)) _ differs)

pub value_later : (name other : CoordinateName) (names : List CoordinateName) (xs : List Tree) (i : ℕ) → i < length names → i < length xs
    → bytes_eq (coordinate_key name) (coordinate_key (get_or names i other)) ≡ false
    → value_of name (drop i names) (items_view (drop i xs)) ≡ value_of name (drop (i + 1) names) (items_view (drop (i + 1) xs))
value_later = seen_later tree_view

-- the value of a name passes the test that all pass
value_passing : (test : Test) (name : CoordinateName) (names : List CoordinateName) (ds : Items) (d : Data) → all_pass test names ds ≡ true
    → value_of name names ds ≡ Some d → passes test name d ≡ true
value_passing test name [] ds d pass found = cc
value_passing test name (other ∷ names) no_items d pass found = cc
value_passing test name (other ∷ names) (item e ds) d pass found =
    let same = bytes_eq (coordinate_key name) (coordinate_key other) in
    let later = value_of name names ds in
    let parts = and_parts (passes test other e) (all_pass test names ds) pass in
    elim (cases_Bool same) [
      | inl equal ↦
          let here : ◌≡◌ {A = Option Data} (Some e) (Some d) = sym (cond-true same (Some e) later equal) ∙ found in
          let is : e ≡ d = cc in
          subst (λ (x : Data). passes test name x ≡ true) is (subst (λ (n : CoordinateName). passes test n e ≡ true) (sym (same_name name other equal)) parts.0)
      | inr differs ↦ value_passing test name names ds d parts.1 (sym (cond-false same (Some e) later differs) ∙ found)
    ]

-- what passes as a number is within the limit
number_passing : (name : CoordinateName) (d : Data) → ¬ (name ≡ T) → passes Within name d ≡ true → is_whole_within (whole_of d) ≡ true
number_passing T d not pass = absurd (not refl)
number_passing Z d not pass = pass
number_passing Y d not pass = pass
number_passing X d not pass = pass

-- a number of a tuple within the limits
pub number_within : (name : CoordinateName) (names : List CoordinateName) (ds : Items) (d : Data) (number : ℤ) → ¬ (name ≡ T) → all_pass Within names ds ≡ true
    → value_of name names ds ≡ Some d → whole_of d ≡ Some number → unsigned_abs number ≤ coordinate_limit
number_within name names ds d number not pass found whole =
    let tells = within_tells (whole_of d) (number_passing name d not (value_passing Within name names ds d pass found)) in
    subst (λ (z : ℤ). unsigned_abs z ≤ coordinate_limit) (ap whole_or_zero whole) tells.1

-- the number of a name is that of its value
pub number_found : (name : CoordinateName) (names : List CoordinateName) (ds : Items) (d : Data) (number : ℤ) → value_of name names ds ≡ Some d
    → whole_of d ≡ Some number → number ≡ number_of name names ds
number_found name names ds d number found whole =
    sym (ap (λ (o : Option Data). whole_or_zero (option_and_then whole_of o)) found ∙ ap whole_or_zero whole)

-- ---- tuples

-- the rest of tuples within the limits are within them
pub pass_rest : (names : List CoordinateName) (xs : List Tree) (i : ℕ) (x : Tree) → i < length xs → tuples_pass Within names (items_view (drop i xs)) ≡ true
    → tuples_pass Within names (items_view (drop (i + 1) xs)) ≡ true
pass_rest names xs i x h pass =
    let begin = ap (λ (ys : List Tree). tuples_pass Within names (items_view ys)) (drop_more xs i x h) in
    (and_parts (list_passes Within names (as_array (tree_view (get_or xs i x)))) (tuples_pass Within names (items_view (drop (i + 1) xs))) (sym begin ∙ pass)).1

-- the tuples of the rest, after one tuple more
pub read_more : (names : List CoordinateName) (xs : List Tree) (i : ℕ) (x : Tree) (found new : List Position) (tuple : Position) → i < length xs → x ≡ get_or xs i x
    → tuple_at names i (tree_view x) ≡ Ok tuple → new ≡ found ++ tuple ∷ []
    → onto found (tuples_from names i (items_view (drop i xs))) ≡ onto new (tuples_from names (i + 1) (items_view (drop (i + 1) xs)))
read_more names xs i x found new tuple h is read pushed =
    let ds = items_view (drop (i + 1) xs) in
    let after : suc i ≡ i + 1 = omega arith in
    let here : tuple_at names i (tree_view (get_or xs i x)) ≡ Ok tuple = ap (λ (v : Tree). tuple_at names i (tree_view v)) (sym is) ∙ read in
    let begin = ap (λ (ys : List Tree). onto found (tuples_from names i (items_view ys))) (drop_more xs i x h) in
    let next = ap (λ (a : Answer Position). onto found (and_then a (λ t. and_then (tuples_from names (suc i) ds) (λ tuples. Ok (t ∷ tuples))))) here in
    let place = ap (λ (n : ℕ). onto found (and_then (tuples_from names n ds) (λ tuples. Ok (tuple ∷ tuples)))) after in
    begin ∙ next ∙ place ∙ sym (onto_more found tuple (tuples_from names (i + 1) ds)) ∙ ap (λ (ts : List Position). onto ts (tuples_from names (i + 1) ds)) (sym pushed)

-- nor is the first of them outside the limits
pub pass_first : (names : List CoordinateName) (xs : List Tree) (i : ℕ) (x : Tree) → i < length xs → x ≡ get_or xs i x → tuples_pass Within names (items_view (drop i xs)) ≡ true
    → list_passes Within names (as_array (tree_view x)) ≡ true
pass_first names xs i x h is pass =
    let begin = ap (λ (ys : List Tree). tuples_pass Within names (items_view ys)) (drop_more xs i x h) in
    let parts = and_parts (list_passes Within names (as_array (tree_view (get_or xs i x)))) (tuples_pass Within names (items_view (drop (i + 1) xs))) (sym begin ∙ pass) in
    ap (λ (v : Tree). list_passes Within names (as_array (tree_view v))) is ∙ parts.0

-- the fault of the first tuple of the rest is the answer
pub read_stops : (names : List CoordinateName) (xs : List Tree) (i : ℕ) (x : Tree) (found : List Position) (f : CovFault) (all : Answer (List Position)) → i < length xs
    → x ≡ get_or xs i x → Err f ≡ tuple_at names i (tree_view x) → onto found (tuples_from names i (items_view (drop i xs))) ≡ all → all ≡ Err f
read_stops names xs i x found f all h is read before =
    let ds = items_view (drop (i + 1) xs) in
    let here : tuple_at names i (tree_view (get_or xs i x)) ≡ Err f = ap (λ (v : Tree). tuple_at names i (tree_view v)) (sym is) ∙ sym read in
    let begin = ap (λ (ys : List Tree). onto found (tuples_from names i (items_view ys))) (drop_more xs i x h) in
    let next = ap (λ (a : Answer Position). onto found (and_then a (λ t. and_then (tuples_from names (suc i) ds) (λ tuples. Ok (t ∷ tuples))))) here in
    sym before ∙ begin ∙ next

-- one tuple or none never falls
falls_not : (tuples : List Position) → length tuples ≤ 1 → never_falls (map (coordinate T) tuples) ≡ true
falls_not [] h = refl
falls_not (tuple ∷ []) h = refl
falls_not (tuple ∷ (next ∷ tuples)) h = absurd (omega arith)

-- nor do the tuples from the last on
pub ends_in_time : (tuples : List Position) (place : ℕ) → length tuples ≤ place → never_falls (map (coordinate T) (drop (place - 1) tuples)) ≡ true
ends_in_time tuples place h = falls_not (drop (place - 1) tuples) (omega (arith, length-drop (place - 1) tuples))

-- and after the last tuple all are found
pub read_end : (names : List CoordinateName) (xs : List Tree) (i : ℕ) (found : List Position) (all : Answer (List Position)) → length xs ≤ i
    → onto found (tuples_from names i (items_view (drop i xs))) ≡ all → all ≡ Ok found
read_end names xs i found all past before = sym before ∙ ap (λ vs. onto found (tuples_from names i (items_view vs))) (drop_all i xs past) ∙ ap Ok (append-nil found)
