-- The tuples of a list, and what it stands for.
use Rattle.std.proofs.Common.{◌≡◌, ℕ, suc, ℤ, List, [], ◌∷◌, map, Bool, true, Some, Ok, refl, sym, ap, ap₂, ◌∙◌, subst}
use Rattle.std.proofs.lemmas.Bool.{and_parts, and_from}
use Rattle.serde_json.specs.Data.{Data, Items, no_items, item}
use Rattle.serde_json.specs.Find.{as_array}
use Rattle.edr_base.specs.declared.places.Position.{Position}
use Rattle.edr_axes.specs.InstantComputed.{InstantsAreRead}
use Rattle.covjson_value.specs.declared.domains.CoordinateName.{CoordinateName}
use Rattle.covjson_value.specs.declared.domains.CoordinateName.TheVariants.{T, Z, Y, X}
use Rattle.covjson_value.specs.Domains.{coordinate}
use Rattle.covjson_value.specs.Coverages.{IsTupleValue, NeverFall}
use Rattle.covjson_checks.specs.declared.faults.CovFault.TheVariants.{WrongType, NotWhole, OutOfRangeAt, NotMonotonic}
use Rattle.covjson_checks.specs.declared.faults.Member.TheVariants.{Composite}
use Rattle.covjson_domains.specs.declared.tuples.Test.{Test}
use Rattle.covjson_domains.specs.declared.tuples.Test.TheVariants.{Form, Whole, Within}
use Rattle.edr_base.specs.FirstThatApplies.{check}
use Rattle.covjson_checks.specs.Members.{list_at}
use Rattle.covjson_checks.specs.Places.{failing_place}
use Rattle.edr_json.specs.Trees.{EachStands}
use Rattle.covjson_domains.specs.Tuples.{StandsForTuple}
use Rattle.covjson_domains.specs.TupleAnswers.{all_pass, list_passes, tuples_pass, is_within_limits, value_of, number_of, time_if, tuple_at, tuples_from, never_falls, tuples_of_items}
use Rattle.edr_json.specs.AnswerLaws.{and_then_ok, or_fault_ok, check_ok, and_then_given, check_given}
use Rattle.edr_json.specs.TreeLaws.{as_array_some}
use Rattle.covjson_checks.specs.CheckLaws.{first_given}
use Rattle.covjson_domains.proofs.TupleReads.{IsReadAs}
use Rattle.covjson_domains.proofs.TupleValues.{each_passes, tuple_read, tuple_within, each_stands_read}
use Rattle.covjson_domains.proofs.TupleNames.{Finds}
use Rattle.covjson_domains.proofs.TupleOrder.{never_falls_tells, never_falls_given}

-- ---- one tuple

-- the tuple of some data at a time
abbrev of_data : List CoordinateName → Items → ℤ → Position
of_data names ds time = record { x = number_of X names ds; y = number_of Y names ds; z = number_of Z names ds; m = time }

-- each number of that tuple is what is read of its datum
of_data_read : (place : ℕ) (names : List CoordinateName) (ds : Items) (time : ℤ) → time_if place (value_of T names ds) ≡ Ok time
    → (name : CoordinateName) → IsReadAs place name (value_of name names ds) (coordinate name (of_data names ds time))
of_data_read place names ds time h T = h
of_data_read place names ds time h Z = refl
of_data_read place names ds time h Y = refl
of_data_read place names ds time h X = refl

-- a tuple that is read is one that the tree stands for
pub tuple_stands : InstantsAreRead → (names : List CoordinateName) → Finds names → (place : ℕ) (d : Data) (tuple : Position) → list_passes Within names (as_array d) ≡ true
    → tuple_at names place d ≡ Ok tuple → StandsForTuple names d tuple
tuple_stands instants names finds place d tuple pass h =
    let a = and_then_ok (list_at Composite d) _ tuple h in
    let ds = a.0 in
    let is_list : as_array d ≡ Some ds = or_fault_ok (as_array d) _ ds a.1 in
    let b = and_then_ok (time_if place (value_of T names ds)) _ tuple a.2 in
    let passes : all_pass Within names ds ≡ true = ap (list_passes Within names) (sym is_list) ∙ pass in
    let same : of_data names ds b.0 ≡ tuple = cc in
    let read : (name : CoordinateName) → IsReadAs place name (value_of name names ds) (coordinate name tuple) =
    λ name. subst (λ (p : Position). IsReadAs place name (value_of name names ds) (coordinate name p)) same (of_data_read place names ds b.0 b.1 name) in
    record {
      items = ds;
      list = as_array_some d ds is_list;
      each = each_stands_read instants place (λ name. value_of name names ds) tuple read names ds (finds ds passes) passes;
      within = tuple_within instants place names ds tuple passes read;
    }

-- the tuple of the data that it is read of
of_data_is : (place : ℕ) (names : List CoordinateName) (ds : Items) (tuple : Position)
    → ((name : CoordinateName) → IsReadAs place name (value_of name names ds) (coordinate name tuple)) → of_data names ds tuple.m ≡ tuple
of_data_is place names ds tuple read =
    let plane : ℤ → ℤ → Position = λ x y. record { x = x; y = y; z = number_of Z names ds; m = tuple.m } in
    let level : ℤ → Position = λ z. record { x = tuple.x; y = tuple.y; z = z; m = tuple.m } in
    ap₂ plane (read X) (read Y) ∙ ap level (read Z)

-- and a tuple that the tree stands for is read
pub tuple_answers : InstantsAreRead → (names : List CoordinateName) (place : ℕ) (d : Data) (tuple : Position) → StandsForTuple names d tuple → tuple_at names place d ≡ Ok tuple
tuple_answers instants names place d tuple x =
    let ds = x.items in
    let read = tuple_read instants place names ds tuple x.each x.within in
    ap (tuple_at names place) x.list
    ∙ and_then_given (time_if place (value_of T names ds)) (λ time. Ok (of_data names ds time)) tuple.m _ (read T) (ap Ok (of_data_is place names ds tuple read))

-- a tuple that the tree stands for passes each test
tuple_passes : (test : Test) (names : List CoordinateName) (d : Data) (tuple : Position) → StandsForTuple names d tuple → list_passes test names (as_array d) ≡ true
tuple_passes test names d tuple x =
    ap (λ (e : Data). list_passes test names (as_array e)) x.list
    ∙ each_passes test names x.items tuple x.each (λ name among. subst (λ (b : Bool). IsTupleValue b name (coordinate name tuple)) among (x.within name))

-- ---- the tuples of a list

-- each tuple that is read of a list is one that its item stands for
pub list_stands : InstantsAreRead → (names : List CoordinateName) → Finds names → (place : ℕ) (ds : Items) (tuples : List Position) → tuples_pass Within names ds ≡ true
    → tuples_from names place ds ≡ Ok tuples → EachStands (StandsForTuple names) ds tuples
list_stands instants names finds place no_items [] pass h = tt
list_stands instants names finds place no_items (tuple ∷ tuples) pass h = cc
list_stands instants names finds place (item d ds) tuples pass h =
    let parts = and_parts (list_passes Within names (as_array d)) (tuples_pass Within names ds) pass in
    let a = and_then_ok (tuple_at names place d) _ tuples h in
    let b = and_then_ok (tuples_from names (suc place) ds) _ tuples a.2 in
    let e : a.0 ∷ b.0 ≡ tuples = cc in
    rw (← e) (tuple_stands instants names finds place d a.0 parts.0 a.1, list_stands instants names finds (suc place) ds b.0 parts.1 b.1)

-- and the tuples that a list stands for are read of it
pub list_answers : InstantsAreRead → (names : List CoordinateName) (place : ℕ) (ds : Items) (tuples : List Position) → EachStands (StandsForTuple names) ds tuples
    → tuples_from names place ds ≡ Ok tuples
list_answers instants names place no_items [] h = refl
list_answers instants names place no_items (tuple ∷ tuples) h = absurd h
list_answers instants names place (item d ds) [] h = absurd h
list_answers instants names place (item d ds) (tuple ∷ tuples) h =
    first_given (tuple_at names place d) (tuples_from names (suc place) ds) tuple tuples (tuple_answers instants names place d tuple h.0) (list_answers instants names (suc place) ds tuples h.1)

-- each of them passes each test
list_passes_all : (test : Test) (names : List CoordinateName) (ds : Items) (tuples : List Position) → EachStands (StandsForTuple names) ds tuples → tuples_pass test names ds ≡ true
list_passes_all test names no_items [] h = refl
list_passes_all test names no_items (tuple ∷ tuples) h = absurd h
list_passes_all test names (item d ds) [] h = absurd h
list_passes_all test names (item d ds) (tuple ∷ tuples) h =
    and_from (list_passes test names (as_array d)) (tuples_pass test names ds) (tuple_passes test names d tuple h.0) (list_passes_all test names ds tuples h.1)

-- the tuples that are read of a list are those that it stands for, in the order of their times
pub items_stand : InstantsAreRead → (names : List CoordinateName) → Finds names → (ds : Items) (tuples : List Position) → tuples_of_items names ds ≡ Ok tuples
    → EachStands (StandsForTuple names) ds tuples × NeverFall (map (coordinate T) tuples)
items_stand instants names finds ds tuples h =
    let f = and_then_ok (check (tuples_pass Form names ds) (WrongType Composite)) _ tuples h in
    let w = and_then_ok (check (tuples_pass Whole names ds) (NotWhole Composite)) _ tuples f.2 in
    let l = and_then_ok (check (tuples_pass Within names ds) (OutOfRangeAt Composite (failing_place (is_within_limits names) ds))) _ tuples w.2 in
    let t = and_then_ok (tuples_from names 0 ds) _ tuples l.2 in
    let falls = never_falls (map (coordinate T) t.0) in
    let o = and_then_ok (check falls (NotMonotonic Composite)) _ tuples t.2 in
    let same : t.0 ≡ tuples = cc in
    let stand = list_stands instants names finds 0 ds t.0 (check_ok (tuples_pass Within names ds) _ _ l.1) t.1 in
    let in_time = never_falls_tells (map (coordinate T) t.0) (check_ok falls _ _ o.1) in
    subst (λ (ts : List Position). EachStands (StandsForTuple names) ds ts × NeverFall (map (coordinate T) ts)) same (stand, in_time)

-- and the tuples that it stands for are read
pub items_answer : InstantsAreRead → (names : List CoordinateName) (ds : Items) (tuples : List Position) → EachStands (StandsForTuple names) ds tuples → NeverFall (map (coordinate T) tuples)
    → tuples_of_items names ds ≡ Ok tuples
items_answer instants names ds tuples h in_time =
    let passes = λ (test : Test). list_passes_all test names ds tuples h in
    let falls = never_falls (map (coordinate T) tuples) in
    and_then_given (check (tuples_pass Form names ds) (WrongType Composite)) _ tt _ (check_given _ _ (passes Form))
    (and_then_given (check (tuples_pass Whole names ds) (NotWhole Composite)) _ tt _ (check_given _ _ (passes Whole))
    (and_then_given (check (tuples_pass Within names ds) (OutOfRangeAt Composite (failing_place (is_within_limits names) ds))) _ tt _ (check_given _ _ (passes Within))
    (and_then_given (tuples_from names 0 ds) _ tuples _ (list_answers instants names 0 ds tuples h)
    (and_then_given (check falls (NotMonotonic Composite)) _ tt _ (check_given falls _ (never_falls_given (map (coordinate T) tuples) in_time)) refl))))
