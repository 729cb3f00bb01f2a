-- Rows of a composite axis have the computed answer, and no other.
use Rattle.std.specs.Prelude.{is_some, ⊤, bytes_eq}
use Rattle.std.proofs.Common.{◌≡◌, ◌⊎◌, ℕ, ℤ, pos, List, [], ◌∷◌, map, Bool, true, false, Decides, Option, Some, None, Ok, Err, inl, inr, refl, sym, ap, ◌∙◌, subst, codes}
use Rattle.std.proofs.lemmas.Bool.{false≢true, leb-true, le-leb, and_parts, and_from}
use Rattle.serde_json.specs.Data.{Data, string, array, Items, no_items, item}
use Rattle.serde_json.specs.Find.{get, as_array}
use Rattle.serde_json.specs.View.{items_of}
use Rattle.edr_base.specs.FirstThatApplies.{Check, Find, Gives, and_then, or_fault, check, With}
use Rattle.edr_base.specs.declared.places.Position.{Position}
use Rattle.edr_axes.specs.InstantComputed.{instant_of, InstantsAreRead}
use Rattle.edr_json.specs.Trees.{EachStands, text_or_empty, whole_of}
use Rattle.edr_json.specs.AnswerLaws.{and_then_ok, or_fault_ok, and_then_given, or_fault_given}
use Rattle.edr_json.specs.TreeLaws.{as_array_some}
use Rattle.covjson_value.specs.declared.domains.CoordinateName.{CoordinateName}
use Rattle.covjson_value.specs.declared.domains.CoordinateName.TheVariants.{T, Z, Y, X}
use Rattle.covjson_value.specs.Domains.{coordinate, is_among}
use Rattle.edr_base.specs.Limits.{IsCoordinate}
use Rattle.covjson_value.specs.Coverages.{NeverFall}
use Rattle.covjson_value.specs.Trees.{keys_data}
use Rattle.covjson_checks.specs.declared.faults.Member.TheVariants.{Composite}
use Rattle.covjson_checks.specs.declared.faults.CovFault.{CovFault}
use Rattle.covjson_checks.specs.declared.faults.CovFault.TheVariants.{WrongType, NotWhole, OutOfRangeAt, BadTime, NotMonotonic}
use Rattle.covjson_checks.specs.Answers.{Answer}
use Rattle.covjson_checks.specs.Members.{part, object_at, list_at}
use Rattle.covjson_checks.specs.CheckLaws.{list_ok}
use Rattle.covjson_checks.specs.Places.{EachItem, CheckEach, failing_place}
use Rattle.covjson_checks.specs.PlaceLaws.{each_decides, FirstFailing, first_failing}
use Rattle.covjson_checks.specs.EachRows.{check_each_answers, Found, outcome, each_tested}
use Rattle.covjson_checks.specs.RowLaws.{HaveAnswer, find_within, check_answers, gives_answers, told, FaultIs, option_fault, then_fault}
use Rattle.covjson_domains.specs.declared.tuples.ReadTuples.{ReadTuples}
use Rattle.covjson_domains.specs.declared.tuples.TupleKind.{TupleKind}
use Rattle.covjson_domains.specs.declared.tuples.Test.{Test}
use Rattle.covjson_domains.specs.declared.tuples.Test.TheVariants.{Form, Whole, Within}
use Rattle.covjson_value.specs.declared.domain_types.DomainType.{DomainType}
use Rattle.covjson_value.specs.declared.domain_types.DomainType.TheVariants.{Grid, Point, PointSeries, VerticalProfile, MultiPoint, Trajectory}
use Rattle.covjson_domains.specs.Axes.{StandsForTime}
use Rattle.covjson_domains.specs.Tuples.{EachCoordinate, StandsForTuple}
use Rattle.covjson_domains.specs.AxisRows.{HasItems, IsTimeText}
use Rattle.covjson_domains.specs.TupleRows.{AreCoordinates, HasCoordinates, IsOfForm, IsWhole, IsWithin, IsTimed, EachNamed, IsTupleOf, TupleRows}
use Rattle.covjson_domains.specs.AxisAnswers.{value_items, time_at}
use Rattle.covjson_domains.specs.TupleAnswers.{names_of, may_have_z, has_z_by_keys, is_whole_within, passes, all_pass, list_passes, tuples_pass, is_within_limits, value_of, number_of, time_if, tuple_at, tuples_from, never_falls, tuples_of_items, tuples_read}
use Rattle.covjson_domains.specs.DomainAnswers.{tuple_kind}
use Rattle.covjson_domains.proofs.TupleOrder.{key_data, keys_tell, keys_choose, keys_chosen, never_falls_tells, never_falls_given}
use Rattle.covjson_domains.proofs.TupleNames.{Finds as FindsNames, finds_each}
use Rattle.covjson_domains.proofs.TupleValues.{has_value, no_value}
use Rattle.covjson_domains.proofs.TupleSteps.{tuple_stands, tuple_answers}
use Rattle.covjson_domains.proofs.TupleLaws.{type_tells}
use Rattle.covjson_domains.proofs.AxisRowLaws.{with_answers, each_one, object_answers, items_found, text_decides, number_decides, time_by}

-- ---- the tests of tuples

-- what each test asks
abbrev pub asked : Test → CoordinateName → Data → Type 0
asked Form = IsOfForm
asked Whole = IsWhole
asked Within = IsWithin

-- a whole number
whole_decides : (o : Option ℤ) → Decides (is_some o) ((value : ℤ) × (o ≡ Some value))
whole_decides None = (λ e. absurd (false≢true e), λ h. let e = h.1 in cc)
whole_decides (Some v) = (λ e. (v, refl), λ h. refl)

-- within the limit
within_decides : (o : Option ℤ) → Decides (is_whole_within o) ((value : ℤ) × (o ≡ Some value) × IsCoordinate value)
within_decides None = (λ e. absurd (false≢true e), λ h. let e = h.1 in cc)
within_decides (Some v) = (
  λ e. (v, refl, leb-true _ _ e),
  λ h. let same : v ≡ h.0 = let e = h.1 in cc in ap is_whole_within h.1 ∙ le-leb _ _ h.2,
)

-- each test of a value decides what it asks
passes_decides : (test : Test) (name : CoordinateName) (d : Data) → Decides (passes test name d) (asked test name d)
passes_decides Form T d = text_decides d
passes_decides Form Z d = number_decides d
passes_decides Form Y d = number_decides d
passes_decides Form X d = number_decides d
passes_decides Whole T d = (λ e. tt, λ h. refl)
passes_decides Whole Z d = whole_decides (whole_of d)
passes_decides Whole Y d = whole_decides (whole_of d)
passes_decides Whole X d = whole_decides (whole_of d)
passes_decides Within T d = (λ e. tt, λ h. refl)
passes_decides Within Z d = within_decides (whole_of d)
passes_decides Within Y d = within_decides (whole_of d)
passes_decides Within X d = within_decides (whole_of d)

-- of the values of a tuple
named_decide : (test : Test) (names : List CoordinateName) (ds : Items) → Decides (all_pass test names ds) (EachNamed (asked test) names ds)
named_decide test [] no_items = (λ e. tt, λ h. refl)
named_decide test [] (item d ds) = (λ e. absurd (false≢true e), λ h. absurd h)
named_decide test (name ∷ names) no_items = (λ e. absurd (false≢true e), λ h. absurd h)
named_decide test (name ∷ names) (item d ds) =
    let here = passes_decides test name d in
    let later = named_decide test names ds in (
      λ e. let parts = and_parts (passes test name d) (all_pass test names ds) e in (here.0 parts.0, later.0 parts.1),
      λ h. and_from (passes test name d) (all_pass test names ds) (here.1 h.0) (later.1 h.1),
    )

-- of a tuple
tuple_by : (test : Test) (names : List CoordinateName) (d : Data) (o : Option Items) → as_array d ≡ o → Decides (list_passes test names o) (IsTupleOf (asked test) names d)
tuple_by test names d None is = (λ e. absurd (false≢true e), λ h. let e : ◌≡◌ {A = Option Items} (Some h.0) None = sym (ap as_array h.1) ∙ is in cc)
tuple_by test names d (Some ds) is = (
  λ e. (ds, as_array_some d ds is, (named_decide test names ds).0 e),
  λ h.
      let e : ◌≡◌ {A = Option Items} (Some h.0) (Some ds) = sym (ap as_array h.1) ∙ is in
      let same : h.0 ≡ ds = cc in
      (named_decide test names ds).1 (subst (EachNamed (asked test) names) same h.2),
)

pub tuple_decides : (test : Test) (names : List CoordinateName) (d : Data) → Decides (list_passes test names (as_array d)) (IsTupleOf (asked test) names d)
tuple_decides test names d = tuple_by test names d (as_array d) refl

-- and of all tuples
tuples_decide : (test : Test) (names : List CoordinateName) (ds : Items) → Decides (tuples_pass test names ds) (EachItem (IsTupleOf (asked test) names) ds)
tuples_decide test names ds =
    each_decides (IsTupleOf (asked test) names) (λ d. list_passes test names (as_array d)) (tuples_pass test names) refl (λ d es. refl) (tuple_decides test names) ds

-- and one isn't within the limits where not all are
tuple_beyond : (names : List CoordinateName) (ds : Items) → tuples_pass Within names ds ≡ false → FirstFailing (IsTupleOf IsWithin names) (is_within_limits names) ds
tuple_beyond names ds fails =
    first_failing (IsTupleOf IsWithin names) (is_within_limits names) (tuples_pass Within names) refl (λ d es. refl) (tuple_decides Within names) ds fails

-- ---- the time of a tuple

-- what is read of the value of time that a tuple has
time_read : InstantsAreRead → (place : ℕ) (names : List CoordinateName) (ds : Items) → is_among T names ≡ true → (d : Data) → value_of T names ds ≡ Some d
    → Found BadTime StandsForTime IsTimeText place d (time_at Composite place d)
    → ((time : ℤ) × (time_if place (value_of T names ds) ≡ Ok time)) ⊎ ((¬ (EachNamed IsTimed names ds)) × (time_if place (value_of T names ds) ≡ Err (BadTime place)))
time_read instants place names ds among d found (inl h) = inl (h.0, ap (time_if place) found ∙ h.1)
time_read instants place names ds among d found (inr h) =
    inr (
      λ timed.
          let there = has_value IsTimed T names ds timed among in
          let e : ◌≡◌ {A = Option Data} (Some there.0) (Some d) = sym there.1 ∙ found in
          let same : there.0 ≡ d = cc in
          h.0 (subst IsTimeText same there.2),
      ap (time_if place) found ∙ h.1,
    )

-- or not
time_found : InstantsAreRead → (place : ℕ) (names : List CoordinateName) (ds : Items) → EachNamed IsOfForm names ds → (b : Bool) → is_among T names ≡ b
    → ((time : ℤ) × (time_if place (value_of T names ds) ≡ Ok time)) ⊎ ((¬ (EachNamed IsTimed names ds)) × (time_if place (value_of T names ds) ≡ Err (BadTime place)))
time_found instants place names ds form false apart = inl (pos 0, ap (time_if place) (no_value T names ds apart))
time_found instants place names ds form true among =
    let found = has_value IsOfForm T names ds form among in
    let text = found.2 in
    time_read instants place names ds among found.0 found.1 (time_by instants Composite place found.0 text.0 text.1 (instant_of text.0) refl)

-- ---- one tuple

-- what has been asked of a tuple before its time is
abbrev pub Had : List CoordinateName → Data → Type 0
Had names d = IsTupleOf IsOfForm names d × IsTupleOf IsWithin names d

-- the values of a tuple are timed
coordinates_timed : (names : List CoordinateName) (ds : Items) (tuple : Position) → EachCoordinate names ds tuple → EachNamed IsTimed names ds
coordinates_timed [] no_items tuple h = tt
coordinates_timed [] (item d ds) tuple h = h
coordinates_timed (name ∷ names) no_items tuple h = h
coordinates_timed (T ∷ names) (item d ds) tuple h = ((tuple.m, h.0), coordinates_timed names ds tuple h.1)
coordinates_timed (Z ∷ names) (item d ds) tuple h = (tt, coordinates_timed names ds tuple h.1)
coordinates_timed (Y ∷ names) (item d ds) tuple h = (tt, coordinates_timed names ds tuple h.1)
coordinates_timed (X ∷ names) (item d ds) tuple h = (tt, coordinates_timed names ds tuple h.1)

-- a tuple is read of its values at a time
tuple_of : (names : List CoordinateName) (place : ℕ) (d : Data) (ds : Items) (time : ℤ) → d ≡ array ds → time_if place (value_of T names ds) ≡ Ok time → (tuple : Position) × (tuple_at names place d ≡ Ok tuple)
tuple_of names place d ds time is read =
    let found : Answer ℤ → Answer Position = λ a. and_then a (λ m. Ok (record { x = number_of X names ds; y = number_of Y names ds; z = number_of Z names ds; m = m })) in
    (record { x = number_of X names ds; y = number_of Y names ds; z = number_of Z names ds; m = time }, ap (tuple_at names place) is ∙ ap found read)

-- and it is one, or its time is none
tuple_by_time : InstantsAreRead → (names : List CoordinateName) → FindsNames names → (place : ℕ) (d : Data) (ds : Items) → d ≡ array ds → list_passes Within names (as_array d) ≡ true
    → ((time : ℤ) × (time_if place (value_of T names ds) ≡ Ok time)) ⊎ ((¬ (EachNamed IsTimed names ds)) × (time_if place (value_of T names ds) ≡ Err (BadTime place)))
    → Found BadTime (StandsForTuple names) (IsTupleOf IsTimed names) place d (tuple_at names place d)
tuple_by_time instants names finds place d ds is pass (inl h) =
    let made = tuple_of names place d ds h.0 is h.1 in
    let stands = tuple_stands instants names finds place d made.0 pass made.1 in
    inl (made.0, made.1, stands, (stands.items, stands.list, coordinates_timed names stands.items made.0 stands.each))
tuple_by_time instants names finds place d ds is pass (inr h) =
    let found : Answer ℤ → Answer Position = λ a. and_then a (λ m. Ok (record { x = number_of X names ds; y = number_of Y names ds; z = number_of Z names ds; m = m })) in
    inr (
      (λ timed.
          let arrays : array timed.0 ≡ array ds = sym timed.1 ∙ is in
          let same : timed.0 ≡ ds = cc in
          h.0 (subst (EachNamed IsTimed names) same timed.2)),
      ap (tuple_at names place) is ∙ ap found h.1,
    )

tuple_found : InstantsAreRead → (names : List CoordinateName) → FindsNames names → (place : ℕ) (d : Data) → Had names d
    → Found BadTime (StandsForTuple names) (IsTupleOf IsTimed names) place d (tuple_at names place d)
tuple_found instants names finds place d had =
    let form = had.0 in
    tuple_by_time instants names finds place d form.0 form.1 ((tuple_decides Within names d).1 had.1) (time_found instants place names form.0 form.2 (is_among T names) refl)

-- a datum is one tuple
tuple_one : InstantsAreRead → (names : List CoordinateName) (d : Data) (p q : Position) → StandsForTuple names d p → StandsForTuple names d q → p ≡ q
tuple_one instants names d p q h k =
    let same : ◌≡◌ {A = Answer Position} (Ok p) (Ok q) = sym (tuple_answers instants names 0 d p h) ∙ tuple_answers instants names 0 d q k in
    cc

-- ---- the tuples of a list

-- the rows of tuples
abbrev ItemRows : List CoordinateName → Items → Answer ⊤ → Type 0
ItemRows names items =
    Check (EachItem (IsTupleOf IsOfForm names) items) (WrongType Composite) (
    Check (EachItem (IsTupleOf IsWhole names) items) (NotWhole Composite) (
    CheckEach (IsTupleOf IsWithin names) (OutOfRangeAt Composite) items (
    CheckEach (IsTupleOf IsTimed names) BadTime items (
    With (EachStands (StandsForTuple names) items) (λ tuples.
    Check (NeverFall (map (coordinate T) tuples)) (NotMonotonic Composite) (
    Gives tt))))))

-- those of their times and their order
abbrev TimeRows : List CoordinateName → Items → Answer ⊤ → Type 0
TimeRows names items =
    CheckEach (IsTupleOf IsTimed names) BadTime items (
    With (EachStands (StandsForTuple names) items) (λ tuples.
    Check (NeverFall (map (coordinate T) tuples)) (NotMonotonic Composite) (
    Gives tt)))

-- the test of their order
order_decides : (tuples : List Position) → Decides (never_falls (map (coordinate T) tuples)) (NeverFall (map (coordinate T) tuples))
order_decides tuples = (never_falls_tells (map (coordinate T) tuples), never_falls_given (map (coordinate T) tuples))

time_rows : InstantsAreRead → (names : List CoordinateName) → FindsNames names → (ds : Items) → EachItem (Had names) ds
    → HaveAnswer (TimeRows names ds) (and_then (tuples_from names 0 ds) (λ tuples. and_then (check (never_falls (map (coordinate T) tuples)) (NotMonotonic Composite)) (λ _. Ok tt)))
time_rows instants names finds ds had =
    let Found_tuples = outcome BadTime (tuple_at names) (tuples_from names) (Had names) (IsTupleOf IsTimed names) (StandsForTuple names) (λ place. refl) (λ place d es. refl) (tuple_found instants names finds) 0 ds had in
    check_each_answers BadTime (StandsForTuple names) (IsTupleOf IsTimed names) ds _ (tuples_from names 0 ds) _ Found_tuples (λ tuples stand.
    with_answers (EachStands (StandsForTuple names) ds) _ tuples _ stand (λ other also. each_one (StandsForTuple names) (tuple_one instants names) ds other tuples also stand)
    (check_answers (NeverFall (map (coordinate T) tuples)) (NotMonotonic Composite) (Gives tt) (never_falls (map (coordinate T) tuples)) (λ _. Ok tt) (order_decides tuples) (λ h. gives_answers tt)))

-- tuples that were read
abbrev made : Bool → List Position → ReadTuples
made has_z tuples = record { tuples = tuples; has_z = has_z }

-- one test
kept_by : (has_z : Bool) (tuples : List Position) (b : Bool) → ◌≡◌ {A = Answer ⊤} (and_then (check b (NotMonotonic Composite)) (λ _. Ok tt))
    (told (and_then (and_then (check b (NotMonotonic Composite)) (λ _. Ok tuples)) (λ found. Ok (made has_z found))))
kept_by has_z tuples true = refl
kept_by has_z tuples false = refl

-- only that tuples are in order is kept
kept : (names : List CoordinateName) (has_z : Bool) (answer : Answer (List Position))
    → and_then answer (λ tuples. and_then (check (never_falls (map (coordinate T) tuples)) (NotMonotonic Composite)) (λ _. Ok tt))
    ≡ told (and_then (and_then answer (λ tuples. and_then (check (never_falls (map (coordinate T) tuples)) (NotMonotonic Composite)) (λ _. Ok tuples))) (λ tuples. Ok (made has_z tuples)))
kept names has_z (Ok tuples) = kept_by has_z tuples (never_falls (map (coordinate T) tuples))
kept names has_z (Err f) = refl

-- through each test
steps_kept : (names : List CoordinateName) (has_z : Bool) (ds : Items) (fault : CovFault) (form whole within : Bool)
    → ◌≡◌ {A = Answer ⊤} (and_then (check form (WrongType Composite)) (λ _. and_then (check whole (NotWhole Composite)) (λ _. and_then (check within fault) (λ _.
    and_then (tuples_from names 0 ds) (λ tuples. and_then (check (never_falls (map (coordinate T) tuples)) (NotMonotonic Composite)) (λ _. Ok tt))))))
    (told (and_then (and_then (check form (WrongType Composite)) (λ _. and_then (check whole (NotWhole Composite)) (λ _. and_then (check within fault) (λ _.
    and_then (tuples_from names 0 ds) (λ tuples. and_then (check (never_falls (map (coordinate T) tuples)) (NotMonotonic Composite)) (λ _. Ok tuples)))))) (λ tuples. Ok (made has_z tuples))))
steps_kept names has_z ds fault true true true = kept names has_z (tuples_from names 0 ds)
steps_kept names has_z ds fault true true false = refl
steps_kept names has_z ds fault true false within = refl
steps_kept names has_z ds fault false whole within = refl

-- the tuples of a list, as they are read
item_rows : InstantsAreRead → (names : List CoordinateName) → FindsNames names → (has_z : Bool) (ds : Items)
    → HaveAnswer (ItemRows names ds) (told (and_then (tuples_of_items names ds) (λ tuples. Ok (made has_z tuples))))
item_rows instants names finds has_z ds =
    subst (HaveAnswer (ItemRows names ds)) (steps_kept names has_z ds (OutOfRangeAt Composite (failing_place (is_within_limits names) ds)) (tuples_pass Form names ds) (tuples_pass Whole names ds) (tuples_pass Within names ds))
    (check_answers (EachItem (IsTupleOf IsOfForm names) ds) (WrongType Composite) _ (tuples_pass Form names ds) _ (tuples_decide Form names ds) (λ form.
    check_answers (EachItem (IsTupleOf IsWhole names) ds) (NotWhole Composite) _ (tuples_pass Whole names ds) _ (tuples_decide Whole names ds) (λ whole.
    each_tested (OutOfRangeAt Composite) (IsTupleOf IsWithin names) (is_within_limits names) ds _ (tuples_pass Within names ds) _ (tuples_decide Within names ds) (tuple_beyond names ds) (λ within.
    time_rows instants names finds ds (λ d among. (form d among, within d among))))))

-- ---- the names of coordinates

-- the kind of the tuples of a type beside what is found of an axis of levels
abbrev pub kind_at : DomainType → Option Data → TupleKind
kind_at kind level = tuple_kind kind (is_some level)

-- a type with tuples
abbrev pub HasComposite : DomainType → Type 0
HasComposite Grid = ⊥
HasComposite Point = ⊥
HasComposite PointSeries = ⊥
HasComposite VerticalProfile = ⊥
HasComposite MultiPoint = ⊤
HasComposite Trajectory = ⊤

-- the names of the coordinates of a kind are those of the type
names_are : (kind : DomainType) (level : Option Data) → HasComposite kind → (has_z : Bool) → (has_z ≡ true → may_have_z (kind_at kind level) ≡ true) → AreCoordinates kind level (names_of (kind_at kind level) has_z)
names_are Grid level has has_z may = absurd has
names_are Point level has has_z may = absurd has
names_are PointSeries level has has_z may = absurd has
names_are VerticalProfile level has has_z may = absurd has
names_are MultiPoint level has false may = inl refl
names_are MultiPoint level has true may = inr refl
names_are Trajectory None has false may = inl refl
names_are Trajectory None has true may = inr refl
names_are Trajectory (Some axis) has false may = refl
names_are Trajectory (Some axis) has true may = absurd (false≢true (may refl))

-- tuples of a kind that may have these coordinates
record OfKind (kind : TupleKind) (names : List CoordinateName) : Type 0 where
  has_z : Bool
  may : has_z ≡ true → may_have_z kind ≡ true
  named : names ≡ names_of kind has_z

-- and those of the type are of the kind
of_kind : (kind : DomainType) (level : Option Data) (names : List CoordinateName) → AreCoordinates kind level names → OfKind (kind_at kind level) names
of_kind Grid level names h = absurd h
of_kind Point level names h = absurd h
of_kind PointSeries level names h = absurd h
of_kind VerticalProfile level names h = absurd h
of_kind MultiPoint level names (inl h) = record { has_z = false; may = λ e. refl; named = h }
of_kind MultiPoint level names (inr h) = record { has_z = true; may = λ e. refl; named = h }
of_kind Trajectory None names (inl h) = record { has_z = false; may = λ e. refl; named = h }
of_kind Trajectory None names (inr h) = record { has_z = true; may = λ e. refl; named = h }
of_kind Trajectory (Some axis) names h = record { has_z = false; may = λ e. absurd (false≢true e); named = h }

-- what is read of the member `coordinates`
abbrev names_read : TupleKind → Data → Answer Bool
names_read kind axis = and_then (part (codes "coordinates") Composite axis) (λ list. and_then (list_at Composite list) (λ keys. or_fault (has_z_by_keys kind keys) (WrongType Composite)))

-- it is one of the names that the kind may have
names_tell : (kind : TupleKind) (axis : Data) (has_z : Bool) → names_read kind axis ≡ Ok has_z
    → (get (codes "coordinates") axis ≡ Some (keys_data (names_of kind has_z))) × (has_z ≡ true → may_have_z kind ≡ true)
names_tell kind axis has_z h =
    let l = and_then_ok (part (codes "coordinates") Composite axis) _ has_z h in
    let keys = and_then_ok (list_at Composite l.0) _ has_z l.2 in
    let chosen = keys_choose kind keys.0 has_z (or_fault_ok (has_z_by_keys kind keys.0) _ has_z keys.2) in (
      or_fault_ok (get (codes "coordinates") axis) _ l.0 l.1 ∙ ap Some (list_ok Composite l.0 keys.0 keys.1) ∙ ap (λ (ds : Items). Some (array ds)) (keys_tell (names_of kind has_z) keys.0 chosen.0),
      chosen.1,
    )

-- and names that the kind may have are read
names_given : (kind : TupleKind) (axis : Data) (has_z : Bool) → get (codes "coordinates") axis ≡ Some (keys_data (names_of kind has_z)) → (has_z ≡ true → may_have_z kind ≡ true) → names_read kind axis ≡ Ok has_z
names_given kind axis has_z h may =
    let keys = items_of (map key_data (names_of kind has_z)) in
    and_then_given (part (codes "coordinates") Composite axis) _ (array keys) _ (or_fault_given (get (codes "coordinates") axis) _ (array keys) h)
    (or_fault_given (has_z_by_keys kind keys) _ has_z (keys_chosen kind has_z may))

-- else the form of the axis is wrong
names_fault : (kind : TupleKind) (axis : Data) → FaultIs (WrongType Composite) (names_read kind axis)
names_fault kind axis =
    then_fault (WrongType Composite) (part (codes "coordinates") Composite axis) _ (option_fault (WrongType Composite) (get (codes "coordinates") axis)) (λ list.
    then_fault (WrongType Composite) (list_at Composite list) _ (option_fault (WrongType Composite) (as_array list)) (λ keys.
    option_fault (WrongType Composite) (has_z_by_keys kind keys)))

-- the row of the names, before the rows of tuples of these names
name_row : (kind : DomainType) (level : Option Data) (axis : Data) → HasComposite kind → (Next : List CoordinateName → Answer ⊤ → Type 0) (answer : Answer Bool) (next : Bool → Answer ⊤)
    → answer ≡ names_read (kind_at kind level) axis → ((has_z : Bool) → HaveAnswer (Next (names_of (kind_at kind level) has_z)) (next has_z))
    → HaveAnswer (Find (HasCoordinates kind level axis) (WrongType Composite) Next) (and_then answer next)
name_row kind level axis has Next (Ok has_z) next is rows =
    let of = kind_at kind level in
    let tells = names_tell of axis has_z (sym is) in
    let here : HasCoordinates kind level axis (names_of of has_z) = record { are = names_are kind level has has_z tells.1; named = tells.0 } in
    record {
      follows = inl (names_of of has_z, here, (rows has_z).follows);
      only = λ other h. elim h [
        | inl w ↦
            let kinds = of_kind kind level w.0 w.1.are in
            let there : get (codes "coordinates") axis ≡ Some (keys_data (names_of of kinds.has_z)) = w.1.named ∙ ap (λ names. Some (keys_data names)) kinds.named in
            let same : ◌≡◌ {A = Answer Bool} (Ok kinds.has_z) (Ok has_z) = sym (names_given of axis kinds.has_z there kinds.may) ∙ sym is in
            let one : kinds.has_z ≡ has_z = cc in
            (rows has_z).only other (subst (λ names. Next names other) (kinds.named ∙ ap (names_of of) one) w.2)
        | inr w ↦ absurd (w.0 (names_of of has_z) here)
      ];
    }
name_row kind level axis has Next (Err f) next is rows =
    let of = kind_at kind level in
    let gone : (names : List CoordinateName) → HasCoordinates kind level axis names → ⊥ = λ names h.
    let kinds = of_kind kind level names h.are in
    let there : get (codes "coordinates") axis ≡ Some (keys_data (names_of of kinds.has_z)) = h.named ∙ ap (λ all. Some (keys_data all)) kinds.named in
    let e : ◌≡◌ {A = Answer Bool} (Err f) (Ok kinds.has_z) = is ∙ names_given of axis kinds.has_z there kinds.may in cc in
    let same : f ≡ WrongType Composite = names_fault of axis f (sym is) in
    record {
      follows = inr (gone, ap Err same);
      only = λ other h. elim h [ inl w ↦ absurd (gone w.0 w.1) | inr w ↦ w.1 ∙ ap Err (sym same) ];
    }

-- ---- a composite axis

-- the type of a composite axis
type_decides : (axis : Data) → Decides (bytes_eq (text_or_empty (get (codes "dataType") axis)) (codes "tuple")) (get (codes "dataType") axis ≡ Some (string (codes "tuple")))
type_decides axis = (
  type_tells (get (codes "dataType") axis),
  λ h. ap (λ (d : Option Data). bytes_eq (text_or_empty d) (codes "tuple")) h,
)

-- what is read of an axis whose type is that of tuples
abbrev items_read : TupleKind → Data → Bool → Answer ReadTuples
items_read kind axis has_z = and_then (value_items Composite axis) (λ ds. and_then (tuples_of_items (names_of kind has_z) ds) (λ tuples. Ok (made has_z tuples)))

-- the checks of an axis, one after the other
abbrev in_turn : TupleKind → Data → Answer ⊤
in_turn kind axis =
    and_then (object_at Composite axis) (λ _.
    and_then (check (bytes_eq (text_or_empty (get (codes "dataType") axis)) (codes "tuple")) (WrongType Composite)) (λ _.
    and_then (names_read kind axis) (λ has_z. told (items_read kind axis has_z))))

-- whatever these checks answer
turned_by : {O : Type 0} (o : Answer O) (b : Bool) (names : Answer Bool) (next : Bool → Answer ReadTuples)
    → ◌≡◌ {A = Answer ⊤} (and_then o (λ _. and_then (check b (WrongType Composite)) (λ _. and_then names (λ has_z. told (next has_z)))))
    (told (and_then (and_then o (λ _. and_then (check b (WrongType Composite)) (λ _. names))) next))
turned_by (Ok x) true (Ok has_z) next = refl
turned_by (Ok x) true (Err f) next = refl
turned_by (Ok x) false names next = refl
turned_by (Err f) b names next = refl

-- are those by which it is read
turned_out : (kind : TupleKind) (axis : Data) → in_turn kind axis ≡ told (tuples_read kind axis)
turned_out kind axis =
    turned_by (object_at Composite axis) (bytes_eq (text_or_empty (get (codes "dataType") axis)) (codes "tuple")) (names_read kind axis) (items_read kind axis)

-- an axis of tuples that is found
pub tuple_rows : InstantsAreRead → (kind : DomainType) (level : Option Data) (axis : Data) → HasComposite kind → HaveAnswer (TupleRows kind level axis) (told (tuples_read (kind_at kind level) axis))
tuple_rows instants kind level axis has =
    let of = kind_at kind level in
    subst (HaveAnswer (TupleRows kind level axis)) (turned_out of axis)
    (object_answers Composite axis _ _ (λ is.
    check_answers (get (codes "dataType") axis ≡ Some (string (codes "tuple"))) (WrongType Composite) _ (bytes_eq (text_or_empty (get (codes "dataType") axis)) (codes "tuple")) _ (type_decides axis) (λ typed.
    name_row kind level axis has _ (names_read of axis) _ refl (λ has_z.
    find_within (HasItems axis) (WrongType Composite) _ (value_items Composite axis) _ _ (items_found Composite axis) (λ ds some.
    item_rows instants (names_of of has_z) (finds_each of has_z) has_z ds)))))
