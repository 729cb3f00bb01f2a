-- The composite axis of a tree: its tuples, or the first check that fails.
use Rattle.std.specs.Prelude.{ℕ, suc, ℤ, pos, int_le, List, [], ◌∷◌, map, bytes_eq, codes, Bool, true, false, is_some, ◌&&◌, if◌then◌else◌, Option, Some, None, option_and_then, Ok}
use Rattle.serde_json.specs.Data.{Data, Items, no_items, item}
use Rattle.serde_json.specs.Find.{get, as_array, as_number, as_str}
use Rattle.edr_base.specs.declared.places.Position.{Position}
use Rattle.covjson_value.specs.declared.domains.CoordinateName.{CoordinateName}
use Rattle.covjson_value.specs.declared.domains.CoordinateName.TheVariants.{T, Z, Y, X}
use Rattle.edr_base.specs.Limits.{coordinate_limit}
use Rattle.covjson_value.specs.Domains.{coordinate_key, coordinate, place_coordinates, step_coordinates}
use Rattle.covjson_domains.specs.declared.tuples.TupleKind.{TupleKind}
use Rattle.covjson_domains.specs.declared.tuples.TupleKind.TheVariants.{Places, Steps, LevelSteps}
use Rattle.covjson_domains.specs.declared.tuples.ReadTuples.{ReadTuples}
use Rattle.covjson_domains.specs.declared.tuples.Test.{Test}
use Rattle.covjson_domains.specs.declared.tuples.Test.TheVariants.{Form, Whole, Within}
use Rattle.covjson_checks.specs.declared.faults.Member.TheVariants.{Composite}
use Rattle.covjson_checks.specs.declared.faults.CovFault.TheVariants.{WrongType, NotWhole, OutOfRangeAt, NotMonotonic}
use Rattle.covjson_checks.specs.Answers.{Answer}
use Rattle.edr_base.specs.FirstThatApplies.{and_then, or_fault, check}
use Rattle.covjson_checks.specs.Members.{part, object_at, list_at, is_within}
use Rattle.covjson_checks.specs.Places.{failing_place}
use Rattle.edr_json.specs.Trees.{text_or_empty, whole_of}
use Rattle.edr_json.specs.Trees.{is_text}
use Rattle.covjson_domains.specs.AxisAnswers.{value_items, time_at}

-- ---- coordinates

-- the coordinates of tuples of a kind, with and without levels of their own
abbrev pub names_of : TupleKind → Bool → List CoordinateName
names_of Places has_z = place_coordinates has_z
names_of Steps has_z = step_coordinates has_z
names_of LevelSteps has_z = step_coordinates has_z

-- whether tuples of a kind may have levels of their own: steps at one level have none
abbrev pub may_have_z : TupleKind → Bool
may_have_z Places = true
may_have_z Steps = true
may_have_z LevelSteps = false

-- the items are the names of these coordinates, in this order
abbrev pub are_keys : List CoordinateName → Items → Bool
are_keys [] no_items = true
are_keys [] (item d ds) = false
are_keys (name ∷ names) no_items = false
are_keys (name ∷ names) (item d ds) = is_text (coordinate_key name) (as_str d) && are_keys names ds

-- whether the tuples have levels of their own, by the names of their coordinates; None where these are no names that they may have
abbrev pub has_z_by_keys : TupleKind → Items → Option Bool
has_z_by_keys kind keys =
    if are_keys (names_of kind false) keys then Some false
    else if may_have_z kind && are_keys (names_of kind true) keys then Some true
    else None

-- ---- tests of tuples

abbrev pub is_whole_within : Option ℤ → Bool
is_whole_within None = false
is_whole_within (Some value) = is_within coordinate_limit value

-- a number has the form of a number, is held whole, or is within the limit of coordinates
abbrev pub number_passes : Test → Data → Bool
number_passes Form d = is_some (as_number d)
number_passes Whole d = is_some (whole_of d)
number_passes Within d = is_whole_within (whole_of d)

-- a time has the form of a text
abbrev pub time_passes : Test → Data → Bool
time_passes Form d = is_some (as_str d)
time_passes Whole d = true
time_passes Within d = true

abbrev pub passes : Test → CoordinateName → Data → Bool
passes test T d = time_passes test d
passes test Z d = number_passes test d
passes test Y d = number_passes test d
passes test X d = number_passes test d

-- each value passes the test of its coordinate, and there are as many as coordinates
abbrev pub all_pass : Test → List CoordinateName → Items → Bool
all_pass test [] no_items = true
all_pass test [] (item d ds) = false
all_pass test (name ∷ names) no_items = false
all_pass test (name ∷ names) (item d ds) = passes test name d && all_pass test names ds

abbrev pub list_passes : Test → List CoordinateName → Option Items → Bool
list_passes test names None = false
list_passes test names (Some ds) = all_pass test names ds

-- each tuple is a list whose values do
abbrev pub tuples_pass : Test → List CoordinateName → Items → Bool
tuples_pass test names no_items = true
tuples_pass test names (item d ds) = list_passes test names (as_array d) && tuples_pass test names ds

-- whether a tuple is within the limits
abbrev pub is_within_limits : List CoordinateName → Data → Bool
is_within_limits names d = list_passes Within names (as_array d)

-- ---- tuples

-- the value of a coordinate of that name, where there is one
abbrev pub value_of : CoordinateName → List CoordinateName → Items → Option Data
value_of name [] ds = None
value_of name (other ∷ names) no_items = None
value_of name (other ∷ names) (item d ds) = if bytes_eq (coordinate_key name) (coordinate_key other) then Some d else value_of name names ds

-- a whole number, and 0 where there is none
abbrev pub whole_or_zero : Option ℤ → ℤ
whole_or_zero None = pos 0
whole_or_zero (Some value) = value

abbrev pub number_of : CoordinateName → List CoordinateName → Items → ℤ
number_of name names ds = whole_or_zero (option_and_then whole_of (value_of name names ds))

-- the time of a tuple at that place, and 0 where it has none
abbrev pub time_if : ℕ → Option Data → Answer ℤ
time_if place None = Ok (pos 0)
time_if place (Some d) = time_at Composite place d

abbrev pub tuple_at : List CoordinateName → ℕ → Data → Answer Position
tuple_at names place d =
    and_then (list_at Composite d) (λ ds.
    and_then (time_if place (value_of T names ds)) (λ time.
    Ok (record { x = number_of X names ds; y = number_of Y names ds; z = number_of Z names ds; m = time })))

-- the tuples from that place on
abbrev pub tuples_from : List CoordinateName → ℕ → Items → Answer (List Position)
tuples_from names place no_items = Ok []
tuples_from names place (item d ds) =
    and_then (tuple_at names place d) (λ tuple.
    and_then (tuples_from names (suc place) ds) (λ tuples. Ok (tuple ∷ tuples)))

-- no value is below the one before
abbrev pub is_at_most_first : ℤ → List ℤ → Bool
is_at_most_first value [] = true
is_at_most_first value (next ∷ values) = int_le value next

abbrev pub never_falls : List ℤ → Bool
never_falls [] = true
never_falls (value ∷ values) = is_at_most_first value values && never_falls values

-- the tuples of these coordinates: their form, whole numbers, limits, times, and their order
abbrev pub tuples_of_items : List CoordinateName → Items → Answer (List Position)
tuples_of_items names ds =
    and_then (check (tuples_pass Form names ds) (WrongType Composite)) (λ _.
    and_then (check (tuples_pass Whole names ds) (NotWhole Composite)) (λ _.
    and_then (check (tuples_pass Within names ds) (OutOfRangeAt Composite (failing_place (is_within_limits names) ds))) (λ _.
    and_then (tuples_from names 0 ds) (λ tuples.
    and_then (check (never_falls (map (coordinate T) tuples)) (NotMonotonic Composite)) (λ _. Ok tuples)))))

-- whether the tuples of an axis have levels of their own
abbrev pub axis_has_z : TupleKind → Data → Answer Bool
axis_has_z kind axis =
    and_then (object_at Composite axis) (λ _.
    and_then (check (bytes_eq (text_or_empty (get (codes "dataType") axis)) (codes "tuple")) (WrongType Composite)) (λ _.
    and_then (part (codes "coordinates") Composite axis) (λ list.
    and_then (list_at Composite list) (λ keys.
    or_fault (has_z_by_keys kind keys) (WrongType Composite)))))

-- the tuples of a composite axis
abbrev pub tuples_read : TupleKind → Data → Answer ReadTuples
tuples_read kind axis =
    and_then (axis_has_z kind axis) (λ has_z.
    and_then (value_items Composite axis) (λ ds.
    and_then (tuples_of_items (names_of kind has_z) ds) (λ tuples.
    Ok (record { tuples = tuples; has_z = has_z }))))
