-- The axes of a tree: their values, or the first check that fails.
use Rattle.std.specs.Prelude.{◌≡◌, ℕ, zero, suc, ◌-◌, ◌==◌, ℤ, pos, ◌+ℤ◌, ◌-ℤ◌, int_lt, int_le, int_div, int_rem, unsigned_abs, List, [], ◌∷◌, length, reverse, codes, Bool, true, false, not, is_some, ◌&&◌, ◌||◌, if◌then◌else◌, ⊤, Option, Some, None, IsSome, Ok, Err}
use Rattle.serde_json.specs.Data.{Data, Items, no_items, item, Num}
use Rattle.serde_json.specs.Find.{get}
use Rattle.covjson_value.specs.declared.domains.CoordinateName.{CoordinateName}
use Rattle.covjson_value.specs.declared.domains.CoordinateName.TheVariants.{T, Z, Y, X}
use Rattle.edr_base.specs.Limits.{coordinate_limit, node_limit}
use Rattle.covjson_value.specs.AxisNames.{axis_key, axis_name}
use Rattle.covjson_domains.specs.declared.axes.ReadAxis.{ReadAxis}
use Rattle.covjson_domains.specs.declared.domain_types.Presence.{Presence}
use Rattle.covjson_domains.specs.DomainTypes.{member_of}
use Rattle.covjson_domains.specs.TypeAnswers.{is_needed, is_single, left_out}
use Rattle.covjson_checks.specs.declared.faults.Member.{Member}
use Rattle.covjson_checks.specs.declared.faults.Member.TheVariants.{T as TimeAxis, Z as LevelAxis, Y as RowAxis, X as ColumnAxis}
use Rattle.covjson_checks.specs.declared.faults.CovFault.TheVariants.{WrongType, NotWhole, OutOfRange, BadTime, NotMonotonic, WrongCount}
use Rattle.covjson_checks.specs.declared.members.Wanted.TheVariants.{Texts, Numbers, Wholes}
use Rattle.covjson_checks.specs.Answers.{Answer, each_from}
use Rattle.edr_base.specs.FirstThatApplies.{and_then, or_fault, check}
use Rattle.edr_axes.specs.InstantComputed.{instant_of}
use Rattle.covjson_checks.specs.Members.{part, object_at, list_at, text_at, number_at, held_whole, is_within, whole_within, need_each}

-- ---- listed values

-- a list that isn't empty
abbrev pub has_some : Items → Bool
has_some no_items = false
has_some (item d ds) = true

-- the items of the member `values`, of which there are some
abbrev pub value_items : Member → Data → Answer Items
value_items m axis =
    and_then (part (codes "values") m axis) (λ list.
    and_then (list_at m list) (λ ds.
    and_then (check (has_some ds) (WrongType m)) (λ _. Ok ds)))

-- listed numbers
abbrev pub coordinates : Member → Data → Answer (List ℤ)
coordinates m axis =
    and_then (value_items m axis) (λ ds.
    and_then (need_each Numbers (WrongType m) ds) (λ _.
    and_then (need_each Wholes (NotWhole m) ds) (λ _.
    each_from (whole_within m coordinate_limit) 0 ds)))

-- the time of a text at that place
abbrev pub time_at : Member → ℕ → Data → Answer ℤ
time_at m place d = and_then (text_at m d) (λ text. or_fault (instant_of text) (BadTime place))

-- the times of the texts from that place on
abbrev pub times_from : ℕ → Items → Answer (List ℤ)
times_from place no_items = Ok []
times_from place (item d ds) =
    and_then (time_at TimeAxis place d) (λ time.
    and_then (times_from (suc place) ds) (λ times. Ok (time ∷ times)))

-- listed times
abbrev pub axis_times : Data → Answer (List ℤ)
axis_times axis =
    and_then (object_at TimeAxis axis) (λ _.
    and_then (value_items TimeAxis axis) (λ ds.
    and_then (need_each Texts (WrongType TimeAxis) ds) (λ _.
    times_from 0 ds)))

-- ---- spanned values

-- a member that is a number
abbrev pub number_in : List ℕ → Member → Data → Answer Num
number_in name m axis = and_then (part name m axis) (number_at m)

-- so many values lie in equal whole steps from the first to the last; one value is both of them.
-- Of less than one value nothing is said.
abbrev pub has_whole_steps : ℤ → ℤ → ℤ → Bool
has_whole_steps first last count =
    if int_lt count (pos 1) then true
    else if int_le count (pos 1) then unsigned_abs (last -ℤ first) == 0
    else unsigned_abs (int_rem (last -ℤ first) (count -ℤ pos 1)) == 0

-- so many values from the first on, each so far above the one before
abbrev pub stepped : ℤ → ℤ → ℕ → List ℤ
stepped first step zero = []
stepped first step (suc count) = first ∷ stepped (first +ℤ step) step count

-- the values from the first to the last
abbrev pub regular : ℤ → ℤ → ℕ → List ℤ
regular first last count = stepped first (int_div (last -ℤ first) (pos (count - 1))) count

-- the bounds of a span are within their limits, and there are 1 to 4,000,000 values
abbrev pub is_span_within : ℤ → ℤ → ℤ → Bool
is_span_within first last count =
    is_within coordinate_limit first && is_within coordinate_limit last && int_le (pos 1) count && int_le count (pos node_limit)

-- numbers by `start`, `stop` and `num`
abbrev pub spanned : Member → Data → Answer (List ℤ)
spanned m axis =
    and_then (number_in (codes "start") m axis) (λ start.
    and_then (number_in (codes "stop") m axis) (λ stop.
    and_then (number_in (codes "num") m axis) (λ num.
    and_then (held_whole m start) (λ first.
    and_then (held_whole m stop) (λ last.
    and_then (held_whole m num) (λ count.
    and_then (check (has_whole_steps first last count) (NotWhole m)) (λ _.
    and_then (check (is_span_within first last count) (OutOfRange m)) (λ _.
    Ok (regular first last (unsigned_abs count))))))))))

-- ---- an axis

-- numbers: listed where `values` is there, else spanned
abbrev pub axis_numbers : Member → Data → Answer (List ℤ)
axis_numbers m axis =
    and_then (object_at m axis) (λ _.
    if is_some (get (codes "values") axis) then coordinates m axis else spanned m axis)

-- the values as the tree has them
abbrev pub axis_values : CoordinateName → Data → Answer (List ℤ)
axis_values T axis = axis_times axis
axis_values Z axis = axis_numbers LevelAxis axis
axis_values Y axis = axis_numbers RowAxis axis
axis_values X axis = axis_numbers ColumnAxis axis

-- each value is above the one before
abbrev pub is_below_first : ℤ → List ℤ → Bool
is_below_first value [] = true
is_below_first value (next ∷ values) = int_lt value next

abbrev pub ascends : List ℤ → Bool
ascends [] = true
ascends (value ∷ values) = is_below_first value values && ascends values

-- ascending values as they stand, descending ones turned round
abbrev pub in_direction : Member → List ℤ → Answer ReadAxis
in_direction m values =
    if ascends values then Ok (record { axis = values; turned = false })
    else if ascends (reverse values) then Ok (record { axis = reverse values; turned = true })
    else Err (NotMonotonic m)

abbrev pub axis_read : CoordinateName → Data → Answer ReadAxis
axis_read name axis = and_then (axis_values name axis) (in_direction (member_of name))

-- as many values as the axis of its domain type has
abbrev pub need_count : Presence → CoordinateName → ReadAxis → Answer ⊤
need_count wanted name read = check (not (is_single wanted) || length read.axis == 1) (WrongCount (member_of name) 1 (length read.axis))

-- what is read of an axis by what its domain type wants of it
abbrev pub axis_if : Presence → CoordinateName → Option Data → Answer (Option ReadAxis)
axis_if wanted name None = and_then (left_out wanted (member_of name)) (λ _. Ok None)
axis_if wanted name (Some axis) =
    and_then (axis_read name axis) (λ read.
    and_then (need_count wanted name read) (λ _. Ok (Some read)))

-- the axis of a name among the axes
abbrev pub axis_by : Presence → CoordinateName → Data → Answer (Option ReadAxis)
axis_by wanted name axes = axis_if wanted name (get (axis_key (axis_name name)) axes)

-- what has to be there is
abbrev pub IfNeeded : {V : Type 0} → Presence → Option V → Type 0
IfNeeded wanted found = is_needed wanted ≡ true → IsSome found
