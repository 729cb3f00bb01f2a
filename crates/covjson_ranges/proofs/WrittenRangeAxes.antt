-- The axes of the ranges that are written of a domain.
use Rattle.std.proofs.Common.{◌≡◌, ℕ, ◌==◌, ◌<◌, ◌||◌, ℤ, Bool, true, false, not, true≢false, if◌then◌else◌, is_some, List, [], ◌∷◌, length, map, Option, Some, None, refl, sym, ap, ap₂, ◌∙◌, arith}
use Rattle.std.proofs.lemmas.Bool.Decides.{nat_tests}
use Rattle.edr_base.specs.declared.places.Position.{Position}
use Rattle.covjson_value.specs.declared.domains.CoordinateName.{CoordinateName}
use Rattle.covjson_value.specs.declared.domains.CoordinateName.TheVariants.{T as Times, Z as Levels, Y as Rows, X as Columns}
use Rattle.covjson_value.specs.declared.domains.Domain.{Domain}
use Rattle.covjson_value.specs.Domains.{AxisLength, axis_of, tuples_of, axis_before, composite_alone, is_grid, long_axis, range_axis_of, range_tuples_of, range_axes}
use Rattle.edr_axes.specs.Axes.{axis_length}
use Rattle.covjson_value.specs.declared.axis_names.AxisName.{AxisName}
use Rattle.covjson_value.specs.declared.axis_names.AxisName.TheVariants.{T, Z, Y, X, Composite}
use Rattle.covjson_ranges.specs.declared.places.Places.{Places}
use Rattle.covjson_value.specs.AxisNames.{axis_key, axis_name}
use Rattle.covjson_ranges.specs.Ranges.{length_of, has_range_axis, AreRangeAxes, AreInside, number_of, tree_number}
use Rattle.covjson_ranges.specs.Orders.{IsUnturned}
use Rattle.covjson_checks.specs.Turns.{unturned}
use Rattle.covjson_ranges.proofs.KeptAxes.{keep, kept, kept_distinct, kept_all, kept_named, kept_number_of}

-- ---- the axes that are written

-- whether the axis of a name is one of the domain's ranges
abbrev pub is_written : Domain → AxisName → Bool
is_written domain T = is_some (range_axis_of domain Times)
is_written domain Z = is_some (range_axis_of domain Levels)
is_written domain Y = is_some (range_axis_of domain Rows)
is_written domain X = is_some (range_axis_of domain Columns)
is_written domain Composite = is_some (range_tuples_of domain)

-- their names
abbrev pub written_names : Domain → List AxisName
written_names domain = kept (is_written domain)

-- the axis of a name with its length
abbrev pub written_axis : Domain → AxisName → AxisLength
written_axis domain name = record { key = axis_key name; count = length_of domain name }

-- axes of one name, of the same length, before the same others
same_axis : (key : List ℕ) (m n : ℕ) (axes others : List AxisLength) → m ≡ n → axes ≡ others → record { key = key; count = m } ∷ axes ≡ record { key = key; count = n } ∷ others
same_axis key m n axes others count rest =
    let make : ℕ → List AxisLength → List AxisLength = λ count rest. record { key = key; count = count } ∷ rest in
    ap₂ make count rest

-- axes that are written by these names
abbrev AreWritten : Domain → List AxisLength → List AxisName → Type 0
AreWritten domain axes names = axes ≡ map (written_axis domain) names

-- one axis more, where it is kept
kept_before : (domain : Domain) (key : CoordinateName) (name : AxisName) (b : Bool) (values : List ℤ) (axes : List AxisLength) (names : List AxisName) → axis_key (axis_name key) ≡ axis_key name → length values ≡ length_of domain name
    → AreWritten domain axes names → AreWritten domain (axis_before key (if b then Some values else None) axes) (keep (is_some {T = List ℤ} (if b then Some values else None)) name names)
kept_before domain key name true values axes names same count rest =
    let make : List ℕ → List AxisLength = λ key. record { key = key; count = length values } ∷ axes in
    ap make same ∙ same_axis (axis_key name) (length values) (length_of domain name) axes (map (written_axis domain) names) count rest
kept_before domain key name false values axes names same count rest = rest

-- one axis more, where the domain has it
axis_before_written : (domain : Domain) (key : CoordinateName) (name : AxisName) (each : Bool) (axis : Option (List ℤ)) (axes : List AxisLength) (names : List AxisName) → axis_key (axis_name key) ≡ axis_key name → axis_length axis ≡ length_of domain name
    → AreWritten domain axes names → AreWritten domain (axis_before key (long_axis each axis) axes) (keep (is_some (long_axis each axis)) name names)
axis_before_written domain key name each None axes names same count rest = rest
axis_before_written domain key name each (Some values) axes names same count rest =
    kept_before domain key name (each || not (length values == 1)) values axes names same count rest

-- the axis of tuples, where it is kept
kept_alone : (domain : Domain) (b : Bool) (tuples : List Position) → length tuples ≡ length_of domain Composite
    → AreWritten domain (composite_alone (if b then Some tuples else None)) (keep (is_some {T = List Position} (if b then Some tuples else None)) Composite [])
kept_alone domain true tuples count = same_axis (axis_key Composite) (length tuples) (length_of domain Composite) [] [] count refl
kept_alone domain false tuples count = refl

-- the axis of tuples, where the domain has it
tuples_alone_written : (domain : Domain) (each : Bool) (tuples : Option (List Position)) → axis_length tuples ≡ length_of domain Composite
    → AreWritten domain (composite_alone (long_axis each tuples)) (keep (is_some (long_axis each tuples)) Composite [])
tuples_alone_written domain each None count = refl
tuples_alone_written domain each (Some tuples) count = kept_alone domain (each || not (length tuples == 1)) tuples count

-- the axes of the domain's ranges are those of these names
pub range_axes_are : (domain : Domain) → range_axes domain ≡ map (written_axis domain) (written_names domain)
range_axes_are domain =
    let g = is_grid domain in
    axis_before_written domain Times T g (axis_of domain Times) _ _ refl refl
    (axis_before_written domain Levels Z g (axis_of domain Levels) _ _ refl refl
    (axis_before_written domain Rows Y g (axis_of domain Rows) _ _ refl refl
    (axis_before_written domain Columns X g (axis_of domain Columns) _ _ refl refl
    (tuples_alone_written domain g (tuples_of domain) refl))))

-- ---- which are written

-- what is kept under a test is there where the test passes
kept_some : {V : Type 0} (b : Bool) (values : V) → is_some {T = V} (if b then Some values else None) ≡ b
kept_some true values = refl
kept_some false values = refl

-- what is written is there
some_of_long : {V : Type 0} (each : Bool) (axis : Option (List V)) → is_some (long_axis each axis) ≡ true → is_some axis ≡ true
some_of_long each None h = h
some_of_long each (Some values) h = refl

-- a count that fails the test is 1
one_unless : (each : Bool) (n : ℕ) → (each || not (n == 1)) ≡ false → n ≡ 1
one_unless true n h = absurd (true≢false h)
one_unless false n h = grind (arith, nat_tests)

-- what isn't written has one value
one_of_short : {V : Type 0} (each : Bool) (axis : Option (List V)) → is_some (long_axis each axis) ≡ false → axis_length axis ≡ 1
one_of_short each None h = refl
one_of_short each (Some values) h = one_unless each (length values) (sym (kept_some (each || not (length values == 1)) values) ∙ h)

-- an axis that isn't written has one value
pub unwritten_one : (domain : Domain) (name : AxisName) → is_written domain name ≡ false → length_of domain name ≡ 1
unwritten_one domain T h = one_of_short (is_grid domain) (axis_of domain Times) h
unwritten_one domain Z h = one_of_short (is_grid domain) (axis_of domain Levels) h
unwritten_one domain Y h = one_of_short (is_grid domain) (axis_of domain Rows) h
unwritten_one domain X h = one_of_short (is_grid domain) (axis_of domain Columns) h
unwritten_one domain Composite h = one_of_short (is_grid domain) (tuples_of domain) h

-- an axis that is written is one of the domain
written_owned : (domain : Domain) (name : AxisName) → is_written domain name ≡ true → has_range_axis domain name ≡ true
written_owned domain T h = some_of_long (is_grid domain) (axis_of domain Times) h
written_owned domain Z h = some_of_long (is_grid domain) (axis_of domain Levels) h
written_owned domain Y h = some_of_long (is_grid domain) (axis_of domain Rows) h
written_owned domain X h = some_of_long (is_grid domain) (axis_of domain Columns) h
written_owned domain Composite h = some_of_long (is_grid domain) (tuples_of domain) h

-- what has several values is written
long_by : (b : Bool) (n : ℕ) → (b ≡ false → n ≡ 1) → 1 < n → b ≡ true
long_by true n one long = refl
long_by false n one long = absurd (omega (arith, one refl))

-- the written names are the axes of a range
pub names_written : (domain : Domain) → AreRangeAxes domain (written_names domain)
names_written domain = record {
  distinct = kept_distinct (is_written domain);
  owned = kept_all (λ name. has_range_axis domain name ≡ true) (is_written domain) (written_owned domain);
  all_long = λ name long. kept_named (is_written domain) name (long_by (is_written domain name) (length_of domain name) (unwritten_one domain name) long);
}

-- ---- the places of values

-- no written axis is turned round
never_turned : IsUnturned unturned
never_turned T = refl
never_turned Z = refl
never_turned Y = refl
never_turned X = refl
never_turned Composite = refl

-- the value at some places has the same number in the tree as in the range
pub tree_number_is : (domain : Domain) (places : Places) → AreInside domain places → tree_number domain unturned (written_names domain) places ≡ number_of domain places
tree_number_is domain places inside = kept_number_of domain unturned (is_written domain) places never_turned (unwritten_one domain) inside
