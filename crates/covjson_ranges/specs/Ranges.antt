-- The ranges of a tree (OGC 21-069r2, NdArray objects), and what they stand for.
use Rattle.std.specs.Prelude.{◌≡◌, ℕ, ◌-◌, ◌<◌, ◌≤◌, ℤ, Bool, true, false, bytes_eq, is_some, ◌||◌, if◌then◌else◌, List, [], ◌∷◌, length, map, All, codes, ⊤, Option, Some, None}
use Rattle.std.specs.List.{slice_index_or}
use Rattle.serde_json.specs.Data.{Data, null, string, array, Items}
use Rattle.serde_json.specs.Find.{get}
use Rattle.edr_chunk.specs.RowMajor.{row_major}
use Rattle.edr_json.specs.Trees.{whole_of, natural_of, count_items, EachStands}
use Rattle.covjson_value.specs.declared.domains.CoordinateName.TheVariants.{T as Times, Z as Levels, Y as Rows, X as Columns}
use Rattle.covjson_value.specs.declared.domains.Domain.{Domain}
use Rattle.covjson_value.specs.declared.coverages.NdArray.{NdArray}
use Rattle.covjson_value.specs.declared.axis_names.AxisName.{AxisName}
use Rattle.covjson_value.specs.declared.axis_names.AxisName.TheVariants.{T, Z, Y, X, Composite}
use Rattle.covjson_value.specs.AxisNames.{axis_key}
use Rattle.edr_base.specs.Limits.{AreSamples}
use Rattle.covjson_value.specs.Domains.{axis_of, tuples_of, has_axis, count_of}
use Rattle.edr_axes.specs.Axes.{axis_length}
use Rattle.covjson_checks.specs.declared.turned.Turned.{Turned}
use Rattle.covjson_ranges.specs.declared.places.Places.{Places}

-- a sample: a number that is held whole, or null where it is absent
abbrev pub StandsForSample : Data → Option ℤ → Type 0
StandsForSample d None = d ≡ null
StandsForSample d (Some value) = whole_of d ≡ Some value

-- the name of an axis
abbrev pub StandsForName : Data → AxisName → Type 0
StandsForName d name = d ≡ string (axis_key name)

-- a whole number from 0
abbrev pub StandsForLength : Data → ℕ → Type 0
StandsForLength d n = natural_of d ≡ Some n

-- a list whose items stand for these values
abbrev pub Lists : {V : Type 0} → (Data → V → Type 0) → Data → List V → Type 0
Lists Stands d values = (items : Items) × (d ≡ array items) × EachStands Stands items values

-- an object of the type NdArray
abbrev pub IsNdArray : Data → Type 0
IsNdArray d = get (codes "type") d ≡ Some (string (codes "NdArray"))

-- whose values are whole numbers
abbrev pub HasIntegers : Data → Type 0
HasIntegers d = get (codes "dataType") d ≡ Some (string (codes "integer"))

-- ---- places

-- how many values the axis of a name has, and 1 where the domain hasn't it
abbrev pub length_of : Domain → AxisName → ℕ
length_of domain T = axis_length (axis_of domain Times)
length_of domain Z = axis_length (axis_of domain Levels)
length_of domain Y = axis_length (axis_of domain Rows)
length_of domain X = axis_length (axis_of domain Columns)
length_of domain Composite = axis_length (tuples_of domain)

-- whether the domain has the axis of a name
abbrev pub has_range_axis : Domain → AxisName → Bool
has_range_axis domain T = has_axis domain Times
has_range_axis domain Z = has_axis domain Levels
has_range_axis domain Y = has_axis domain Rows
has_range_axis domain X = has_axis domain Columns
has_range_axis domain Composite = is_some (tuples_of domain)

-- whether the axis of a name is turned; tuples never are
abbrev pub is_range_turned : Turned → AxisName → Bool
is_range_turned turned T = turned.t
is_range_turned turned Z = turned.z
is_range_turned turned Y = turned.y
is_range_turned turned X = turned.x
is_range_turned turned Composite = false

-- the place on the axis of a name
abbrev pub place_on : Places → AxisName → ℕ
place_on places T = places.t
place_on places Z = places.z
place_on places Y = places.y
place_on places X = places.x
place_on places Composite = places.tuple

-- each place is on its axis
abbrev pub AreInside : Domain → Places → Type 0
AreInside domain places = (name : AxisName) → place_on places name < length_of domain name

-- the number of the value at some places of the domain
abbrev pub number_of : Domain → Places → ℕ
number_of domain places = row_major (length_of domain) (place_on places) (T ∷ Z ∷ Y ∷ X ∷ Composite ∷ []) 0

-- the place on an axis as the tree has it: counted from the end where the axis is turned
abbrev pub tree_place : Domain → Turned → Places → AxisName → ℕ
tree_place domain turned places name = if is_range_turned turned name then length_of domain name - 1 - place_on places name else place_on places name

-- the number, among the values of a tree with its axes in that order, of the value at some places of the domain
abbrev pub tree_number : Domain → Turned → List AxisName → Places → ℕ
tree_number domain turned names places = row_major (length_of domain) (tree_place domain turned places) names 0

-- ---- a range

-- the name is one of these
abbrev pub is_named : AxisName → List AxisName → Bool
is_named name [] = false
is_named name (other ∷ names) = bytes_eq (axis_key name) (axis_key other) || is_named name names

-- no name stands twice
abbrev pub AreDistinct : List AxisName → Type 0
AreDistinct [] = ⊤
AreDistinct (name ∷ names) = (is_named name names ≡ false) × AreDistinct names

-- the axes of a range: distinct, each one of the domain's, and among them each of several values
pub record AreRangeAxes (domain : Domain) (names : List AxisName) : Type 0 where
  pub distinct : AreDistinct names
  pub owned : All (λ name. has_range_axis domain name ≡ true) names
  pub all_long : (name : AxisName) → 1 < length_of domain name → is_named name names ≡ true

-- no axis has several values
abbrev pub IsOnePlace : Domain → Type 0
IsOnePlace domain = (name : AxisName) → length_of domain name ≤ 1

-- the list of the axes' names; it may be left out where no axis has several values
abbrev pub NamesStand : Domain → Option Data → List AxisName → Type 0
NamesStand domain None names = (names ≡ []) × IsOnePlace domain
NamesStand domain (Some d) names = Lists StandsForName d names

-- the list of their lengths; it may be left out there too
abbrev pub ShapeStands : Domain → Option Data → List AxisName → Type 0
ShapeStands domain None names = IsOnePlace domain
ShapeStands domain (Some d) names = Lists StandsForLength d (map (length_of domain) names)

-- the value at each place of the domain is the sample that the tree has at that place
pub record AreInOrder (domain : Domain) (turned : Turned) (names : List AxisName) (samples values : List (Option ℤ)) : Type 0 where
  pub counted : length values ≡ count_of domain
  pub each : (places : Places) → AreInside domain places
      → slice_index_or values (number_of domain places) None ≡ slice_index_or samples (tree_number domain turned names places) None

-- a range over a domain: as many values as the domain has places, in the domain's order
pub record StandsForRange (domain : Domain) (turned : Turned) (d : Data) (range : NdArray) : Type 0 where
  pub kind : IsNdArray d
  pub integers : HasIntegers d
  pub names : List AxisName
  pub names_stand : NamesStand domain (get (codes "axisNames") d) names
  pub axes : AreRangeAxes domain names
  pub shape : ShapeStands domain (get (codes "shape") d) names
  pub items : Items
  pub list : get (codes "values") d ≡ Some (array items)
  pub as_many : count_items items ≡ count_of domain
  pub samples : List (Option ℤ)
  pub samples_stand : EachStands StandsForSample items samples
  pub within : AreSamples samples
  pub in_order : AreInOrder domain turned names samples range.values
