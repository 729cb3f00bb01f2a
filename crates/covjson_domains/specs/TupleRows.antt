-- The checks of a composite axis in their order (docs/PROFILE.md, "CoverageJSON as read"), and the answer that they lead to.
use Rattle.std.specs.Prelude.{◌≡◌, ◌⊎◌, ℤ, List, [], ◌∷◌, map, codes, ⊤, Option, None, Some, Result, true, false}
use Rattle.serde_json.specs.Data.{Data, string, array, Items, no_items, item}
use Rattle.serde_json.specs.Find.{get}
use Rattle.edr_base.specs.FirstThatApplies.{Check, Find, Gives, With}
use Rattle.edr_json.specs.Trees.{EachStands, StandsForWhole, IsObject, IsText, IsNumber}
use Rattle.covjson_value.specs.declared.domains.CoordinateName.{CoordinateName}
use Rattle.covjson_value.specs.declared.domains.CoordinateName.TheVariants.{T, Z, Y, X}
use Rattle.covjson_value.specs.Domains.{coordinate, place_coordinates, step_coordinates}
use Rattle.edr_base.specs.Limits.{IsCoordinate}
use Rattle.covjson_value.specs.Coverages.{NeverFall}
use Rattle.covjson_value.specs.Trees.{keys_data}
use Rattle.covjson_checks.specs.declared.faults.Member.TheVariants.{Composite}
use Rattle.covjson_checks.specs.declared.faults.CovFault.{CovFault}
use Rattle.covjson_checks.specs.declared.faults.CovFault.TheVariants.{WrongType, NotWhole, OutOfRangeAt, BadTime, NotMonotonic}
use Rattle.covjson_checks.specs.Places.{EachItem, CheckEach}
use Rattle.covjson_value.specs.declared.domain_types.DomainType.{DomainType}
use Rattle.covjson_value.specs.declared.domain_types.DomainType.TheVariants.{Grid, Point, PointSeries, VerticalProfile, MultiPoint, Trajectory}
use Rattle.covjson_domains.specs.Tuples.{StandsForTuple}
use Rattle.covjson_domains.specs.AxisRows.{HasItems, IsTimeText}

-- the coordinates of places, and of places at their times; those of a Trajectory have levels only where there is no axis of levels
abbrev pub AreCoordinates : DomainType → Option Data → List CoordinateName → Type 0
AreCoordinates Grid level names = ⊥
AreCoordinates Point level names = ⊥
AreCoordinates PointSeries level names = ⊥
AreCoordinates VerticalProfile level names = ⊥
AreCoordinates MultiPoint level names = (names ≡ place_coordinates false) ⊎ (names ≡ place_coordinates true)
AreCoordinates Trajectory None names = (names ≡ step_coordinates false) ⊎ (names ≡ step_coordinates true)
AreCoordinates Trajectory (Some level) names = names ≡ step_coordinates false

-- the member `coordinates` has the names of these
pub record HasCoordinates (kind : DomainType) (level : Option Data) (axis : Data) (names : List CoordinateName) : Type 0 where
  pub are : AreCoordinates kind level names
  pub named : get (codes "coordinates") axis ≡ Some (keys_data names)

-- ---- what is asked of each value of a tuple

-- a time is a text, and a coordinate is a number
abbrev pub IsOfForm : CoordinateName → Data → Type 0
IsOfForm T d = IsText d
IsOfForm Z d = IsNumber d
IsOfForm Y d = IsNumber d
IsOfForm X d = IsNumber d

-- a coordinate is whole
abbrev pub IsWhole : CoordinateName → Data → Type 0
IsWhole T d = ⊤
IsWhole Z d = (value : ℤ) × StandsForWhole d value
IsWhole Y d = (value : ℤ) × StandsForWhole d value
IsWhole X d = (value : ℤ) × StandsForWhole d value

-- and within its limit
abbrev pub IsWithin : CoordinateName → Data → Type 0
IsWithin T d = ⊤
IsWithin Z d = (value : ℤ) × StandsForWhole d value × IsCoordinate value
IsWithin Y d = (value : ℤ) × StandsForWhole d value × IsCoordinate value
IsWithin X d = (value : ℤ) × StandsForWhole d value × IsCoordinate value

-- a time is an instant
abbrev pub IsTimed : CoordinateName → Data → Type 0
IsTimed T d = IsTimeText d
IsTimed Z d = ⊤
IsTimed Y d = ⊤
IsTimed X d = ⊤

-- each value is so, by the name at its place, and there are as many
abbrev pub EachNamed : (CoordinateName → Data → Type 0) → List CoordinateName → Items → Type 0
EachNamed Is [] no_items = ⊤
EachNamed Is [] (item d ds) = ⊥
EachNamed Is (name ∷ names) no_items = ⊥
EachNamed Is (name ∷ names) (item d ds) = Is name d × EachNamed Is names ds

-- a list whose values are so
abbrev pub IsTupleOf : (CoordinateName → Data → Type 0) → List CoordinateName → Data → Type 0
IsTupleOf Is names d = (items : Items) × (d ≡ array items) × EachNamed Is names items

-- ---- a composite axis

-- a composite axis of a domain type, beside the axis of levels, where there is one; the first tuple that has a coordinate beyond its limit
-- has the place of the fault
abbrev pub TupleRows : DomainType → Option Data → Data → Result ⊤ CovFault → Type 0
TupleRows kind level axis =
    Check (IsObject axis) (WrongType Composite) (
    Check (get (codes "dataType") axis ≡ Some (string (codes "tuple"))) (WrongType Composite) (
    Find (HasCoordinates kind level axis) (WrongType Composite) (λ names.
    Find (HasItems axis) (WrongType Composite) (λ items.
    Check (EachItem (IsTupleOf IsOfForm names) items) (WrongType Composite) (
    Check (EachItem (IsTupleOf IsWhole names) items) (NotWhole Composite) (
    CheckEach (IsTupleOf IsWithin names) (OutOfRangeAt Composite) items (
    CheckEach (IsTupleOf IsTimed names) BadTime items (
    With (EachStands (StandsForTuple names) items) (λ tuples.
    Check (NeverFall (map (coordinate T) tuples)) (NotMonotonic Composite) (
    Gives tt))))))))))
