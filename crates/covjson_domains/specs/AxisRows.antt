-- The checks of an axis in their order (docs/PROFILE.md, "CoverageJSON as read"), and the answer that they lead to.
use Rattle.std.specs.Prelude.{◌≡◌, ◌⊎◌, ℕ, ◌<◌, ℤ, pos, ◌-ℤ◌, ◌*ℤ◌, ◌≤ℤ◌, unsigned_abs, List, length, reverse, codes, ⊤, Option, None, Some, Result}
use Rattle.serde_json.specs.Data.{Data, number, array, Items, Num}
use Rattle.serde_json.specs.Find.{get}
use Rattle.edr_base.specs.FirstThatApplies.{Check, Find, Then, Gives, With}
use Rattle.edr_base.specs.Limits.{node_limit, IsCoordinate}
use Rattle.edr_axes.specs.Axes.{IsAscending}
use Rattle.edr_json.specs.Trees.{count_items, EachStands, StandsForWhole, IsObject, IsText, IsNumber}
use Rattle.covjson_value.specs.declared.domains.CoordinateName.{CoordinateName}
use Rattle.covjson_value.specs.declared.domains.CoordinateName.TheVariants.{T, Z, Y, X}
use Rattle.covjson_checks.specs.declared.faults.Member.{Member}
use Rattle.covjson_checks.specs.declared.faults.Member.TheVariants.{T as TimeAxis}
use Rattle.covjson_checks.specs.declared.faults.CovFault.{CovFault}
use Rattle.covjson_checks.specs.declared.faults.CovFault.TheVariants.{WrongType, NotWhole, OutOfRange, OutOfRangeAt, BadTime, NotMonotonic, WrongCount}
use Rattle.covjson_checks.specs.Places.{EachItem, HasValue, CheckEach}
use Rattle.covjson_domains.specs.declared.domain_types.Presence.{Presence}
use Rattle.covjson_domains.specs.DomainTypes.{member_of, IsSingle}
use Rattle.covjson_domains.specs.Axes.{StandsForTime, HasWhole, IsRegular}

-- ---- listed values

-- the items of the member `values`, of which there are some
pub record HasItems (axis : Data) (items : Items) : Type 0 where
  pub list : get (codes "values") axis ≡ Some (array items)
  pub some : 0 < count_items items

-- a text that is an instant
abbrev pub IsTimeText : Data → Type 0
IsTimeText d = (time : ℤ) × StandsForTime d time

-- times: a list of texts that isn't empty, each of which is an instant
abbrev pub TimeRows : Data → Result (List ℤ) CovFault → Type 0
TimeRows axis =
    Check (IsObject axis) (WrongType TimeAxis) (
    Find (HasItems axis) (WrongType TimeAxis) (λ items.
    Check (EachItem IsText items) (WrongType TimeAxis) (
    CheckEach IsTimeText BadTime items (
    With (EachStands StandsForTime items) Gives))))

-- numbers: a list that isn't empty, each of which is whole and within the limit; the first that isn't within it has the place of the fault
abbrev pub ListRows : Member → Data → Result (List ℤ) CovFault → Type 0
ListRows m axis =
    Find (HasItems axis) (WrongType m) (λ items.
    Check (EachItem IsNumber items) (WrongType m) (
    Find (EachStands StandsForWhole items) (NotWhole m) (λ values.
    CheckEach (HasValue StandsForWhole IsCoordinate) (OutOfRangeAt m) items (
    Gives values))))

-- ---- spanned values

-- a member that is a number
abbrev pub HasNumber : List ℕ → Data → Num → Type 0
HasNumber key axis n = get key axis ≡ Some (number n)

-- so many values lie in equal whole steps from the first to the last, and one value is both; of less than one value nothing is said
abbrev pub HasWholeSteps : ℤ → ℤ → ℤ → Type 0
HasWholeSteps first last count = pos 1 ≤ℤ count → (step : ℤ) × (step *ℤ (count -ℤ pos 1) ≡ last -ℤ first)

-- the first and the last value are coordinates, and there are neither too few values nor too many
pub record IsSpan (first last count : ℤ) : Type 0 where
  pub first_in : IsCoordinate first
  pub last_in : IsCoordinate last
  pub some : pos 1 ≤ℤ count
  pub few : count ≤ℤ pos node_limit

-- numbers by the first, the last, and how many there are
abbrev pub SpanRows : Member → Data → Result (List ℤ) CovFault → Type 0
SpanRows m axis =
    Find (HasNumber (codes "start") axis) (WrongType m) (λ _.
    Find (HasNumber (codes "stop") axis) (WrongType m) (λ _.
    Find (HasNumber (codes "num") axis) (WrongType m) (λ _.
    Find (HasWhole (codes "start") axis) (NotWhole m) (λ first.
    Find (HasWhole (codes "stop") axis) (NotWhole m) (λ last.
    Find (HasWhole (codes "num") axis) (NotWhole m) (λ count.
    Check (HasWholeSteps first last count) (NotWhole m) (
    Check (IsSpan first last count) (OutOfRange m) (
    With (IsRegular first last (unsigned_abs count)) Gives))))))))

-- ---- an axis

-- listed where `values` is there, else spanned
abbrev pub ListedRows : Member → Data → Option Data → Result (List ℤ) CovFault → Type 0
ListedRows m axis (Some list) = ListRows m axis
ListedRows m axis None = SpanRows m axis

abbrev pub NumberRows : Member → Data → Result (List ℤ) CovFault → Type 0
NumberRows m axis =
    Check (IsObject axis) (WrongType m) (
    ListedRows m axis (get (codes "values") axis))

-- the values of an axis as the tree has them
abbrev pub ValueRows : CoordinateName → Data → Result (List ℤ) CovFault → Type 0
ValueRows T axis = TimeRows axis
ValueRows Z axis = NumberRows (member_of Z) axis
ValueRows Y axis = NumberRows (member_of Y) axis
ValueRows X axis = NumberRows (member_of X) axis

-- the values ascend, or descend: they ascend from the last to the first
abbrev pub IsMonotonic : List ℤ → Type 0
IsMonotonic values = IsAscending values ⊎ IsAscending (reverse values)

-- an axis, as a domain type wants it
abbrev pub AxisRows : Presence → CoordinateName → Data → Result ⊤ CovFault → Type 0
AxisRows wanted name axis =
    Then (ValueRows name axis) (λ values.
    Check (IsMonotonic values) (NotMonotonic (member_of name)) (
    Check (IsSingle wanted → length values ≡ 1) (WrongCount (member_of name) 1 (length values)) (
    Gives tt)))
