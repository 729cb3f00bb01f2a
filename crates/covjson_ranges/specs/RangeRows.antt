-- The checks of a range in their order (docs/PROFILE.md, "CoverageJSON as read"), and the answer that they lead to.
use Rattle.std.specs.Prelude.{◌≡◌, ◌≢◌, ◌⊎◌, ℕ, ℤ, List, [], length, slice_get, map, codes, ⊤, Option, Some, None, Result, Err}
use Rattle.serde_json.specs.Data.{Data, null, number, array, object, Num}
use Rattle.serde_json.specs.Find.{get}
use Rattle.edr_base.specs.FirstThatApplies.{IsFirstPlace, Check, Find, With, Then, Gives}
use Rattle.edr_base.specs.Limits.{HasSample}
use Rattle.edr_json.specs.Trees.{text_or_empty, count_items, EachStands}
use Rattle.covjson_value.specs.declared.domains.Domain.{Domain}
use Rattle.covjson_value.specs.declared.coverages.NdArray.{NdArray}
use Rattle.covjson_value.specs.declared.axis_names.AxisName.{AxisName}
use Rattle.covjson_value.specs.Domains.{count_of}
use Rattle.covjson_checks.specs.declared.faults.CovFault.{CovFault}
use Rattle.covjson_checks.specs.declared.faults.CovFault.TheVariants.{Missing, WrongType, UnsupportedRange, NotWhole, OutOfRangeAt, WrongCount}
use Rattle.covjson_checks.specs.declared.faults.Member.TheVariants.{Ranges, DataType, AxisNames, Shape, Values}
use Rattle.covjson_checks.specs.declared.turned.ReadDomain.{ReadDomain}
use Rattle.covjson_checks.specs.Places.{HasValue, CheckEach}
use Rattle.covjson_ranges.specs.Ranges.{StandsForSample, StandsForLength, Lists, IsNdArray, HasIntegers, length_of, AreRangeAxes, IsOnePlace, NamesStand, AreInOrder}

-- it is an object of the type NdArray
abbrev pub KindRows : Data → Result ⊤ CovFault → Type 0
KindRows d =
    Find (λ members. d ≡ object members) (WrongType Ranges) (λ _. Check (IsNdArray d) (UnsupportedRange (text_or_empty (get (codes "type") d))) (Gives tt))

-- its dataType is integer
abbrev pub DataTypeRows : Data → Result ⊤ CovFault → Type 0
DataTypeRows d =
    Find (λ kind. get (codes "dataType") d ≡ Some kind) (Missing DataType) (λ kind. Check (HasIntegers d) (UnsupportedRange (text_or_empty (Some kind))) (Gives tt))

-- axisNames is a list of distinct axes of the domain that has each axis of several values
abbrev pub NamesRows : Domain → Option Data → Result (List AxisName) CovFault → Type 0
NamesRows domain None = Check (IsOnePlace domain) (Missing AxisNames) (Gives [])
NamesRows domain (Some d) = Find (λ names. NamesStand domain (Some d) names × AreRangeAxes domain names) (WrongType AxisNames) Gives

-- at the first place where the lists differ one number is wanted and another is found
pub record DifferFirst (lengths found : List ℕ) (wanted other : ℕ) : Type 0 where
  pub place : ℕ
  pub wanted_here : slice_get lengths place ≡ Some wanted
  pub found_here : slice_get found place ≡ Some other
  pub first : IsFirstPlace (λ at. slice_get lengths at ≢ slice_get found at) place

-- each number is the wanted one, or the first that differs is the fault
abbrev pub LengthsRow : List ℕ → List ℕ → Result ⊤ CovFault → Type 0
LengthsRow lengths found answer =
    ((found ≡ lengths) × Gives tt answer)
    ⊎ ((wanted : ℕ) × (other : ℕ) × DifferFirst lengths found wanted other × (answer ≡ Err (WrongCount Shape wanted other)))

-- shape has the length of each of these axes, in that order
abbrev pub ShapeRows : Domain → List AxisName → Option Data → Result ⊤ CovFault → Type 0
ShapeRows domain names None = Check (IsOnePlace domain) (Missing Shape) (Gives tt)
ShapeRows domain names (Some d) =
    Find (Lists StandsForLength d) (WrongType Shape) (λ found. Check (length found ≡ length names) (WrongCount Shape (length names) (length found)) (LengthsRow (map (length_of domain) names) found))

-- a number, or null
abbrev pub StandsForNumber : Data → Option Num → Type 0
StandsForNumber d None = d ≡ null
StandsForNumber d (Some n) = d ≡ number n

-- values has so many items, each null or a whole number within the limit of samples; the first that isn't within it has the place of the fault
abbrev pub ValuesRows : ℕ → Option Data → Result (List (Option ℤ)) CovFault → Type 0
ValuesRows wanted values =
    Find (λ list. values ≡ Some list) (Missing Values) (λ list. Find (λ items. list ≡ array items) (WrongType Values) (λ items. Check (count_items items ≡ wanted) (WrongCount Values wanted (count_items items)) (Find (EachStands StandsForNumber items) (WrongType Values) (λ _. Find (EachStands StandsForSample items) (NotWhole Values) (λ samples. CheckEach (HasValue StandsForSample HasSample) (OutOfRangeAt Values) items (Gives samples))))))

-- the range with these samples in the domain's order
abbrev pub GivesInOrder : ReadDomain → List AxisName → List (Option ℤ) → Result NdArray CovFault → Type 0
GivesInOrder read names samples = With (λ (range : NdArray). AreInOrder read.domain read.turned names samples range.values) Gives

-- the range of a tree over a domain, or the fault of the first check that isn't passed
abbrev pub RangeRows : ReadDomain → Data → Result NdArray CovFault → Type 0
RangeRows read d =
    Then (KindRows d) (λ _.
    Then (DataTypeRows d) (λ _.
    Then (NamesRows read.domain (get (codes "axisNames") d)) (λ names.
    Then (ShapeRows read.domain names (get (codes "shape") d)) (λ _.
    Then (ValuesRows (count_of read.domain) (get (codes "values") d)) (λ samples.
    GivesInOrder read names samples)))))
