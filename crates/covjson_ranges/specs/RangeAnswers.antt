-- The range of a tree: its values, or the first check that fails.
use Rattle.std.specs.Prelude.{ℕ, ◌==◌, nat_le, ℤ, List, [], ◌∷◌, length, map, bytes_eq, codes, Bool, true, not, ◌||◌, ◌&&◌, ⊤, Option, Some, None, option_and_then, Ok}
use Rattle.serde_json.specs.Data.{Data, Items, no_items, item}
use Rattle.serde_json.specs.Find.{get, as_str}
use Rattle.covjson_value.specs.declared.domains.Domain.{Domain}
use Rattle.covjson_value.specs.declared.coverages.NdArray.{NdArray}
use Rattle.edr_base.specs.Limits.{sample_limit}
use Rattle.covjson_value.specs.Domains.{count_of}
use Rattle.covjson_value.specs.declared.axis_names.AxisName.{AxisName}
use Rattle.covjson_value.specs.declared.axis_names.AxisName.TheVariants.{T, Z, Y, X, Composite}
use Rattle.covjson_checks.specs.declared.turned.ReadDomain.{ReadDomain}
use Rattle.covjson_checks.specs.declared.faults.Member.TheVariants.{Ranges, DataType, AxisNames, Shape, Values}
use Rattle.covjson_checks.specs.declared.faults.CovFault.TheVariants.{Missing, WrongType, UnsupportedRange, NotWhole, WrongCount}
use Rattle.covjson_checks.specs.declared.members.Wanted.TheVariants.{Naturals, NumbersOrNulls, WholesOrNulls}
use Rattle.covjson_checks.specs.Answers.{Answer, each, each_from}
use Rattle.edr_base.specs.FirstThatApplies.{and_then, or_fault, check}
use Rattle.covjson_checks.specs.Members.{need, object_at, list_at, whole_or_null, need_each}
use Rattle.edr_json.specs.Trees.{text_or_empty, natural_of, count_items}
use Rattle.covjson_value.specs.AxisNames.{axis_by_name}
use Rattle.covjson_ranges.specs.Ranges.{length_of, has_range_axis, is_named}
use Rattle.covjson_ranges.specs.Orders.{ordered}

-- ---- the axes of a range

-- the axis that an item names, or WrongType
abbrev pub axis_named : Data → Answer AxisName
axis_named d = or_fault (option_and_then axis_by_name (as_str d)) (WrongType AxisNames)

abbrev pub are_distinct : List AxisName → Bool
are_distinct [] = true
are_distinct (name ∷ names) = not (is_named name names) && are_distinct names

abbrev pub are_owned : Domain → List AxisName → Bool
are_owned domain [] = true
are_owned domain (name ∷ names) = has_range_axis domain name && are_owned domain names

-- the axis is among these, unless it has one value at most
abbrev pub is_kept : Domain → List AxisName → AxisName → Bool
is_kept domain names name = nat_le (length_of domain name) 1 || is_named name names

-- distinct names of axes of the domain, among them each of several values
abbrev pub are_range_axes : Domain → List AxisName → Bool
are_range_axes domain names =
    are_distinct names && are_owned domain names && is_kept domain names T && is_kept domain names Z && is_kept domain names Y
    && is_kept domain names X && is_kept domain names Composite

-- no axis has several values
abbrev pub is_one_place : Domain → Bool
is_one_place domain =
    nat_le (length_of domain T) 1 && nat_le (length_of domain Z) 1 && nat_le (length_of domain Y) 1 && nat_le (length_of domain X) 1
    && nat_le (length_of domain Composite) 1

-- the names of the axes, where they are given; they may be left out where no axis has several values
abbrev pub names_in : Domain → Option Data → Answer (List AxisName)
names_in domain None = and_then (check (is_one_place domain) (Missing AxisNames)) (λ _. Ok [])
names_in domain (Some d) =
    and_then (list_at AxisNames d) (λ ds.
    and_then (each axis_named ds) (λ names.
    and_then (check (are_range_axes domain names) (WrongType AxisNames)) (λ _. Ok names)))

-- ---- their lengths

abbrev pub length_is : ℕ → Data → Answer ⊤
length_is wanted d =
    and_then (or_fault (natural_of d) (WrongType Shape)) (λ found.
    check (found == wanted) (WrongCount Shape wanted found))

-- each length in turn
abbrev pub lengths_are : List ℕ → Items → Answer ⊤
lengths_are [] ds = Ok tt
lengths_are (wanted ∷ lengths) no_items = Ok tt
lengths_are (wanted ∷ lengths) (item d ds) = and_then (length_is wanted d) (λ _. lengths_are lengths ds)

-- the lengths of the axes, where they are given; they may be left out where no axis has several values
abbrev pub shape_in : Domain → List AxisName → Option Data → Answer ⊤
shape_in domain names None = check (is_one_place domain) (Missing Shape)
shape_in domain names (Some d) =
    and_then (list_at Shape d) (λ ds.
    and_then (need_each Naturals (WrongType Shape) ds) (λ _.
    and_then (check (count_items ds == length names) (WrongCount Shape (length names) (count_items ds))) (λ _.
    lengths_are (map (length_of domain) names) ds)))

-- ---- their values

-- each item is whole and within its limit, or null
abbrev pub samples_of : Items → Answer (List (Option ℤ))
samples_of ds =
    and_then (need_each NumbersOrNulls (WrongType Values) ds) (λ _.
    and_then (need_each WholesOrNulls (NotWhole Values) ds) (λ _.
    each_from (whole_or_null Values sample_limit) 0 ds))

-- so many values, each a sample or null
abbrev pub samples_in : ℕ → Data → Answer (List (Option ℤ))
samples_in wanted d =
    and_then (need (codes "values") Values d) (λ list.
    and_then (list_at Values list) (λ ds.
    and_then (check (count_items ds == wanted) (WrongCount Values wanted (count_items ds))) (λ _.
    samples_of ds)))

-- an object of the type NdArray
abbrev pub is_array : Data → Answer ⊤
is_array d =
    and_then (object_at Ranges d) (λ _.
    check (bytes_eq (text_or_empty (get (codes "type") d)) (codes "NdArray")) (UnsupportedRange (text_or_empty (get (codes "type") d))))

-- which holds whole numbers
abbrev pub has_integers : Data → Answer ⊤
has_integers d =
    and_then (need (codes "dataType") DataType d) (λ kind.
    check (bytes_eq (text_or_empty (Some kind)) (codes "integer")) (UnsupportedRange (text_or_empty (Some kind))))

-- a range over a domain
abbrev pub range_of : ReadDomain → Data → Answer NdArray
range_of read d =
    and_then (is_array d) (λ _.
    and_then (has_integers d) (λ _.
    and_then (names_in read.domain (get (codes "axisNames") d)) (λ names.
    and_then (shape_in read.domain names (get (codes "shape") d)) (λ _.
    and_then (samples_in (count_of read.domain) d) (λ values.
    Ok (record { values = ordered read.domain read.turned names values }))))))
