-- What is written of ranges stands for them.
use Rattle.std.proofs.Common.{◌≡◌, ℕ, suc, ℤ, true≢false, inl, inr, List, [], ◌∷◌, map, length, zip, codes, slice_index_or, Option, Some, None, refl, sym, ap, ◌∙◌, subst, arith}
use Rattle.std.proofs.lemmas.Bool.{cases_lt}
use Rattle.std.proofs.lemmas.List.{length-map}
use Rattle.serde_json.specs.Data.{Data, string, Items, item, Members, no_members, member}
use Rattle.serde_json.specs.Find.{get}
use Rattle.serde_json.specs.View.{items_of}
use Rattle.covjson_value.specs.declared.domains.Domain.{Domain}
use Rattle.covjson_value.specs.declared.coverages.NdArray.{NdArray}
use Rattle.covjson_value.specs.Domains.{AxisLength, range_axes}
use Rattle.edr_base.specs.Limits.{HasSample}
use Rattle.covjson_value.specs.Coverages.{IsRange}
use Rattle.covjson_value.specs.Trees.{member_if, array_of, array_if_some, sample_data, name_data, length_data, range_data, members_in_order}
use Rattle.covjson_value.specs.declared.axis_names.AxisName.{AxisName}
use Rattle.covjson_ranges.specs.Ranges.{StandsForSample, StandsForName, StandsForLength, length_of, AreRangeAxes, IsOnePlace, NamesStand, ShapeStands, StandsForRange}
use Rattle.edr_json.specs.Trees.{count_items, EachStands, names_of, values_of}
use Rattle.covjson_checks.specs.CheckLaws.{whole_written}
use Rattle.covjson_checks.specs.Turns.{unturned}
use Rattle.covjson_value.specs.MemberLaws.{member_passed, member_found}
use Rattle.edr_json.specs.TreeLaws.{each_written}
use Rattle.covjson_ranges.specs.Laws.{WrittenRangesStand}
use Rattle.covjson_ranges.proofs.WrittenRangeAxes.{written_names, written_axis, range_axes_are, names_written, tree_number_is}

-- ---- values

-- a value
sample_written : (v : Option ℤ) → StandsForSample (sample_data v) v
sample_written None = refl
sample_written (Some value) = whole_written value

-- as many items as data
count_items_of : (ds : List Data) → count_items (items_of ds) ≡ length ds
count_items_of [] = refl
count_items_of (d ∷ ds) = ap suc (count_items_of ds)

-- ---- names and lengths

-- each name
each_name : (domain : Domain) (names : List AxisName) → EachStands StandsForName (items_of (map name_data (map (written_axis domain) names))) names
each_name domain [] = tt
each_name domain (name ∷ names) = (refl, each_name domain names)

-- each length
each_length : (domain : Domain) (names : List AxisName) → EachStands StandsForLength (items_of (map length_data (map (written_axis domain) names))) (map (length_of domain) names)
each_length domain [] = tt
each_length domain (name ∷ names) = (refl, each_length domain names)

-- where no axis is written none has several values
one_place : (domain : Domain) → AreRangeAxes domain [] → IsOnePlace domain
one_place domain h name =
    elim (cases_lt 1 (length_of domain name)) [ inl long ↦ absurd (true≢false (sym (h.all_long name long))) | inr short ↦ short ]

-- the names of the written axes stand there
names_stand : (domain : Domain) (names : List AxisName) → AreRangeAxes domain names → NamesStand domain (array_if_some (map name_data (map (written_axis domain) names))) names
names_stand domain [] h = (refl, one_place domain h)
names_stand domain (name ∷ names) h = (items_of (map name_data (map (written_axis domain) (name ∷ names))), refl, each_name domain (name ∷ names))

-- and so do their lengths
shape_stands : (domain : Domain) (names : List AxisName) → AreRangeAxes domain names → ShapeStands domain (array_if_some (map length_data (map (written_axis domain) names))) names
shape_stands domain [] h = one_place domain h
shape_stands domain (name ∷ names) h = (items_of (map length_data (map (written_axis domain) (name ∷ names))), refl, each_length domain (name ∷ names))

-- ---- one range

-- the member of the values, which is the last
abbrev values_member : NdArray → Members
values_member range = member (codes "values") (array_of sample_data range.values) no_members

-- the member of the type, before that
abbrev kind_member : NdArray → Members
kind_member range = member (codes "type") (string (codes "NdArray")) (values_member range)

-- the lengths, where any are written
abbrev shape_given : Domain → Option Data
shape_given domain = array_if_some (map length_data (range_axes domain))

-- the names, where any are written
abbrev names_given : Domain → Option Data
names_given domain = array_if_some (map name_data (range_axes domain))

-- the member of the lengths, before those
abbrev shape_member : Domain → NdArray → Members
shape_member domain range = member_if (codes "shape") (shape_given domain) (kind_member range)

-- the member of the type of the values, before those
abbrev integer_member : Domain → NdArray → Members
integer_member domain range = member (codes "dataType") (string (codes "integer")) (shape_member domain range)

-- the type is found
kind_found : (domain : Domain) (range : NdArray) → get (codes "type") (range_data domain range) ≡ Some (string (codes "NdArray"))
kind_found domain range =
    member_passed (codes "type") (codes "axisNames") (names_given domain) (integer_member domain range) (λ d. refl)
    ∙ member_passed (codes "type") (codes "shape") (shape_given domain) (kind_member range) (λ d. refl)

-- the type of the values is found
integer_found : (domain : Domain) (range : NdArray) → get (codes "dataType") (range_data domain range) ≡ Some (string (codes "integer"))
integer_found domain range = member_passed (codes "dataType") (codes "axisNames") (names_given domain) (integer_member domain range) (λ d. refl)

-- the names are found where they are written
names_found : (domain : Domain) (range : NdArray) → get (codes "axisNames") (range_data domain range) ≡ names_given domain
names_found domain range =
    member_found (codes "axisNames") (names_given domain) (integer_member domain range) (λ d. refl)
    (member_passed (codes "axisNames") (codes "shape") (shape_given domain) (kind_member range) (λ d. refl))

-- the lengths are found where they are written
shape_found : (domain : Domain) (range : NdArray) → get (codes "shape") (range_data domain range) ≡ shape_given domain
shape_found domain range =
    member_passed (codes "shape") (codes "axisNames") (names_given domain) (integer_member domain range) (λ d. refl)
    ∙ member_found (codes "shape") (shape_given domain) (kind_member range) (λ d. refl) refl

-- the values are found
values_found : (domain : Domain) (range : NdArray) → get (codes "values") (range_data domain range) ≡ Some (array_of sample_data range.values)
values_found domain range =
    member_passed (codes "values") (codes "axisNames") (names_given domain) (integer_member domain range) (λ d. refl)
    ∙ member_passed (codes "values") (codes "shape") (shape_given domain) (kind_member range) (λ d. refl)

-- a range is written with the axes that the domain's ranges have, in the domain's order
range_written : (domain : Domain) (range : NdArray) → IsRange domain range → StandsForRange domain unturned (range_data domain range) range
range_written domain range h =
    let names = written_names domain in
    let axes = names_written domain in
    let N : Option Data → Type 0 = λ found. NamesStand domain found names in
    let S : Option Data → Type 0 = λ found. ShapeStands domain found names in
    let names_are : names_given domain ≡ array_if_some (map name_data (map (written_axis domain) names)) = ap (λ (axes : List AxisLength). array_if_some (map name_data axes)) (range_axes_are domain) in
    let shape_is : shape_given domain ≡ array_if_some (map length_data (map (written_axis domain) names)) = ap (λ (axes : List AxisLength). array_if_some (map length_data axes)) (range_axes_are domain) in
    record {
      kind = kind_found domain range;
      integers = integer_found domain range;
      names = names;
      names_stand = subst N (sym (names_found domain range ∙ names_are)) (names_stand domain names axes);
      axes = axes;
      shape = subst S (sym (shape_found domain range ∙ shape_is)) (shape_stands domain names axes);
      items = items_of (map sample_data range.values);
      list = values_found domain range;
      as_many = count_items_of (map sample_data range.values) ∙ (length-map range.values sample_data ∙ h.count);
      samples = range.values;
      samples_stand = each_written StandsForSample HasSample sample_data (λ v h. sample_written v) range.values h.samples;
      within = h.samples;
      in_order = record {
        counted = h.count;
        each = λ places inside. ap (λ n. slice_index_or range.values n None) (sym (tree_number_is domain places inside));
      };
    }

-- ---- the ranges by their ids

-- the names of members are the keys
names_zipped : (keys : List (List ℕ)) (ds : List Data) → length ds ≡ length keys → names_of (members_in_order (zip keys ds)) ≡ keys
names_zipped [] ds same = refl
names_zipped (key ∷ keys) [] same = absurd (omega arith)
names_zipped (key ∷ keys) (d ∷ ds) same = ap (λ (rest : List (List ℕ)). key ∷ rest) (names_zipped keys ds (omega arith))

-- the values of members are the data
values_zipped : (keys : List (List ℕ)) (ds : List Data) → length ds ≡ length keys → values_of (members_in_order (zip keys ds)) ≡ items_of ds
values_zipped [] [] same = refl
values_zipped [] (d ∷ ds) same = absurd (omega arith)
values_zipped (key ∷ keys) [] same = absurd (omega arith)
values_zipped (key ∷ keys) (d ∷ ds) same = ap (item d) (values_zipped keys ds (omega arith))

-- the members are named by the ids, and each range stands behind its own
pub ranges_written : WrittenRangesStand
ranges_written domain ids ranges same h =
    let as_many = length-map ranges (range_data domain) ∙ same in
    let P : Items → Type 0 = λ items. EachStands (StandsForRange domain unturned) items ranges in (
      names_zipped ids (map (range_data domain) ranges) as_many,
      subst P (sym (values_zipped ids (map (range_data domain) ranges) as_many))
          (each_written (StandsForRange domain unturned) (IsRange domain) (range_data domain) (range_written domain) ranges h),
    )
