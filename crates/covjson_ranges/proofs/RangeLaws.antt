-- The rows of a range lead to the computed answer, and end in a range exactly where the tree stands for it.
use Rattle.std.proofs.Common.{◌≡◌, ◌≢◌, inl, inr, codes, List, length, bytes_eq, ℤ, true, Option, Some, Ok, Err, refl, sym, ap, ◌∙◌, subst}
use Rattle.std.specs.Prelude.{Result, IfOk, IfErr}
use Rattle.std.proofs.lemmas.Slice.Eq.{bytes_eq-Decides}
use Rattle.serde_json.specs.Data.{Data, string, object}
use Rattle.serde_json.specs.Find.{get, as_object}
use Rattle.edr_json.specs.Trees.{text_or_empty}
use Rattle.edr_json.specs.TreeLaws.{as_object_some, member_of_object, text_is}
use Rattle.covjson_value.specs.declared.domains.Domain.{Domain}
use Rattle.covjson_value.specs.declared.coverages.NdArray.{NdArray}
use Rattle.covjson_value.specs.declared.axis_names.AxisName.{AxisName}
use Rattle.edr_base.specs.Limits.{AreSamples, HasSample}
use Rattle.covjson_value.specs.Coverages.{IsRange}
use Rattle.covjson_value.specs.Domains.{count_of}
use Rattle.covjson_checks.specs.declared.faults.CovFault.{CovFault}
use Rattle.covjson_checks.specs.declared.faults.CovFault.TheVariants.{Missing, WrongType, UnsupportedRange, OutOfMemory}
use Rattle.covjson_checks.specs.declared.faults.Member.TheVariants.{Ranges, DataType}
use Rattle.covjson_checks.specs.declared.turned.Turned.{Turned}
use Rattle.covjson_checks.specs.declared.turned.ReadDomain.{ReadDomain}
use Rattle.covjson_checks.specs.Answers.{GivesUnlessMemory}
use Rattle.covjson_ranges.specs.Ranges.{StandsForSample, IsNdArray, HasIntegers, NamesStand, AreRangeAxes, AreInOrder, StandsForRange}
use Rattle.covjson_ranges.specs.Orders.{ordered}
use Rattle.covjson_ranges.specs.RangeAnswers.{is_array, has_integers, names_in, shape_in, samples_in, range_of}
use Rattle.covjson_ranges.specs.RangeRows.{KindRows, DataTypeRows, NamesRows, ShapeRows, ValuesRows, GivesInOrder, RangeRows}
use Rattle.covjson_ranges.specs.Laws.{RangeRowsHaveOneAnswer, RangeRowsAreWhatStand, RangeAnswersFollowRows, RangesAreWhatStand}
use Rattle.covjson_ranges.proofs.CheckRows.{LeadTo, check_ends, find_leads, then_leads, row_passed, rows_passed}
use Rattle.covjson_ranges.proofs.ShapeParts.{names_lead, names_stand, names_answer, shape_leads, shape_passed, shape_passes}
use Rattle.covjson_ranges.proofs.SampleLemmas.{values_lead, values_passed, values_pass}
use Rattle.covjson_ranges.proofs.OrderLemmas.{ordered_in_order, in_order_is_ordered, ordered_all}
use Rattle.covjson_ranges.proofs.RangeParts.{stands_count}

-- ---- an array of whole numbers

-- the rows of the kind
kind_leads : (d : Data) → LeadTo (KindRows d) (is_array d)
kind_leads d =
    let found = get (codes "type") d in
    find_leads (as_object d) (λ members. d ≡ object members) (WrongType Ranges) _ _ (as_object_some d) (λ members h. ap as_object h)
    (λ members is. check_ends (bytes_eq (text_or_empty found) (codes "NdArray")) (IsNdArray d) (UnsupportedRange (text_or_empty found))
    (λ same. text_is found _ _ ((bytes_eq-Decides (text_or_empty found) (codes "NdArray")).0 same)) (λ h. rw h refl))

-- a member that is the text
is_integer : (o : Option Data) (kind : Data) → o ≡ Some kind → bytes_eq (text_or_empty (Some kind)) (codes "integer") ≡ true → o ≡ Some (string (codes "integer"))
is_integer o kind found same = found ∙ text_is (Some kind) _ _ ((bytes_eq-Decides (text_or_empty (Some kind)) (codes "integer")).0 same)

-- passes the test
integer_passes : (o : Option Data) (kind : Data) → o ≡ Some kind → o ≡ Some (string (codes "integer")) → bytes_eq (text_or_empty (Some kind)) (codes "integer") ≡ true
integer_passes o kind found h = let same : kind ≡ string (codes "integer") = cc in rw same refl

-- the rows of the type of the values
data_type_leads : (d : Data) → LeadTo (DataTypeRows d) (has_integers d)
data_type_leads d =
    let found = get (codes "dataType") d in
    find_leads found (λ kind. found ≡ Some kind) (Missing DataType) _ _ (λ kind h. h) (λ kind h. h)
    (λ kind is. check_ends (bytes_eq (text_or_empty (Some kind)) (codes "integer")) (HasIntegers d) (UnsupportedRange (text_or_empty (Some kind)))
    (is_integer found kind is) (integer_passes found kind is))

-- ---- a range

-- the last row: samples have one order in the domain
order_leads : (read : ReadDomain) (names : List AxisName) (samples : List (Option ℤ))
    → LeadTo (GivesInOrder read names samples) (Ok (record { values = ordered read.domain read.turned names samples }))
order_leads read names samples =
    let make : List (Option ℤ) → Result NdArray CovFault = λ values. Ok (record { values = values }) in
    record {
      follows = (record { values = ordered read.domain read.turned names samples }, ordered_in_order read.domain read.turned names samples, refl);
      only = λ other h. h.2 ∙ ap make (in_order_is_ordered read.domain read.turned names samples h.0.values h.1);
    }

-- the rows lead to what is computed
pub range_leads : (read : ReadDomain) (d : Data) → LeadTo (RangeRows read d) (range_of read d)
range_leads read d =
    then_leads (KindRows d) (is_array d) _ _ (kind_leads d) (λ u kind.
    then_leads (DataTypeRows d) (has_integers d) _ _ (data_type_leads d) (λ u data_type.
    then_leads (NamesRows read.domain (get (codes "axisNames") d)) (names_in read.domain (get (codes "axisNames") d)) _ _ (names_lead read.domain (get (codes "axisNames") d)) (λ names named.
    then_leads (ShapeRows read.domain names (get (codes "shape") d)) (shape_in read.domain names (get (codes "shape") d)) _ _ (shape_leads read.domain names (get (codes "shape") d)) (λ u shaped.
    then_leads (ValuesRows (count_of read.domain) (get (codes "values") d)) (samples_in (count_of read.domain) d) _ _ (values_lead (count_of read.domain) d) (λ samples held.
    order_leads read names samples)))))

-- ---- what stands

-- rows that end in a range: the tree stands for it
pub rows_stand : (read : ReadDomain) (d : Data) (range : NdArray) → RangeRows read d (Ok range) → StandsForRange read.domain read.turned d range
rows_stand read d range h =
    let kind = rows_passed range h in
    let members = row_passed kind.0 (WrongType Ranges) kind.1 in
    let is_array = row_passed kind.0 (UnsupportedRange (text_or_empty (get (codes "type") d))) members.2 in
    let data_type = rows_passed range kind.2 in
    let found = row_passed data_type.0 (Missing DataType) data_type.1 in
    let integers = row_passed data_type.0 (UnsupportedRange (text_or_empty (Some found.0))) found.2 in
    let names = rows_passed range data_type.2 in
    let named = names_stand read.domain (get (codes "axisNames") d) names.0 (sym ((names_lead read.domain (get (codes "axisNames") d)).only (Ok names.0) names.1)) in
    let shape = rows_passed range names.2 in
    let values = rows_passed range shape.2 in
    let samples = values_passed (count_of read.domain) (get (codes "values") d) values.0 values.1 in
    let same : values.2.0 ≡ range = cc (values.2.2) in
    record {
      kind = is_array.0;
      integers = integers.0;
      names = names.0;
      names_stand = named.0;
      axes = named.1;
      shape = shape_passed read.domain names.0 (get (codes "shape") d) shape.0 shape.1;
      items = samples.items;
      list = samples.list;
      as_many = samples.as_many;
      samples = values.0;
      samples_stand = samples.each_stand;
      within = samples.short;
      in_order = subst (λ (r : NdArray). AreInOrder read.domain read.turned names.0 values.0 r.values) same values.2.1;
    }

-- the rows of the names, where they stand
names_pass : (read : ReadDomain) (o : Option Data) (names : List AxisName) → NamesStand read.domain o names → AreRangeAxes read.domain names → NamesRows read.domain o (Ok names)
names_pass read o names stand axes = subst (NamesRows read.domain o) (names_answer read.domain o names stand axes) (names_lead read.domain o).follows

-- and where it stands for a range, they end in it
pub stand_rows : (read : ReadDomain) (d : Data) (range : NdArray) → StandsForRange read.domain read.turned d range → RangeRows read d (Ok range)
stand_rows read d range h =
    let members = member_of_object (codes "type") d (string (codes "NdArray")) h.kind in
    inl (
      tt,
      inl (members.0, as_object_some d members.0 members.1, inl (h.kind, refl)),
      inl (
        tt,
        inl (string (codes "integer"), h.integers, inl (h.integers, refl)),
        inl (
          h.names,
          names_pass read (get (codes "axisNames") d) h.names h.names_stand h.axes,
          inl (
            tt,
            shape_passes read.domain h.names (get (codes "shape") d) h.shape,
            inl (
              h.samples,
              values_pass (count_of read.domain) (get (codes "values") d) h.samples (record {
                items = h.items;
                list = h.list;
                as_many = h.as_many;
                each_stand = h.samples_stand;
                short = h.within;
              }),
              (range, h.in_order, refl),
            ),
          ),
        ),
      ),
    )

-- a range that stands is valid
pub range_valid : (domain : Domain) (turned : Turned) (d : Data) (range : NdArray) → StandsForRange domain turned d range → IsRange domain range
range_valid domain turned d range h =
    let counted : length h.samples ≡ count_of domain = sym (stands_count StandsForSample h.items h.samples h.samples_stand) ∙ h.as_many in
    record {
      count = h.in_order.counted;
      samples = subst AreSamples (sym (in_order_is_ordered domain turned h.names h.samples range.values h.in_order))
          (ordered_all HasSample domain turned h.names h.samples h.axes counted h.within);
    }

-- a fault that is answered is that of the rows, unless memory was wanting
pub fault_follows : (read : ReadDomain) (d : Data) (result : Result NdArray CovFault) → GivesUnlessMemory (λ range. range) result (range_of read d)
    → IfErr result (λ fault. fault ≢ OutOfMemory → RangeRows read d (Err fault))
fault_follows read d (Ok range) h = tt
fault_follows read d (Err fault) (inl is) = λ other. subst (RangeRows read d) is (range_leads read d).follows
fault_follows read d (Err fault) (inr memory) = λ other. absurd (other memory)

-- and then the tree stands for no range
pub nothing_stands : (read : ReadDomain) (d : Data) (result : Result NdArray CovFault) → GivesUnlessMemory (λ range. range) result (range_of read d)
    → IfErr result (λ fault. fault ≢ OutOfMemory → (range : NdArray) → ¬ (StandsForRange read.domain read.turned d range))
nothing_stands read d (Ok range) h = tt
nothing_stands read d (Err fault) (inl is) = λ other range stands. let e = (range_leads read d).only (Ok range) (stand_rows read d range stands) ∙ is in cc
nothing_stands read d (Err fault) (inr memory) = λ other. absurd (other memory)

-- ---- the laws

-- the rows of a tree have one answer
pub one_answer : RangeRowsHaveOneAnswer
one_answer read d answer other h k = (range_leads read d).only answer h ∙ sym ((range_leads read d).only other k)

-- they end in a range exactly where the tree stands for it
pub are_what_stands : RangeRowsAreWhatStand
are_what_stands read d range = (rows_stand read d range, stand_rows read d range)

-- the computed answer follows them
pub answers_follow : RangeAnswersFollowRows
answers_follow read d = (range_leads read d).follows

-- and is a range exactly where the tree stands for it
pub range_answers : RangesAreWhatStand
range_answers read d range = (
  λ h. rows_stand read d range (subst (RangeRows read d) h (range_leads read d).follows),
  λ h. sym ((range_leads read d).only (Ok range) (stand_rows read d range h)),
)

-- ---- what a result says by its answer

-- a range stands
pub result_stands : (read : ReadDomain) (d : Data) (result : Result NdArray CovFault) → GivesUnlessMemory (λ range. range) result (range_of read d)
    → IfOk result (StandsForRange read.domain read.turned d)
result_stands read d (Ok range) h = (range_answers read d range).0 h
result_stands read d (Err fault) h = tt

-- and is valid
pub result_valid : (read : ReadDomain) (d : Data) (result : Result NdArray CovFault) → GivesUnlessMemory (λ range. range) result (range_of read d) → IfOk result (IsRange read.domain)
result_valid read d (Ok range) h = range_valid read.domain read.turned d range ((range_answers read d range).0 h)
result_valid read d (Err fault) h = tt
