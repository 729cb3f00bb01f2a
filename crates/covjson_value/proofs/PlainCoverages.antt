-- The tree of a valid coverage, and of a valid document, is plain and shallow.
use Rattle.std.proofs.Common.{◌≡◌, ℕ, ℤ, codes, List, [], ◌∷◌, map, All, Option, Some, None, IfSome, option_map, IsUtf8, refl, ap, subst, sym, arith}
use Rattle.std.proofs.lemmas.List.Elements.{All-map, All-weaker}
use Rattle.std.specs.List.{zip}
use Rattle.json.proofs.Printed.Utf8.{IsUtf8-are_ascii}
use Rattle.serde_json.specs.Data.{object}
use Rattle.edr_axes.specs.Instants.{TimesAreWritten}
use Rattle.covjson_value.specs.declared.domains.Domain.{Domain}
use Rattle.covjson_value.specs.declared.coverages.Parameter.{Parameter}
use Rattle.covjson_value.specs.declared.coverages.NdArray.{NdArray}
use Rattle.covjson_value.specs.declared.coverages.Coverage.{Coverage}
use Rattle.covjson_value.specs.declared.coverages.Document.{Document}
use Rattle.covjson_value.specs.declared.coverages.Document.TheVariants.{One, Many}
use Rattle.covjson_value.specs.Domains.{AxisLength, range_axes}
use Rattle.edr_base.specs.Limits.{IsSample}
use Rattle.covjson_value.specs.Coverages.{HasAxes, HasTuples, IsParameter, ids_of, AscendById, IsRange, IsValid, IsValidDocument}
use Rattle.covjson_value.specs.Trees
use Rattle.covjson_value.proofs.InOrder.{Pair}
use Rattle.covjson_value.proofs.Within.{IsWithin, within_more, text_within, word_within, integer_within, count_within, array_of_within, array_if_some_within, object_within, no_members_within, named_within, member_if_within, alone_within, zip_within}
use Rattle.covjson_value.proofs.AxisLengths.{IsCounted, range_axes_counted}
use Rattle.covjson_value.proofs.PlainDomains.{given_text_within, domain_within}

-- ---- parameters

unit_within : (unit : Option (List ℕ)) → IfSome unit IsUtf8 → IfSome (option_map Trees.unit_data unit) (IsWithin 2)
unit_within None h = tt
unit_within (Some unit) h = alone_within 1 (codes "symbol") _ (IsUtf8-are_ascii _ refl) (text_within 1 unit h)

property_within : (p : Parameter) → IsParameter p → IsWithin 2 (Trees.property_data p)
property_within p h = alone_within 1 (codes "label") _ (IsUtf8-are_ascii _ refl) (alone_within 0 p.lang _ h.lang (text_within 0 p.label h.label))

parameter_within : (p : Parameter) → IsParameter p → IsWithin 3 (Trees.parameter_data p)
parameter_within p h =
    object_within 2 _
    (named_within 2 [] (codes "observedProperty") _ _ refl refl (property_within p h)
    (named_within 2 (codes "observedProperty") (codes "type") _ _ refl refl (word_within 2 (codes "Parameter") refl)
    (member_if_within 2 (codes "type") (codes "unit") _ _ refl refl (unit_within p.unit h.unit) (no_members_within 2 _))))

named-zip : (ps : List Parameter) → map Trees.named_parameter ps ≡ zip (ids_of ps) (map Trees.parameter_data ps)
named-zip [] = refl
named-zip (p ∷ ps) = ap (λ (rest : List Pair). Trees.named_parameter p ∷ rest) (named-zip ps)

ids_utf8 : (ps : List Parameter) → All IsParameter ps → All IsUtf8 (ids_of ps)
ids_utf8 ps hs = All-map IsUtf8 (λ (p : Parameter). p.id) ps (All-weaker IsParameter (λ p. IsUtf8 p.id) (λ p h. h.id.utf8) ps hs)

parameters_within : (ps : List Parameter) → All IsParameter ps → AscendById ps → IsWithin 4 (Trees.parameters_data ps)
parameters_within ps hs ascend =
    let within : All (IsWithin 3) (map Trees.parameter_data ps) = All-map (IsWithin 3) Trees.parameter_data ps (All-weaker IsParameter (λ p. IsWithin 3 (Trees.parameter_data p)) parameter_within ps hs) in
    subst (λ (pairs : List Pair). IsWithin 4 (object (Trees.members_in_order pairs))) (sym (named-zip ps)) (zip_within 3 (ids_of ps) (map Trees.parameter_data ps) ascend (ids_utf8 ps hs) within)

-- ---- ranges

sample_within : (n : ℕ) (sample : Option ℤ) → IfSome sample IsSample → IsWithin n (Trees.sample_data sample)
sample_within n None h = record { plain = tt; shallow = omega arith }
sample_within n (Some value) h = integer_within n value (omega (arith, h))

name_within : (n : ℕ) (axis : AxisLength) → IsCounted axis → IsWithin n (Trees.name_data axis)
name_within n axis h = word_within n axis.key h.key

length_within : (n : ℕ) (axis : AxisLength) → IsCounted axis → IsWithin n (Trees.length_data axis)
length_within n axis h = count_within n axis.count h.count

range_within : (domain : Domain) → HasAxes domain → HasTuples domain → (range : NdArray) → IsRange domain range → IsWithin 3 (Trees.range_data domain range)
range_within domain axes tuples range h =
    let counted = range_axes_counted domain axes tuples in
    object_within 2 _
    (member_if_within 2 [] (codes "axisNames") _ _ refl refl (array_if_some_within 1 IsCounted Trees.name_data (name_within 1) (range_axes domain) counted)
    (named_within 2 (codes "axisNames") (codes "dataType") _ _ refl refl (word_within 2 (codes "integer") refl)
    (member_if_within 2 (codes "dataType") (codes "shape") _ _ refl refl (array_if_some_within 1 IsCounted Trees.length_data (length_within 1) (range_axes domain) counted)
    (named_within 2 (codes "shape") (codes "type") _ _ refl refl (word_within 2 (codes "NdArray") refl)
    (named_within 2 (codes "type") (codes "values") _ _ refl refl (array_of_within 1 (λ sample. IfSome sample IsSample) Trees.sample_data (sample_within 1) range.values h.samples) (no_members_within 2 _))))))

ranges_within : (coverage : Coverage) → IsValid coverage → IsWithin 4 (Trees.ranges_data coverage.domain coverage.parameters coverage.ranges)
ranges_within coverage h =
    let within : All (IsWithin 3) (map (Trees.range_data coverage.domain) coverage.ranges) =
    All-map (IsWithin 3) (Trees.range_data coverage.domain) coverage.ranges
    (All-weaker (IsRange coverage.domain) (λ range. IsWithin 3 (Trees.range_data coverage.domain range)) (range_within coverage.domain h.axes h.tuples) coverage.ranges h.ranges) in
    zip_within 3 (ids_of coverage.parameters) (map (Trees.range_data coverage.domain) coverage.ranges) h.ascending (ids_utf8 coverage.parameters h.parameters) within

-- ---- coverages

pub coverage_within : TimesAreWritten → (coverage : Coverage) → IsValid coverage → IsWithin 6 (Trees.coverage_data coverage)
coverage_within written coverage h =
    object_within 5 _
    (named_within 5 [] (codes "domain") _ _ refl refl (domain_within written coverage.domain coverage.referencing h.axes h.tuples h.referencing)
    (member_if_within 5 (codes "domain") (codes "id") _ _ refl refl (given_text_within 5 coverage.id h.id)
    (named_within 5 (codes "id") (codes "parameters") _ _ refl refl (within_more 4 5 _ (omega arith) (parameters_within coverage.parameters h.parameters h.ascending))
    (named_within 5 (codes "parameters") (codes "ranges") _ _ refl refl (within_more 4 5 _ (omega arith) (ranges_within coverage h))
    (named_within 5 (codes "ranges") (codes "type") _ _ refl refl (word_within 5 (codes "Coverage") refl) (no_members_within 5 _))))))

-- ---- documents

collection_within : TimesAreWritten → (coverages : List Coverage) → All IsValid coverages → IsWithin 8 (Trees.collection_data (Trees.array_of Trees.coverage_data coverages))
collection_within written coverages hs =
    object_within 7 _
    (named_within 7 [] (codes "coverages") _ _ refl refl (array_of_within 6 IsValid Trees.coverage_data (coverage_within written) coverages hs)
    (named_within 7 (codes "coverages") (codes "type") _ _ refl refl (word_within 7 (codes "CoverageCollection") refl) (no_members_within 7 _)))

pub document_within : TimesAreWritten → (document : Document) → IsValidDocument document → IsWithin 8 (Trees.document_data document)
document_within written (One coverage) h = within_more 6 8 _ (omega arith) (coverage_within written coverage h)
document_within written (Many coverages) hs = collection_within written coverages hs
