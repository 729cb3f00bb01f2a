-- The text of a document (OGC 21-069r2) in the pieces that are written one after another.
use Rattle.std.specs.Prelude.{ℕ, zero, suc, ℤ, Bool, true, false, if◌then◌else◌, ◌==◌, List, [], ◌∷◌, ◌++◌, map, length, get_or, codes}
use Rattle.std.specs.declared.option.Option.{Option}
use Rattle.std.specs.Prelude.{None, Some}
use Rattle.json.specs.Print.{quoted}
use Rattle.serde_json.specs.Data.{Data, array}
use Rattle.serde_json.specs.View.{items_of}
use Rattle.serde_json.specs.Written.{compact_text, comma_if}
use Rattle.covjson_value.specs.declared.coverages.NdArray.{NdArray}
use Rattle.covjson_value.specs.declared.coverages.Coverage.{Coverage}
use Rattle.covjson_value.specs.declared.coverages.Document.{Document}
use Rattle.covjson_value.specs.declared.coverages.Document.TheVariants.{One, Many}
use Rattle.covjson_write.specs.declared.range_heads.RangeHead.{RangeHead}
use Rattle.covjson_value.specs.Coverages.{ids_of}
use Rattle.covjson_value.specs.Domains.{AxisLength, range_axes, count_of}
use Rattle.covjson_value.specs.Trees.{domain_data, parameters_data, name_data, length_data, sample_data}

-- whether others stand before number n
abbrev pub is_later : ℕ → Bool
is_later zero = false
is_later (suc n) = true

-- the comma before number n
abbrev pub comma : ℕ → List ℕ
comma n = comma_if (is_later n)

-- ---- values

-- value number n of a range, with its comma
abbrev pub value_piece : ℕ → Option ℤ → List ℕ
value_piece n value = comma n ++ compact_text (sample_data value)

-- values of a range, from number n on
abbrev pub values_from : ℕ → List (Option ℤ) → List ℕ
values_from n [] = []
values_from n (value ∷ values) = value_piece n value ++ values_from (suc n) values

-- ---- ranges

-- a member that is an array, between two texts, unless it has no item
abbrev pub list_text : List ℕ → List Data → List ℕ → List ℕ
list_text before [] behind = []
list_text before (d ∷ ds) behind = before ++ (compact_text (array (items_of (d ∷ ds))) ++ behind)

-- an NdArray object over some axes as far as its values
abbrev pub array_begin : List AxisLength → List ℕ
array_begin axes =
    codes "{" ++ (list_text (codes "\"axisNames\":") (map name_data axes) (codes ",")
    ++ (codes "\"dataType\":\"integer\"" ++ (list_text (codes ",\"shape\":") (map length_data axes) [] ++ codes ",\"type\":\"NdArray\",\"values\":[")))

-- the keys of a coverage's ranges, their opening, and how many values each has
abbrev pub head_of : Coverage → RangeHead
head_of coverage = record {
  keys = map quoted (ids_of coverage.parameters);
  opening = codes ":" ++ array_begin (range_axes coverage.domain);
  count = count_of coverage.domain;
}

-- range number n as far as its values, with its comma and its key
abbrev pub range_begin : RangeHead → ℕ → List ℕ
range_begin head n = comma n ++ (get_or head.keys n [] ++ head.opening)

abbrev pub coverage_end : List ℕ
coverage_end = codes "},\"type\":\"Coverage\"}"

-- what stands behind the values of range number n: the coverage ends with its last range
abbrev pub range_end : RangeHead → ℕ → List ℕ
range_end head n = codes "]}" ++ (if suc n == length head.keys then coverage_end else [])

-- range number n
abbrev pub range_piece : RangeHead → ℕ → List (Option ℤ) → List ℕ
range_piece head n values = range_begin head n ++ (values_from 0 values ++ range_end head n)

-- the ranges from number n on, and the coverage's end
abbrev pub ranges_from : RangeHead → ℕ → List NdArray → List ℕ
ranges_from head n [] = []
ranges_from head n (range ∷ ranges) = range_piece head n range.values ++ ranges_from head (suc n) ranges

-- ---- coverages

abbrev pub id_text : Option (List ℕ) → List ℕ
id_text None = []
id_text (Some id) = codes ",\"id\":" ++ quoted id

-- a Coverage object as far as its ranges
abbrev pub coverage_begin : Coverage → List ℕ
coverage_begin coverage =
    codes "{\"domain\":" ++ (compact_text (domain_data coverage.domain coverage.referencing)
    ++ (id_text coverage.id
    ++ (codes ",\"parameters\":" ++ (compact_text (parameters_data coverage.parameters) ++ codes ",\"ranges\":{"))))

-- coverage number n, with its comma
abbrev pub coverage_piece : ℕ → Coverage → List ℕ
coverage_piece n coverage = comma n ++ (coverage_begin coverage ++ ranges_from (head_of coverage) 0 coverage.ranges)

-- coverages from number n on
abbrev pub coverages_from : ℕ → List Coverage → List ℕ
coverages_from n [] = []
coverages_from n (coverage ∷ coverages) = coverage_piece n coverage ++ coverages_from (suc n) coverages

-- ---- documents

abbrev pub is_many : Document → Bool
is_many (One coverage) = false
is_many (Many coverages) = true

-- what stands before and behind the coverages: a collection's object, and nothing round one coverage
abbrev pub document_begin : Bool → List ℕ
document_begin true = codes "{\"coverages\":["
document_begin false = []

abbrev pub document_end : Bool → List ℕ
document_end true = codes "],\"type\":\"CoverageCollection\"}"
document_end false = []
