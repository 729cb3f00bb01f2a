-- The laws of the pieces of a document's text.
use Rattle.std.proofs.Common.{◌≡◌, ℕ, suc, ◌+◌, ◌-◌, ◌<◌, ◌≤◌, ◌==◌, if◌then◌else◌, Bool, true, false, ℤ, List, [], ◌∷◌, ◌++◌, map, length, take, drop, get_or, All, Option, Some, None, option_map, codes, refl, sym, ap, ◌∙◌, append_assoc, append-nil, add-zero, zero-add, arith}
use Rattle.std.proofs.lemmas.List.{get_or-drop, length-drop, drop-drop, length-map, length-take-le, take_more, take-append-drop}
use Rattle.std.proofs.lemmas.List.Elements.{All-head, All-tail}
use Rattle.std.proofs.lemmas.Bool.{eq-eqb, ne_eqb}
use Rattle.std.proofs.Math.Numerals.{suc-eq-add-one}
use Rattle.std.specs.List.{zip}
use Rattle.json.specs.Print.{quoted}
use Rattle.json.proofs.OnLiterals.{json_on_literals}
use Rattle.serde_json.specs.Data.{Data, string, array, object, Items, Members, no_members, member}
use Rattle.serde_json.specs.View.{items_of}
use Rattle.serde_json.specs.Written.{compact_text, comma_if, items_text, members_text}
use Rattle.covjson_value.specs.declared.domains.Domain.{Domain}
use Rattle.covjson_value.specs.declared.coverages.Parameter.{Parameter}
use Rattle.covjson_value.specs.declared.coverages.NdArray.{NdArray}
use Rattle.covjson_value.specs.declared.coverages.Coverage.{Coverage}
use Rattle.covjson_value.specs.declared.coverages.Document.TheVariants.{One, Many}
use Rattle.covjson_value.specs.Coverages.{IsValid, ids_of}
use Rattle.covjson_value.specs.Domains.{AxisLength, range_axes}
use Rattle.covjson_value.specs.Trees.{array_of, domain_data, parameters_data, sample_data, range_data, coverage_data, coverage_object, collection_data, members_in_order, member_if, array_if_some, name_data, length_data, named_ranges}
use Rattle.covjson_write.specs.declared.range_heads.RangeHead.{RangeHead}
use Rattle.covjson_write.specs.Pieces.{is_later, comma, id_text, value_piece, values_from, array_begin, head_of, range_end, range_piece, ranges_from, coverage_begin, coverage_end, coverage_piece, coverages_from}
use Rattle.covjson_write.specs.Laws.{ValuesGoOn, RangesGoOn, CoveragesGoOn, CoverageOfPieces, DocumentOfPieces}

-- ---- one after another

next : (n m : ℕ) → suc n + m ≡ n + suc m
next n m = omega arith

pub values_on : ValuesGoOn
values_on n [] more = ap (λ k. values_from k more) (sym (add-zero n))
values_on n (value ∷ values) more =
    ap (λ text. value_piece n value ++ text) (values_on (suc n) values more ∙ ap (λ k. values_from (suc n) values ++ values_from k more) (next n (length values)))
    ∙ sym (append_assoc (value_piece n value) (values_from (suc n) values) (values_from (n + suc (length values)) more))

pub ranges_on : RangesGoOn
ranges_on head n [] more = ap (λ k. ranges_from head k more) (sym (add-zero n))
ranges_on head n (range ∷ ranges) more =
    ap (λ text. range_piece head n range.values ++ text) (ranges_on head (suc n) ranges more ∙ ap (λ k. ranges_from head (suc n) ranges ++ ranges_from head k more) (next n (length ranges)))
    ∙ sym (append_assoc (range_piece head n range.values) (ranges_from head (suc n) ranges) (ranges_from head (n + suc (length ranges)) more))

pub coverages_on : CoveragesGoOn
coverages_on n [] more = ap (λ k. coverages_from k more) (sym (add-zero n))
coverages_on n (coverage ∷ coverages) more =
    ap (λ text. coverage_piece n coverage ++ text) (coverages_on (suc n) coverages more ∙ ap (λ k. coverages_from (suc n) coverages ++ coverages_from k more) (next n (length coverages)))
    ∙ sym (append_assoc (coverage_piece n coverage) (coverages_from (suc n) coverages) (coverages_from (n + suc (length coverages)) more))

-- one value more
pub values_more : (n : ℕ) (values : List (Option ℤ)) (k : ℕ) → k < length values
    → values_from n (take (k + 1) values) ≡ values_from n (take k values) ++ value_piece (n + k) (get_or values k None)
values_more n values k inside =
    let value : Option ℤ = get_or values k None in
    ap (values_from n) (take_more values k None inside) ∙ values_on n (take k values) (value ∷ [])
    ∙ ap (λ m. values_from n (take k values) ++ (value_piece (n + m) value ++ [])) (length-take-le k values (omega (arith, inside)))
    ∙ ap (λ text. values_from n (take k values) ++ text) (append-nil (value_piece (n + k) value))

-- values, cut in two
pub values_cut : (n : ℕ) (values : List (Option ℤ)) (k : ℕ) → k ≤ length values
    → values_from n (take k values) ++ values_from (n + k) (drop k values) ≡ values_from n values
values_cut n values k inside =
    ap (λ m. values_from n (take k values) ++ values_from (n + m) (drop k values)) (sym (length-take-le k values inside))
    ∙ sym (values_on n (take k values) (drop k values)) ∙ ap (values_from n) (take-append-drop k values)

-- one range more
pub ranges_more : (head : RangeHead) (ranges : List NdArray) (k : ℕ) (d : NdArray) → k < length ranges
    → ranges_from head 0 (take (k + 1) ranges) ≡ ranges_from head 0 (take k ranges) ++ range_piece head k (get_or ranges k d).values
ranges_more head ranges k d inside =
    let range : NdArray = get_or ranges k d in
    ap (ranges_from head 0) (take_more ranges k d inside) ∙ ranges_on head 0 (take k ranges) (range ∷ [])
    ∙ ap (λ m. ranges_from head 0 (take k ranges) ++ (range_piece head m range.values ++ [])) (zero-add (length (take k ranges)) ∙ length-take-le k ranges (omega (arith, inside)))
    ∙ ap (λ text. ranges_from head 0 (take k ranges) ++ text) (append-nil (range_piece head k range.values))

-- ranges, cut in two
pub ranges_cut : (head : RangeHead) (ranges : List NdArray) (k : ℕ) → k ≤ length ranges
    → ranges_from head 0 (take k ranges) ++ ranges_from head k (drop k ranges) ≡ ranges_from head 0 ranges
ranges_cut head ranges k inside =
    ap (λ m. ranges_from head 0 (take k ranges) ++ ranges_from head m (drop k ranges)) (sym (zero-add (length (take k ranges)) ∙ length-take-le k ranges inside))
    ∙ sym (ranges_on head 0 (take k ranges) (drop k ranges)) ∙ ap (ranges_from head 0) (take-append-drop k ranges)

-- one coverage more
pub coverages_more : (coverages : List Coverage) (k : ℕ) (d : Coverage) → k < length coverages
    → coverages_from 0 (take (k + 1) coverages) ≡ coverages_from 0 (take k coverages) ++ coverage_piece k (get_or coverages k d)
coverages_more coverages k d inside =
    let coverage : Coverage = get_or coverages k d in
    ap (coverages_from 0) (take_more coverages k d inside) ∙ coverages_on 0 (take k coverages) (coverage ∷ [])
    ∙ ap (λ m. coverages_from 0 (take k coverages) ++ (coverage_piece m coverage ++ [])) (zero-add (length (take k coverages)) ∙ length-take-le k coverages (omega (arith, inside)))
    ∙ ap (λ text. coverages_from 0 (take k coverages) ++ text) (append-nil (coverage_piece k coverage))

-- coverages, cut in two
pub coverages_cut : (coverages : List Coverage) (k : ℕ) → k ≤ length coverages
    → coverages_from 0 (take k coverages) ++ coverages_from k (drop k coverages) ≡ coverages_from 0 coverages
coverages_cut coverages k inside =
    ap (λ m. coverages_from 0 (take k coverages) ++ coverages_from m (drop k coverages)) (sym (zero-add (length (take k coverages)) ∙ length-take-le k coverages inside))
    ∙ sym (coverages_on 0 (take k coverages) (drop k coverages)) ∙ ap (coverages_from 0) (take-append-drop k coverages)

-- ---- ranges

-- the items of a list of values, with the closing bracket
values_items : (n : ℕ) (values : List (Option ℤ)) → items_text (is_later n) (items_of (map sample_data values)) ≡ values_from n values ++ codes "]"
values_items n [] = refl
values_items n (value ∷ values) =
    ap (λ text. comma_if (is_later n) ++ (compact_text (sample_data value) ++ text)) (values_items (suc n) values)
    ∙ sym (append_assoc (comma_if (is_later n)) (compact_text (sample_data value)) (values_from (suc n) values ++ codes "]"))
    ∙ sym (append_assoc (value_piece n value) (values_from (suc n) values) (codes "]"))

-- an NdArray object's text, where it has no axes and where it has some
abbrev array_data : List AxisLength → List (Option ℤ) → Data
array_data axes values =
    object (member_if (codes "axisNames") (array_if_some (map name_data axes))
    (member (codes "dataType") (string (codes "integer"))
    (member_if (codes "shape") (array_if_some (map length_data axes))
    (member (codes "type") (string (codes "NdArray"))
    (member (codes "values") (array_of sample_data values) no_members)))))

-- the text behind the shape
abbrev before_values : List ℕ
before_values = codes ",\"type\":\"NdArray\",\"values\":["

axes_apart : (names shape rest : List ℕ) → codes "{\"axisNames\":" ++ (names ++ (codes ",\"dataType\":\"integer\",\"shape\":" ++ (shape ++ (before_values ++ rest))))
    ≡ (codes "{" ++ ((codes "\"axisNames\":" ++ (names ++ codes ",")) ++ (codes "\"dataType\":\"integer\"" ++ ((codes ",\"shape\":" ++ (shape ++ [])) ++ before_values)))) ++ rest
axes_apart names shape rest =
    let behind : List ℕ = codes "\"dataType\":\"integer\"" ++ ((codes ",\"shape\":" ++ (shape ++ [])) ++ before_values) in
    sym (ap (λ text. codes "{\"axisNames\":" ++ text)
    (append_assoc (names ++ codes ",") behind rest ∙ append_assoc names (codes ",") (behind ++ rest)
    ∙ ap (λ text. names ++ (codes ",\"dataType\":\"integer\",\"shape\":" ++ text)) (ap (λ text. (text ++ before_values) ++ rest) (append-nil shape) ∙ append_assoc shape before_values rest)))

values_end : (values : List (Option ℤ)) → items_text false (items_of (map sample_data values)) ++ codes "}" ≡ values_from 0 values ++ codes "]}"
values_end values = ap (λ text. text ++ codes "}") (values_items 0 values) ∙ append_assoc (values_from 0 values) (codes "]") (codes "}")

array_parts : (axes : List AxisLength) (values : List (Option ℤ)) → compact_text (array_data axes values) ≡ array_begin axes ++ (values_from 0 values ++ codes "]}")
unfolding json_on_literals
array_parts [] values = ap (λ text. codes "{\"dataType\":\"integer\",\"type\":\"NdArray\",\"values\":[" ++ text) (values_end values)
array_parts (axis ∷ axes) values =
    let names : List ℕ = compact_text (array_of name_data (axis ∷ axes)) in
    let shape : List ℕ = compact_text (array_of length_data (axis ∷ axes)) in
    ap (λ text. codes "{\"axisNames\":" ++ (names ++ (codes ",\"dataType\":\"integer\",\"shape\":" ++ (shape ++ (before_values ++ text))))) (values_end values)
    ∙ axes_apart names shape (values_from 0 values ++ codes "]}")

-- the text of a range: its beginning, its values and its end
range_parts : (domain : Domain) (range : NdArray) → compact_text (range_data domain range) ≡ array_begin (range_axes domain) ++ (values_from 0 range.values ++ codes "]}")
range_parts domain range = array_parts (range_axes domain) range.values

-- a range's member and what follows: its comma, key, opening, values and end
member_apart : (comma key opening values more rest : List ℕ)
    → (comma ++ (key ++ 58 ∷ ((opening ++ (values ++ codes "]}")) ++ more))) ++ rest ≡ (comma ++ (key ++ (58 ∷ opening))) ++ (values ++ (codes "]}" ++ (more ++ rest)))
member_apart comma key opening values more rest =
    let whole : List ℕ = opening ++ (values ++ codes "]}") in
    append_assoc comma (key ++ 58 ∷ (whole ++ more)) rest
    ∙ ap (λ text. comma ++ text) (append_assoc key (58 ∷ (whole ++ more)) rest
    ∙ ap (λ text. key ++ 58 ∷ text) (append_assoc whole more rest ∙ append_assoc opening (values ++ codes "]}") (more ++ rest)
    ∙ ap (λ text. opening ++ text) (append_assoc values (codes "]}") (more ++ rest)))
    ∙ sym (append_assoc key (58 ∷ opening) (values ++ (codes "]}" ++ (more ++ rest)))))
    ∙ sym (append_assoc comma (key ++ (58 ∷ opening)) (values ++ (codes "]}" ++ (more ++ rest))))

-- the first key that is left
key_at : (keys : List (List ℕ)) (n : ℕ) (key : List ℕ) (others : List (List ℕ)) → drop n keys ≡ key ∷ others → get_or keys n [] ≡ key
key_at keys n key others left = ap (λ k. get_or keys k []) (sym (add-zero n)) ∙ sym (get_or-drop n keys 0 []) ∙ ap (λ rest. get_or rest 0 []) left

keys_next : (keys : List (List ℕ)) (n : ℕ) (key : List ℕ) (others : List (List ℕ)) → drop n keys ≡ key ∷ others → drop (suc n) keys ≡ others
keys_next keys n key others left = ap (λ k. drop k keys) (suc-eq-add-one n) ∙ sym (drop-drop 1 n keys) ∙ ap (drop 1) left

last_key : (keys : List (List ℕ)) (n : ℕ) (key : List ℕ) → drop n keys ≡ key ∷ [] → (suc n == length keys) ≡ true
last_key keys n key left =
    let count : length keys - n ≡ 1 = sym (length-drop n keys) ∙ ap length left in
    eq-eqb (suc n) (length keys) (omega (arith, count))

no_last_key : (keys : List (List ℕ)) (n : ℕ) (key other : List ℕ) (others : List (List ℕ)) → drop n keys ≡ key ∷ other ∷ others → (suc n == length keys) ≡ false
no_last_key keys n key other others left =
    let count : length keys - n ≡ suc (suc (length others)) = sym (length-drop n keys) ∙ ap length left in
    ne_eqb (suc n) (length keys) (omega (arith, count))

-- a range's piece, by what its head has
piece_is : (head : RangeHead) (n : ℕ) (values : List (Option ℤ)) (key opening : List ℕ) (last : Bool)
    → get_or head.keys n [] ≡ key → head.opening ≡ opening → (suc n == length head.keys) ≡ last
    → range_piece head n values ≡ (comma n ++ (key ++ opening)) ++ (values_from 0 values ++ (codes "]}" ++ (if last then coverage_end else [])))
piece_is head n values key opening last key_is opening_is last_is =
    ap (λ text. (comma n ++ (text ++ head.opening)) ++ (values_from 0 values ++ range_end head n)) key_is
    ∙ ap (λ text. (comma n ++ (key ++ text)) ++ (values_from 0 values ++ range_end head n)) opening_is
    ∙ ap (λ b. (comma n ++ (key ++ opening)) ++ (values_from 0 values ++ (codes "]}" ++ (if b then coverage_end else [])))) last_is

abbrev coverage_type : List ℕ
coverage_type = codes ",\"type\":\"Coverage\"}"

-- the members that are ranges from one on, with what ends the coverage
ranges_members : (domain : Domain) (head : RangeHead) (n : ℕ) (ids : List (List ℕ)) (ranges : List NdArray)
    → head.opening ≡ codes ":" ++ array_begin (range_axes domain) → drop n head.keys ≡ map quoted ids → length ranges ≡ length ids → 0 < length ids
    → members_text (is_later n) (members_in_order (zip ids (map (range_data domain) ranges))) ++ coverage_type ≡ ranges_from head n ranges
ranges_members domain head n [] ranges opening left same some = absurd (omega (arith, some))
ranges_members domain head n (id ∷ ids) [] opening left same some = absurd (omega (arith, same))
ranges_members domain head n (id ∷ []) (range ∷ []) opening left same some =
    ap (λ text. (comma n ++ (quoted id ++ 58 ∷ (text ++ codes "}"))) ++ coverage_type) (range_parts domain range)
    ∙ member_apart (comma n) (quoted id) (array_begin (range_axes domain)) (values_from 0 range.values) (codes "}") coverage_type
    ∙ sym (piece_is head n range.values (quoted id) (58 ∷ array_begin (range_axes domain)) true (key_at head.keys n (quoted id) [] left) opening (last_key head.keys n (quoted id) left))
    ∙ sym (append-nil (range_piece head n range.values))
ranges_members domain head n (id ∷ []) (range ∷ other ∷ ranges) opening left same some = absurd (omega (arith, same))
ranges_members domain head n (id ∷ next_id ∷ ids) (range ∷ []) opening left same some = absurd (omega (arith, same))
ranges_members domain head n (id ∷ next_id ∷ ids) (range ∷ other ∷ ranges) opening left same some =
    let others : List ℕ = members_text true (members_in_order (zip (next_id ∷ ids) (map (range_data domain) (other ∷ ranges)))) in
    let begin : List ℕ = comma n ++ (quoted id ++ 58 ∷ array_begin (range_axes domain)) in
    let values : List ℕ = values_from 0 range.values in
    let rest : List ℕ = ranges_from head (suc n) (other ∷ ranges) in
    ap (λ text. (comma n ++ (quoted id ++ 58 ∷ (text ++ others))) ++ coverage_type) (range_parts domain range)
    ∙ member_apart (comma n) (quoted id) (array_begin (range_axes domain)) values others coverage_type
    ∙ ap (λ text. begin ++ (values ++ (codes "]}" ++ text)))
    (ranges_members domain head (suc n) (next_id ∷ ids) (other ∷ ranges) opening (keys_next head.keys n (quoted id) (map quoted (next_id ∷ ids)) left) (omega (arith, same)) (omega arith))
    ∙ sym (append_assoc begin (values ++ codes "]}") rest ∙ ap (λ text. begin ++ text) (append_assoc values (codes "]}") rest))
    ∙ ap (λ text. text ++ rest)
    (sym (piece_is head n range.values (quoted id) (58 ∷ array_begin (range_axes domain)) false (key_at head.keys n (quoted id) (map quoted (next_id ∷ ids)) left) opening
    (no_last_key head.keys n (quoted id) (quoted next_id) (map quoted ids) left)))

-- ---- coverages

abbrev before_parameters : List ℕ
before_parameters = codes ",\"parameters\":"

abbrev before_ranges : List ℕ
before_ranges = codes ",\"ranges\":{"

without_id : (domain parameters ranges : List ℕ)
    → codes "{\"domain\":" ++ (domain ++ (before_parameters ++ (parameters ++ (before_ranges ++ ranges)))) ≡ (codes "{\"domain\":" ++ (domain ++ (before_parameters ++ (parameters ++ before_ranges)))) ++ ranges
without_id domain parameters ranges =
    sym (ap (λ text. codes "{\"domain\":" ++ text) (append_assoc domain (before_parameters ++ (parameters ++ before_ranges)) ranges
    ∙ ap (λ text. domain ++ (before_parameters ++ text)) (append_assoc parameters before_ranges ranges)))

with_id : (domain id parameters ranges : List ℕ)
    → codes "{\"domain\":" ++ (domain ++ (codes ",\"id\":" ++ (id ++ (before_parameters ++ (parameters ++ (before_ranges ++ ranges))))))
    ≡ (codes "{\"domain\":" ++ (domain ++ ((codes ",\"id\":" ++ id) ++ (before_parameters ++ (parameters ++ before_ranges))))) ++ ranges
with_id domain id parameters ranges =
    let behind : List ℕ = before_parameters ++ (parameters ++ before_ranges) in
    sym (ap (λ text. codes "{\"domain\":" ++ text) (append_assoc domain ((codes ",\"id\":" ++ id) ++ behind) ranges
    ∙ ap (λ text. domain ++ (codes ",\"id\":" ++ text)) (append_assoc id behind ranges
    ∙ ap (λ text. id ++ (before_parameters ++ text)) (append_assoc parameters before_ranges ranges))))

-- a coverage's text: its members before the ranges, and those
object_parts : (id : Option (List ℕ)) (domain parameters : Data) (ranges : Members)
    → compact_text (coverage_object domain (option_map string id) parameters (object ranges))
    ≡ (codes "{\"domain\":" ++ (compact_text domain ++ (id_text id ++ (codes ",\"parameters\":" ++ (compact_text parameters ++ codes ",\"ranges\":{"))))) ++ (members_text false ranges ++ coverage_type)
unfolding json_on_literals
object_parts None domain parameters ranges = without_id (compact_text domain) (compact_text parameters) (members_text false ranges ++ coverage_type)
object_parts (Some id) domain parameters ranges = with_id (compact_text domain) (quoted id) (compact_text parameters) (members_text false ranges ++ coverage_type)

pub coverage_parts : CoverageOfPieces
coverage_parts coverage valid =
    let same : length (ids_of coverage.parameters) ≡ length coverage.parameters = length-map coverage.parameters (λ (p : Parameter). p.id) in
    object_parts coverage.id (domain_data coverage.domain coverage.referencing) (parameters_data coverage.parameters) (members_in_order (named_ranges coverage.domain coverage.parameters coverage.ranges))
    ∙ ap (λ text. coverage_begin coverage ++ text)
    (ranges_members coverage.domain (head_of coverage) 0 (ids_of coverage.parameters) coverage.ranges refl refl (valid.as_many ∙ sym same) (omega (arith, same, valid.some)))

-- ---- documents

-- the items of a list of coverages, with the closing bracket
coverages_items : (n : ℕ) (coverages : List Coverage) → All IsValid coverages → items_text (is_later n) (items_of (map coverage_data coverages)) ≡ coverages_from n coverages ++ codes "]"
coverages_items n [] valid = refl
coverages_items n (coverage ∷ coverages) valid =
    let whole : List ℕ = coverage_begin coverage ++ ranges_from (head_of coverage) 0 coverage.ranges in
    ap (λ text. comma n ++ (text ++ items_text true (items_of (map coverage_data coverages)))) (coverage_parts coverage (All-head IsValid coverage coverages valid))
    ∙ ap (λ text. comma n ++ (whole ++ text)) (coverages_items (suc n) coverages (All-tail IsValid coverage coverages valid))
    ∙ sym (append_assoc (comma n) whole (coverages_from (suc n) coverages ++ codes "]"))
    ∙ sym (append_assoc (coverage_piece n coverage) (coverages_from (suc n) coverages) (codes "]"))

abbrev collection_type : List ℕ
collection_type = codes ",\"type\":\"CoverageCollection\"}"

collection_parts : (coverages : Items) → compact_text (collection_data (array coverages)) ≡ codes "{\"coverages\":[" ++ (items_text false coverages ++ collection_type)
unfolding json_on_literals
collection_parts coverages = refl

pub document_parts : DocumentOfPieces
document_parts (One coverage) valid = coverage_parts coverage valid ∙ sym (append-nil (coverage_piece 0 coverage)) ∙ sym (append-nil (coverages_from 0 (coverage ∷ [])))
document_parts (Many coverages) valid =
    collection_parts (items_of (map coverage_data coverages))
    ∙ ap (λ text. codes "{\"coverages\":[" ++ (text ++ collection_type)) (coverages_items 0 coverages valid)
    ∙ ap (λ text. codes "{\"coverages\":[" ++ text) (append_assoc (coverages_from 0 coverages) (codes "]") collection_type)
