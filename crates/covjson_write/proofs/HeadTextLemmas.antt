-- The texts of a head's parts, put behind one another.
use Rattle.std.proofs.Common.{◌≡◌, ◌≢◌, ℕ, suc, ◌+◌, ◌-◌, ◌/◌, ◌%◌, ◌<◌, ◌≤◌, nat_lt, ℤ, pos, negsuc, Bool, true, false, List, [], ◌∷◌, ◌++◌, length, map, take, get_or, Option, Some, None, option_map, codes, decimal, refl, sym, ap, ◌∙◌, append_assoc, append-nil, arith}
use Rattle.std.specs.Prelude.{◌||◌, is_some}
use Rattle.std.specs.Fmt.{signed_decimal}
use Rattle.std.proofs.lemmas.Bool.{lt-ltb}
use Rattle.std.proofs.lemmas.Bool.Decides.{nat_tests}
use Rattle.std.proofs.lemmas.Grind.{flat_map-append}
use Rattle.std.proofs.lemmas.List.{take_all, take_more, map-append, length-map, length-take-le}
use Rattle.json.specs.Token.{string}
use Rattle.json.specs.Print.{escape, escape_byte, quoted, print}
use Rattle.json.proofs.OnLiterals.{json_on_literals}
use Rattle.serde_json.specs.Data.{Data, Members, item, no_items, array}
use Rattle.serde_json.specs.View.{items_of}
use Rattle.serde_json.specs.Written.{compact_text, comma_if, items_text, members_text}
use Rattle.edr_base.specs.declared.places.Position.{Position}
use Rattle.edr_axes.specs.Axes.{value_at}
use Rattle.edr_axes.specs.Instants.{Civil, IsDay, IsCivil, pad2, civil_text, IsWritten}
use Rattle.covjson_value.specs.declared.domains.CoordinateName.{CoordinateName}
use Rattle.covjson_value.specs.declared.domains.CoordinateName.TheVariants.{T, Z, Y, X}
use Rattle.covjson_value.specs.declared.axis_names.AxisName.TheVariants.{Composite}
use Rattle.covjson_value.specs.declared.domains.Domain.{Domain}
use Rattle.covjson_value.specs.declared.domains.Domain.TheVariants.{Grid, Point, PointSeries, VerticalProfile, MultiPoint, Trajectory}
use Rattle.covjson_value.specs.declared.coverages.Parameter.{Parameter}
use Rattle.covjson_value.specs.declared.coverages.Referencing.{Referencing}
use Rattle.covjson_value.specs.AxisNames.{axis_key, axis_name}
use Rattle.covjson_value.specs.Domains.{AxisLength, axis_of, tuples_of, coordinates_of, has_axis, has_coordinate, axis_before, composite_alone, range_axis_of, range_tuples_of, range_axes}
use Rattle.covjson_value.specs.Trees.{member_if, item_if, array_of, integer, axis_value_data, list_data, span_data, axis_data, keys_data, tuple_data, composite_data, axes_data, text_if_some, horizontal_data, vertical_data, temporal_data, referencing_data, domain_type, domain_data, parameter_data, named_parameter, parameters_data, members_in_order}
use Rattle.covjson_write.specs.Pieces.{list_text}
use Rattle.covjson_write.specs.HeadTexts.{with_commas, member_text, name_member, later_if, unit_member, keyed_parameter, item_before, item_text, end_if}

-- ---- texts put behind one another are what they are together

put_one : (start new a whole : List ℕ) → new ≡ start ++ a → whole ≡ a → new ≡ start ++ whole
put_one start new a whole p h = p ∙ ap (λ t. start ++ t) (sym h)

pub put_two : (start one new a b whole : List ℕ) → one ≡ start ++ a → new ≡ one ++ b → whole ≡ a ++ b → new ≡ start ++ whole
put_two start one new a b whole p1 p2 h = put_one start new (a ++ b) whole (p2 ∙ ap (λ t. t ++ b) p1 ∙ append_assoc start a b) h

pub put_three : (start one two new a b c whole : List ℕ) → one ≡ start ++ a → two ≡ one ++ b → new ≡ two ++ c → whole ≡ a ++ (b ++ c) → new ≡ start ++ whole
put_three start one two new a b c whole p1 p2 p3 h = put_two start one new a (b ++ c) whole p1 (p3 ∙ ap (λ t. t ++ c) p2 ∙ append_assoc one b c) h

pub put_four : (start one two three new a b c d whole : List ℕ) → one ≡ start ++ a → two ≡ one ++ b → three ≡ two ++ c → new ≡ three ++ d → whole ≡ a ++ (b ++ (c ++ d)) → new ≡ start ++ whole
put_four start one two three new a b c d whole p1 p2 p3 p4 h = put_three start one two new a b (c ++ d) whole p1 p2 (p4 ∙ ap (λ t. t ++ d) p3 ∙ append_assoc two c d) h

pub put_five : (start one two three four new a b c d e whole : List ℕ) → one ≡ start ++ a → two ≡ one ++ b → three ≡ two ++ c → four ≡ three ++ d → new ≡ four ++ e → whole ≡ a ++ (b ++ (c ++ (d ++ e))) → new ≡ start ++ whole
put_five start one two three four new a b c d e whole p1 p2 p3 p4 p5 h = put_four start one two three new a b c (d ++ e) whole p1 p2 p3 (p5 ∙ ap (λ t. t ++ e) p4 ∙ append_assoc three d e) h

pub put_six : (start one two three four five new a b c d e f whole : List ℕ) → one ≡ start ++ a → two ≡ one ++ b → three ≡ two ++ c → four ≡ three ++ d → five ≡ four ++ e → new ≡ five ++ f → whole ≡ a ++ (b ++ (c ++ (d ++ (e ++ f)))) → new ≡ start ++ whole
put_six start one two three four five new a b c d e f whole p1 p2 p3 p4 p5 p6 h = put_five start one two three four new a b c d (e ++ f) whole p1 p2 p3 p4 (p6 ∙ ap (λ t. t ++ f) p5 ∙ append_assoc four e f) h

pub put_seven : (start one two three four five six new a b c d e f g whole : List ℕ) → one ≡ start ++ a → two ≡ one ++ b → three ≡ two ++ c → four ≡ three ++ d → five ≡ four ++ e → six ≡ five ++ f → new ≡ six ++ g → whole ≡ a ++ (b ++ (c ++ (d ++ (e ++ (f ++ g))))) → new ≡ start ++ whole
put_seven start one two three four five six new a b c d e f g whole p1 p2 p3 p4 p5 p6 p7 h = put_six start one two three four five new a b c d e (f ++ g) whole p1 p2 p3 p4 p5 (p7 ∙ ap (λ t. t ++ g) p6 ∙ append_assoc five f g) h

-- ---- lists

or_right : (b c : Bool) → c ≡ true → (b || c) ≡ true
or_right false c h = h
or_right true c h = refl

commas_on : (later : Bool) (texts : List (List ℕ)) (text : List ℕ) → with_commas later (texts ++ text ∷ []) ≡ with_commas later texts ++ (comma_if (later || nat_lt 0 (length texts)) ++ text)
commas_on false [] text = ap (λ t. comma_if false ++ t) (append-nil text)
commas_on true [] text = ap (λ t. comma_if true ++ t) (append-nil text)
commas_on later (first ∷ texts) text =
    let before : List ℕ = comma_if later ++ (first ++ with_commas true texts) in
    ap (λ t. comma_if later ++ (first ++ t)) (commas_on true texts text)
    ∙ sym (append_assoc (comma_if later) (first ++ with_commas true texts) (44 ∷ text) ∙ ap (λ t. comma_if later ++ t) (append_assoc first (with_commas true texts) (44 ∷ text)))
    ∙ ap (λ b. before ++ (comma_if b ++ text)) (sym (or_right later (nat_lt 0 (suc (length texts))) (lt-ltb 0 (suc (length texts)) (omega arith))))

-- one item more
pub commas_more : {W : Type 0} (text_of : W → List ℕ) (values : List W) (k : ℕ) (d : W) → k < length values
    → with_commas false (map text_of (take (k + 1) values)) ≡ with_commas false (map text_of (take k values)) ++ (comma_if (nat_lt 0 k) ++ text_of (get_or values k d))
commas_more text_of values k d inside =
    let before = map text_of (take k values) in
    let count : length before ≡ k = length-map (take k values) text_of ∙ length-take-le k values (omega (arith, inside)) in
    ap (λ vs. with_commas false (map text_of vs)) (take_more values k d inside)
    ∙ ap (with_commas false) (map-append text_of (take k values) (get_or values k d ∷ []))
    ∙ commas_on false before (text_of (get_or values k d))
    ∙ ap (λ n. with_commas false before ++ (comma_if (nat_lt 0 n) ++ text_of (get_or values k d))) count

-- an item and its comma are put behind those before it
pub item_put : {W : Type 0} (text_of : W → List ℕ) (values : List W) (k : ℕ) (d : W) (start old mid new : List ℕ) → k < length values
    → old ≡ start ++ with_commas false (map text_of (take k values)) → mid ≡ old ++ comma_if (nat_lt 0 k) → new ≡ mid ++ text_of (get_or values k d)
    → new ≡ start ++ with_commas false (map text_of (take (k + 1) values))
item_put text_of values k d start old mid new inside old_is mid_is new_is =
    let before : List ℕ = with_commas false (map text_of (take k values)) in
    let text : List ℕ = text_of (get_or values k d) in
    new_is ∙ ap (λ t. t ++ text) (mid_is ∙ ap (λ t. t ++ comma_if (nat_lt 0 k)) old_is)
    ∙ append_assoc (start ++ before) (comma_if (nat_lt 0 k)) text ∙ append_assoc start before (comma_if (nat_lt 0 k) ++ text)
    ∙ ap (λ t. start ++ t) (sym (commas_more text_of values k d inside))

items_are : {W : Type 0} (data_of : W → Data) (later : Bool) (values : List W)
    → items_text later (items_of (map data_of values)) ≡ with_commas later (map (λ v. compact_text (data_of v)) values) ++ codes "]"
items_are data_of later [] = refl
items_are data_of later (value ∷ values) =
    let text : List ℕ = compact_text (data_of value) in
    let rest : List ℕ = with_commas true (map (λ v. compact_text (data_of v)) values) in
    ap (λ t. comma_if later ++ (text ++ t)) (items_are data_of true values)
    ∙ sym (append_assoc (comma_if later) (text ++ rest) (codes "]") ∙ ap (λ t. comma_if later ++ t) (append_assoc text rest (codes "]")))

-- all items were put between brackets
pub list_put : {W : Type 0} (data_of : W → Data) (values : List W) (k : ℕ) (start old new : List ℕ) → length values ≤ k
    → old ≡ (start ++ codes "[") ++ with_commas false (map (λ v. compact_text (data_of v)) (take k values)) → new ≡ old ++ codes "]" → new ≡ start ++ compact_text (array_of data_of values)
list_put {W = W} data_of values k start old new past old_is new_is =
    let texts : List W → List ℕ = λ vs. with_commas false (map (λ v. compact_text (data_of v)) vs) in
    new_is ∙ ap (λ t. t ++ codes "]") (old_is ∙ ap (λ vs. (start ++ codes "[") ++ texts vs) (take_all k values past))
    ∙ append_assoc (start ++ codes "[") (texts values) (codes "]") ∙ append_assoc start (codes "[") (texts values ++ codes "]")
    ∙ ap (λ t. start ++ 91 ∷ t) (sym (items_are data_of false values))

-- and other text before and behind these
between_put : {W : Type 0} (data_of : W → Data) (values : List W) (k : ℕ) (start before behind old new : List ℕ) → length values ≤ k
    → old ≡ (start ++ (before ++ codes "[")) ++ with_commas false (map (λ v. compact_text (data_of v)) (take k values)) → new ≡ old ++ (codes "]" ++ behind)
    → new ≡ start ++ (before ++ (compact_text (array_of data_of values) ++ behind))
between_put {W = W} data_of values k start before behind old new past old_is new_is =
    let texts : List W → List ℕ = λ vs. with_commas false (map (λ v. compact_text (data_of v)) vs) in
    new_is ∙ ap (λ t. t ++ (codes "]" ++ behind)) (old_is ∙ ap (λ vs. (start ++ (before ++ codes "[")) ++ texts vs) (take_all k values past))
    ∙ append_assoc (start ++ (before ++ codes "[")) (texts values) (codes "]" ++ behind) ∙ append_assoc start (before ++ codes "[") (texts values ++ (codes "]" ++ behind))
    ∙ ap (λ t. start ++ t) (append_assoc before (codes "[") (texts values ++ (codes "]" ++ behind))
    ∙ ap (λ t. before ++ 91 ∷ t) (sym (append_assoc (texts values) (codes "]") behind) ∙ ap (λ t. t ++ behind) (sym (items_are data_of false values))))

members_are : (later : Bool) (parameters : List Parameter)
    → members_text later (members_in_order (map named_parameter parameters)) ≡ with_commas later (map keyed_parameter parameters) ++ codes "}"
members_are later [] = refl
members_are later (parameter ∷ parameters) =
    let text : List ℕ = compact_text (parameter_data parameter) in
    let rest : List ℕ = with_commas true (map keyed_parameter parameters) in
    ap (λ t. comma_if later ++ (quoted parameter.id ++ 58 ∷ (text ++ t))) (members_are true parameters)
    ∙ sym (append_assoc (comma_if later) (keyed_parameter parameter ++ rest) (codes "}")
    ∙ ap (λ t. comma_if later ++ t) (append_assoc (keyed_parameter parameter) rest (codes "}") ∙ append_assoc (quoted parameter.id) (58 ∷ text) (rest ++ codes "}")))

-- all parameters were put between braces
pub parameters_put : (parameters : List Parameter) (k : ℕ) (start old new : List ℕ) → length parameters ≤ k
    → old ≡ (start ++ codes "{") ++ with_commas false (map keyed_parameter (take k parameters)) → new ≡ old ++ codes "}" → new ≡ start ++ compact_text (parameters_data parameters)
parameters_put parameters k start old new past old_is new_is =
    let texts : List Parameter → List ℕ = λ ps. with_commas false (map keyed_parameter ps) in
    new_is ∙ ap (λ t. t ++ codes "}") (old_is ∙ ap (λ ps. (start ++ codes "{") ++ texts ps) (take_all k parameters past))
    ∙ append_assoc (start ++ codes "{") (texts parameters) (codes "}") ∙ append_assoc start (codes "{") (texts parameters ++ codes "}")
    ∙ ap (λ t. start ++ 123 ∷ t) (sym (members_are false parameters))

-- ---- axes

pub span_text : (values : List ℤ) → compact_text (span_data values)
    ≡ codes "{\"num\":" ++ (decimal (length values) ++ (codes ",\"start\":" ++ (compact_text (integer (value_at values 0)) ++ (codes ",\"stop\":" ++ (compact_text (integer (value_at values (length values - 1))) ++ codes "}")))))
unfolding json_on_literals
span_text values = refl

pub list_parts : (name : CoordinateName) (values : List ℤ) → compact_text (list_data name values) ≡ codes "{\"values\":" ++ (compact_text (array_of (axis_value_data name) values) ++ codes "}")
unfolding json_on_literals
list_parts name values = refl

composite_text : (names : List CoordinateName) (tuples : List Position) → member_text false (axis_key Composite) (Some (composite_data names tuples))
    ≡ codes "\"composite\":{\"coordinates\":" ++ (compact_text (keys_data names) ++ (codes ",\"dataType\":\"tuple\",\"values\":" ++ (compact_text (array_of (tuple_data names) tuples) ++ codes "}")))
unfolding json_on_literals
composite_text names tuples = refl

pub span_put : (values : List ℤ) (start one two three four five six new : List ℕ)
    → one ≡ start ++ codes "{\"num\":" → two ≡ one ++ decimal (length values) → three ≡ two ++ codes ",\"start\":" → four ≡ three ++ compact_text (integer (value_at values 0))
    → five ≡ four ++ codes ",\"stop\":" → six ≡ five ++ compact_text (integer (value_at values (length values - 1))) → new ≡ six ++ codes "}" → new ≡ start ++ compact_text (span_data values)
span_put values start one two three four five six new p1 p2 p3 p4 p5 p6 p7 =
    put_seven start one two three four five six new _ _ _ _ _ _ _ _ p1 p2 p3 p4 p5 p6 p7 (span_text values)

pub list_axis_put : (name : CoordinateName) (values : List ℤ) (k : ℕ) (start old new : List ℕ) → length values ≤ k
    → old ≡ (start ++ codes "{\"values\":[") ++ with_commas false (map (λ v. compact_text (axis_value_data name v)) (take k values)) → new ≡ old ++ codes "]}"
    → new ≡ start ++ compact_text (list_data name values)
list_axis_put name values k start old new past old_is new_is =
    between_put (axis_value_data name) values k start (codes "{\"values\":") (codes "}") old new past old_is new_is ∙ ap (λ t. start ++ t) (sym (list_parts name values))

-- a member was put
pub member_put : (later : Bool) (key : List ℕ) (d : Data) (start one two three new : List ℕ)
    → one ≡ start ++ comma_if later → two ≡ one ++ quoted key → three ≡ two ++ codes ":" → new ≡ three ++ compact_text d → new ≡ start ++ member_text later key (Some d)
member_put later key d start one two three new p1 p2 p3 p4 =
    put_four start one two three new (comma_if later) (quoted key) (codes ":") (compact_text d) (member_text later key (Some d)) p1 p2 p3 p4 refl

-- the composite axis was put, which the domain has
pub composite_put : (domain : Domain) (names : List CoordinateName) (tuples : List Position) (start one two three four new : List ℕ) → Some tuples ≡ tuples_of domain → names ≡ coordinates_of domain
    → one ≡ start ++ codes "\"composite\":{\"coordinates\":" → two ≡ one ++ compact_text (keys_data names) → three ≡ two ++ codes ",\"dataType\":\"tuple\",\"values\":"
    → four ≡ three ++ compact_text (array_of (tuple_data names) tuples) → new ≡ four ++ codes "}"
    → new ≡ start ++ member_text false (axis_key Composite) (option_map (composite_data (coordinates_of domain)) (tuples_of domain))
composite_put domain names tuples start one two three four new given named p1 p2 p3 p4 p5 =
    put_five start one two three four new _ _ _ _ _ _ p1 p2 p3 p4 p5 (composite_text names tuples)
    ∙ ap (λ ns. start ++ member_text false (axis_key Composite) (Some (composite_data ns tuples))) named
    ∙ ap (λ o. start ++ member_text false (axis_key Composite) (option_map (composite_data (coordinates_of domain)) o)) given

-- a member that may be left out, before others
axis_before_others : {W : Type 0} (later : Bool) (key : List ℕ) (data_of : W → Data) (given : Option W) (rest : Members)
    → members_text later (member_if key (option_map data_of given) rest) ≡ member_text later key (option_map data_of given) ++ members_text (later || is_some given) rest
axis_before_others false key data_of None rest = refl
axis_before_others true key data_of None rest = refl
axis_before_others false key data_of (Some value) rest = sym (append_assoc (quoted key) (58 ∷ compact_text (data_of value)) (members_text true rest))
axis_before_others true key data_of (Some value) rest = ap (λ t. 44 ∷ t) (sym (append_assoc (quoted key) (58 ∷ compact_text (data_of value)) (members_text true rest)))

abbrev pub axis_text : Domain → Bool → CoordinateName → List ℕ
axis_text domain later name = member_text later (axis_key (axis_name name)) (option_map (axis_data name) (axis_of domain name))

-- whether members stand before an axis
abbrev before_times : Domain → Bool
before_times domain = is_some (tuples_of domain)

abbrev before_columns : Domain → Bool
before_columns domain = before_times domain || has_axis domain T

abbrev before_rows : Domain → Bool
before_rows domain = before_columns domain || has_axis domain X

abbrev before_levels : Domain → Bool
before_levels domain = before_rows domain || has_axis domain Y

axes_parts : (domain : Domain) → compact_text (axes_data domain)
    ≡ codes "{" ++ (member_text false (axis_key Composite) (option_map (composite_data (coordinates_of domain)) (tuples_of domain))
    ++ (axis_text domain (before_times domain) T ++ (axis_text domain (before_columns domain) X ++ (axis_text domain (before_rows domain) Y ++ (axis_text domain (before_levels domain) Z ++ codes "}")))))
axes_parts domain =
    ap (λ t. 123 ∷ t) (axis_before_others false (axis_key Composite) (composite_data (coordinates_of domain)) (tuples_of domain) _
    ∙ ap (λ t. member_text false (axis_key Composite) (option_map (composite_data (coordinates_of domain)) (tuples_of domain)) ++ t)
    (axis_before_others (before_times domain) (axis_key (axis_name T)) (axis_data T) (axis_of domain T) _
    ∙ ap (λ t. axis_text domain (before_times domain) T ++ t)
    (axis_before_others (before_columns domain) (axis_key (axis_name X)) (axis_data X) (axis_of domain X) _
    ∙ ap (λ t. axis_text domain (before_columns domain) X ++ t)
    (axis_before_others (before_rows domain) (axis_key (axis_name Y)) (axis_data Y) (axis_of domain Y) _
    ∙ ap (λ t. axis_text domain (before_rows domain) Y ++ t)
    (axis_before_others (before_levels domain) (axis_key (axis_name Z)) (axis_data Z) (axis_of domain Z) _)))))

-- all axes were put between braces
pub axes_put : (domain : Domain) (start one two three four five six new : List ℕ) (times columns rows levels : Bool)
    → times ≡ before_times domain → columns ≡ (times || has_axis domain T) → rows ≡ (columns || has_axis domain X) → levels ≡ (rows || has_axis domain Y)
    → one ≡ start ++ codes "{" → two ≡ one ++ member_text false (axis_key Composite) (option_map (composite_data (coordinates_of domain)) (tuples_of domain))
    → three ≡ two ++ axis_text domain times T → four ≡ three ++ axis_text domain columns X → five ≡ four ++ axis_text domain rows Y → six ≡ five ++ axis_text domain levels Z
    → new ≡ six ++ codes "}" → new ≡ start ++ compact_text (axes_data domain)
axes_put domain start one two three four five six new times columns rows levels times_is columns_is rows_is levels_is p1 p2 p3 p4 p5 p6 p7 =
    let columns_are : columns ≡ before_columns domain = columns_is ∙ ap (λ b. b || has_axis domain T) times_is in
    let rows_are : rows ≡ before_rows domain = rows_is ∙ ap (λ b. b || has_axis domain X) columns_are in
    let levels_are : levels ≡ before_levels domain = levels_is ∙ ap (λ b. b || has_axis domain Y) rows_are in
    put_seven start one two three four five six new (codes "{") (member_text false (axis_key Composite) (option_map (composite_data (coordinates_of domain)) (tuples_of domain)))
    (axis_text domain (before_times domain) T) (axis_text domain (before_columns domain) X) (axis_text domain (before_rows domain) Y) (axis_text domain (before_levels domain) Z) (codes "}") (compact_text (axes_data domain))
    p1 p2 (p3 ∙ ap (λ b. two ++ axis_text domain b T) times_is) (p4 ∙ ap (λ b. three ++ axis_text domain b X) columns_are) (p5 ∙ ap (λ b. four ++ axis_text domain b Y) rows_are)
    (p6 ∙ ap (λ b. five ++ axis_text domain b Z) levels_are) p7 (axes_parts domain)

-- ---- numbers

pub integer_text : (value : ℤ) → compact_text (integer value) ≡ signed_decimal value
integer_text (pos n) = refl
integer_text (negsuc n) = refl

-- ---- systems of coordinates

pub horizontal_parts : (crs : List ℕ) → compact_text (horizontal_data crs) ≡ codes "{\"coordinates\":[\"x\",\"y\"],\"system\":{" ++ (name_member (text_if_some crs) ++ codes "\"type\":\"ProjectedCRS\"}}")
unfolding json_on_literals
horizontal_parts [] = refl
horizontal_parts (byte ∷ bytes) =
    ap (λ t. codes "{\"coordinates\":[\"x\",\"y\"],\"system\":{\"id\":" ++ t)
    (append_assoc (quoted (byte ∷ bytes)) (codes ",\"type\":\"ProjectedCRS\"}") (codes "}") ∙ sym (append_assoc (quoted (byte ∷ bytes)) (codes ",") (codes "\"type\":\"ProjectedCRS\"}}")))

pub vertical_parts : (vertical : Option (List ℕ)) → compact_text (vertical_data vertical) ≡ codes "{\"coordinates\":[\"z\"],\"system\":{" ++ (name_member vertical ++ codes "\"type\":\"VerticalCRS\"}}")
unfolding json_on_literals
vertical_parts None = refl
vertical_parts (Some name) =
    ap (λ t. codes "{\"coordinates\":[\"z\"],\"system\":{\"id\":" ++ t)
    (append_assoc (quoted name) (codes ",\"type\":\"VerticalCRS\"}") (codes "}") ∙ sym (append_assoc (quoted name) (codes ",") (codes "\"type\":\"VerticalCRS\"}}")))

pub temporal_parts : compact_text temporal_data ≡ codes "{\"coordinates\":[\"t\"],\"system\":{\"calendar\":\"Gregorian\",\"type\":\"TemporalRS\"}}"
unfolding json_on_literals
temporal_parts = refl

systems_parts : (has_levels has_times : Bool) (horizontal vertical temporal : Data)
    → compact_text (array (item horizontal (item_if has_levels vertical (item_if has_times temporal no_items))))
    ≡ codes "[" ++ (compact_text horizontal ++ (later_if has_levels (compact_text vertical) ++ (later_if has_times (compact_text temporal) ++ codes "]")))
systems_parts false false horizontal vertical temporal = refl
systems_parts false true horizontal vertical temporal = refl
systems_parts true false horizontal vertical temporal = refl
systems_parts true true horizontal vertical temporal = refl

pub referencing_parts : (domain : Domain) (referencing : Referencing) → compact_text (referencing_data domain referencing)
    ≡ codes "[" ++ (compact_text (horizontal_data referencing.crs)
    ++ (later_if (has_coordinate domain Z) (compact_text (vertical_data referencing.vertical)) ++ (later_if (has_coordinate domain T) (compact_text temporal_data) ++ codes "]")))
referencing_parts domain referencing =
    systems_parts (has_coordinate domain Z) (has_coordinate domain T) (horizontal_data referencing.crs) (vertical_data referencing.vertical) temporal_data

pub horizontal_put : (crs start one two new : List ℕ)
    → one ≡ start ++ codes "{\"coordinates\":[\"x\",\"y\"],\"system\":{" → two ≡ one ++ name_member (text_if_some crs) → new ≡ two ++ codes "\"type\":\"ProjectedCRS\"}}"
    → new ≡ start ++ compact_text (horizontal_data crs)
horizontal_put crs start one two new p1 p2 p3 = put_three start one two new _ _ _ _ p1 p2 p3 (horizontal_parts crs)

-- behind another system
pub vertical_put : (vertical : Option (List ℕ)) (start one two new : List ℕ)
    → one ≡ start ++ codes ",{\"coordinates\":[\"z\"],\"system\":{" → two ≡ one ++ name_member vertical → new ≡ two ++ codes "\"type\":\"VerticalCRS\"}}"
    → new ≡ start ++ later_if true (compact_text (vertical_data vertical))
vertical_put vertical start one two new p1 p2 p3 = put_three start one two new _ _ _ _ p1 p2 p3 (ap (λ (t : List ℕ). 44 ∷ t) (vertical_parts vertical))

pub temporal_put : (start : List ℕ) → start ++ codes ",{\"coordinates\":[\"t\"],\"system\":{\"calendar\":\"Gregorian\",\"type\":\"TemporalRS\"}}" ≡ start ++ later_if true (compact_text temporal_data)
temporal_put start = ap (λ (t : List ℕ). start ++ 44 ∷ t) (sym temporal_parts)

pub referencing_put : (domain : Domain) (referencing : Referencing) (start one two three four new : List ℕ)
    → one ≡ start ++ codes "[" → two ≡ one ++ compact_text (horizontal_data referencing.crs) → three ≡ two ++ later_if (has_coordinate domain Z) (compact_text (vertical_data referencing.vertical))
    → four ≡ three ++ later_if (has_coordinate domain T) (compact_text temporal_data) → new ≡ four ++ codes "]" → new ≡ start ++ compact_text (referencing_data domain referencing)
referencing_put domain referencing start one two three four new p1 p2 p3 p4 p5 =
    put_five start one two three four new _ _ _ _ _ _ p1 p2 p3 p4 p5 (referencing_parts domain referencing)

-- ---- domains

pub domain_parts : (domain : Domain) (referencing : Referencing) → compact_text (domain_data domain referencing)
    ≡ codes "{\"axes\":" ++ (compact_text (axes_data domain)
    ++ (codes ",\"domainType\":\"" ++ (domain_type domain ++ (codes "\",\"referencing\":" ++ (compact_text (referencing_data domain referencing) ++ codes ",\"type\":\"Domain\"}")))))
unfolding json_on_literals
domain_parts (Grid t z y x) referencing = refl
domain_parts (Point t z y x) referencing = refl
domain_parts (PointSeries t z y x) referencing = refl
domain_parts (VerticalProfile t z y x) referencing = refl
domain_parts (MultiPoint t has_z spots) referencing = refl
domain_parts (Trajectory z has_z steps) referencing = refl

pub domain_put : (domain : Domain) (referencing : Referencing) (start one two three four five six new : List ℕ)
    → one ≡ start ++ codes "{\"axes\":" → two ≡ one ++ compact_text (axes_data domain) → three ≡ two ++ codes ",\"domainType\":\"" → four ≡ three ++ domain_type domain
    → five ≡ four ++ codes "\",\"referencing\":" → six ≡ five ++ compact_text (referencing_data domain referencing) → new ≡ six ++ codes ",\"type\":\"Domain\"}"
    → new ≡ start ++ compact_text (domain_data domain referencing)
domain_put domain referencing start one two three four five six new p1 p2 p3 p4 p5 p6 p7 =
    put_seven start one two three four five six new _ _ _ _ _ _ _ _ p1 p2 p3 p4 p5 p6 p7 (domain_parts domain referencing)

-- ---- parameters

-- the members behind the observed property
abbrev behind_property : Option (List ℕ) → List ℕ
behind_property unit = codes ",\"type\":\"Parameter\"" ++ (unit_member unit ++ codes "}")

parameter_apart : (id lang label rest : List ℕ) → id ++ 58 ∷ (codes "{\"observedProperty\":{\"label\":{" ++ ((((lang ++ 58 ∷ (label ++ codes "}")) ++ codes "}")) ++ rest))
    ≡ id ++ (codes ":{\"observedProperty\":{\"label\":{" ++ (lang ++ (codes ":" ++ (label ++ (codes "}}" ++ rest)))))
parameter_apart id lang label rest = simp append_assoc

abbrev ParameterParts : Parameter → Type 0
ParameterParts parameter = keyed_parameter parameter
    ≡ quoted parameter.id ++ (codes ":{\"observedProperty\":{\"label\":{" ++ (quoted parameter.lang ++ (codes ":" ++ (quoted parameter.label
    ++ (codes "}},\"type\":\"Parameter\"" ++ (unit_member parameter.unit ++ codes "}"))))))

parameter_of : (id lang label : List ℕ) (unit : Option (List ℕ)) → ParameterParts (record { id = id; lang = lang; label = label; unit = unit })
unfolding json_on_literals
parameter_of id lang label None = parameter_apart (quoted id) (quoted lang) (quoted label) (behind_property None)
parameter_of id lang label (Some unit) = parameter_apart (quoted id) (quoted lang) (quoted label) (behind_property (Some unit))

pub parameter_parts : (parameter : Parameter) → keyed_parameter parameter
    ≡ quoted parameter.id ++ (codes ":{\"observedProperty\":{\"label\":{" ++ (quoted parameter.lang ++ (codes ":" ++ (quoted parameter.label
    ++ (codes "}},\"type\":\"Parameter\"" ++ (unit_member parameter.unit ++ codes "}"))))))
parameter_parts parameter = parameter_of parameter.id parameter.lang parameter.label parameter.unit

pub parameter_put : (parameter : Parameter) (start one two three four five new : List ℕ)
    → one ≡ start ++ quoted parameter.id → two ≡ one ++ (codes ":{\"observedProperty\":{\"label\":{" ++ quoted parameter.lang) → three ≡ two ++ (codes ":" ++ quoted parameter.label)
    → four ≡ three ++ codes "}},\"type\":\"Parameter\"" → five ≡ four ++ unit_member parameter.unit → new ≡ five ++ codes "}" → new ≡ start ++ keyed_parameter parameter
parameter_put parameter start one two three four five new p1 p2 p3 p4 p5 p6 =
    put_six start one two three four five new _ _ _ _ _ _ _ p1 p2 p3 p4 p5 p6 (parameter_parts parameter)

pub unit_put : (unit : List ℕ) (start one new : List ℕ) → one ≡ start ++ (codes ",\"unit\":{\"symbol\":" ++ quoted unit) → new ≡ one ++ codes "}" → new ≡ start ++ unit_member (Some unit)
unit_put unit start one new p1 p2 = put_two start one new _ _ _ p1 p2 refl

-- ---- plain texts

plain_byte : (byte : ℕ) → 32 ≤ byte → byte ≢ 34 → byte ≢ 92 → escape_byte byte ≡ byte ∷ []
unfolding json_on_literals
plain_byte byte above quote backslash = grind (arith, nat_tests)

pub plain_more : (bytes : List ℕ) (k d : ℕ) → k < length bytes → 32 ≤ get_or bytes k d → get_or bytes k d ≢ 34 → get_or bytes k d ≢ 92
    → escape (take k bytes) ≡ take k bytes → escape (take (k + 1) bytes) ≡ take (k + 1) bytes
plain_more bytes k d inside above quote backslash before =
    let byte : ℕ = get_or bytes k d in
    ap escape (take_more bytes k d inside)
    ∙ flat_map-append escape_byte (take k bytes) (byte ∷ [])
    ∙ ap (λ t. t ++ escape (byte ∷ [])) before ∙ ap (λ (t : List ℕ). take k bytes ++ (t ++ [])) (plain_byte byte above quote backslash)
    ∙ sym (take_more bytes k d inside)

plain_cons : (byte : ℕ) (bytes : List ℕ) → 32 ≤ byte → byte ≢ 34 → byte ≢ 92 → escape bytes ≡ bytes → escape (byte ∷ bytes) ≡ byte ∷ bytes
plain_cons byte bytes above quote backslash h = ap (λ (t : List ℕ). t ++ escape bytes) (plain_byte byte above quote backslash) ∙ ap (λ t. byte ∷ t) h

plain_pad2 : (n : ℕ) (bytes : List ℕ) → n < 100 → escape bytes ≡ bytes → escape (pad2 n ++ bytes) ≡ pad2 n ++ bytes
plain_pad2 n bytes low rest =
    plain_cons (48 + n / 10) ((48 + n % 10) ∷ bytes) (omega arith) (omega arith) (omega arith)
    (plain_cons (48 + n % 10) bytes (omega arith) (omega arith) (omega arith) rest)

plain_sign : (byte : ℕ) (bytes : List ℕ) → 45 ≤ byte → byte < 92 → escape bytes ≡ bytes → escape (byte ∷ bytes) ≡ byte ∷ bytes
plain_sign byte bytes low high = plain_cons byte bytes (omega arith) (omega arith) (omega arith)

day_below : (year month day : ℕ) → IsDay year month day → day < 100
day_below year month day h = grind (arith, h.day_in)

plain_civil : (c : Civil) → IsCivil c → escape (civil_text c) ≡ civil_text c
plain_civil c h =
    let end : List ℕ = 90 ∷ [] in
    let second : List ℕ = pad2 c.second ++ end in
    let minute : List ℕ = pad2 c.minute ++ 58 ∷ second in
    let hour : List ℕ = pad2 c.hour ++ 58 ∷ minute in
    let day : List ℕ = pad2 c.day ++ 84 ∷ hour in
    let month : List ℕ = pad2 c.month ++ 45 ∷ day in
    let years : List ℕ = pad2 (c.year % 100) ++ 45 ∷ month in
    plain_pad2 (c.year / 100) years (omega (arith, h.date.year_in))
    (plain_pad2 (c.year % 100) (45 ∷ month) (omega arith) (plain_sign 45 month (omega arith) (omega arith)
    (plain_pad2 c.month (45 ∷ day) (omega (arith, h.date.month_in)) (plain_sign 45 day (omega arith) (omega arith)
    (plain_pad2 c.day (84 ∷ hour) (day_below c.year c.month c.day h.date) (plain_sign 84 hour (omega arith) (omega arith)
    (plain_pad2 c.hour (58 ∷ minute) (omega (arith, h.clock.hour_in)) (plain_sign 58 minute (omega arith) (omega arith)
    (plain_pad2 c.minute (58 ∷ second) (omega (arith, h.clock.minute_in)) (plain_sign 58 second (omega arith) (omega arith)
    (plain_pad2 c.second end (omega (arith, h.clock.second_in)) (plain_sign 90 [] (omega arith) (omega arith) refl))))))))))))

pub plain_time : (text : List ℕ) (time : ℤ) → IsWritten text time → escape text ≡ text
plain_time text time h = rw (h.2) (plain_civil h.0 h.1)

-- the library of JSON writes a text behind what stood before
pub print_text : (text : List ℕ) → print (string text ∷ []) ≡ quoted text
unfolding json_on_literals
print_text text = append-nil (quoted text)

-- ---- the axes of ranges

-- what is left of a list that is begun with its first item
abbrev begun : Bool → List ℕ → List Data → List ℕ → List ℕ
begun later begin [] end = end_if later end
begun later begin (d ∷ ds) end = item_before later begin ++ (compact_text d ++ begun true begin ds end)

begun_items : (begin end : List ℕ) (ds : List Data) → begun true begin ds (93 ∷ end) ≡ items_text true (items_of ds) ++ end
begun_items begin end [] = refl
begun_items begin end (d ∷ ds) = ap (λ t. 44 ∷ (compact_text d ++ t)) (begun_items begin end ds) ∙ ap (λ (t : List ℕ). 44 ∷ t) (sym (append_assoc (compact_text d) (items_text true (items_of ds)) end))

list_begun : (before behind : List ℕ) (ds : List Data) → list_text before ds behind ≡ begun false (before ++ codes "[") ds (93 ∷ behind)
list_begun before behind [] = refl
list_begun before behind (d ∷ ds) =
    ap (λ (t : List ℕ). before ++ 91 ∷ t) (append_assoc (compact_text d) (items_text true (items_of ds)) behind ∙ ap (λ t. compact_text d ++ t) (sym (begun_items (before ++ codes "[") behind ds)))
    ∙ sym (append_assoc before (codes "[") (compact_text d ++ begun true (before ++ codes "[") ds (93 ∷ behind)))

axis_begun : (data_of : AxisLength → Data) (later next : Bool) (begin end : List ℕ) (name : CoordinateName) (axis : Option (List ℤ)) (rest : List AxisLength) → next ≡ (later || is_some axis)
    → begun later begin (map data_of (axis_before name axis rest)) end
    ≡ item_text later begin (option_map (λ (values : List ℤ). compact_text (data_of (record { key = axis_key (axis_name name); count = length values }))) axis) ++ begun next begin (map data_of rest) end
axis_begun data_of false next begin end name None rest is = ap (λ b. begun b begin (map data_of rest) end) (sym is)
axis_begun data_of true next begin end name None rest is = ap (λ b. begun b begin (map data_of rest) end) (sym is)
axis_begun data_of false next begin end name (Some values) rest is =
    let text : List ℕ = compact_text (data_of (record { key = axis_key (axis_name name); count = length values })) in
    ap (λ b. begin ++ (text ++ begun b begin (map data_of rest) end)) (sym is) ∙ sym (append_assoc begin text (begun next begin (map data_of rest) end))
axis_begun data_of true next begin end name (Some values) rest is = ap (λ b. 44 ∷ (compact_text (data_of (record { key = axis_key (axis_name name); count = length values })) ++ begun b begin (map data_of rest) end)) (sym is)

tuples_begun : (data_of : AxisLength → Data) (later next : Bool) (begin end : List ℕ) (tuples : Option (List Position)) → next ≡ (later || is_some tuples)
    → begun later begin (map data_of (composite_alone tuples)) end
    ≡ item_text later begin (option_map (λ (values : List Position). compact_text (data_of (record { key = axis_key Composite; count = length values }))) tuples) ++ end_if next end
tuples_begun data_of false next begin end None is = ap (λ b. end_if b end) (sym is)
tuples_begun data_of true next begin end None is = ap (λ b. end_if b end) (sym is)
tuples_begun data_of false next begin end (Some values) is =
    let text : List ℕ = compact_text (data_of (record { key = axis_key Composite; count = length values })) in
    ap (λ b. begin ++ (text ++ end_if b end)) (sym is) ∙ sym (append_assoc begin text (end_if next end))
tuples_begun data_of true next begin end (Some values) is = ap (λ b. 44 ∷ (compact_text (data_of (record { key = axis_key Composite; count = length values })) ++ end_if b end)) (sym is)

abbrev axis_item : (AxisLength → Data) → List ℕ → Domain → Bool → CoordinateName → List ℕ
axis_item data_of begin domain later name =
    item_text later begin (option_map (λ (values : List ℤ). compact_text (data_of (record { key = axis_key (axis_name name); count = length values }))) (range_axis_of domain name))

abbrev tuples_item : (AxisLength → Data) → List ℕ → Domain → Bool → List ℕ
tuples_item data_of begin domain later =
    item_text later begin (option_map (λ (values : List Position). compact_text (data_of (record { key = axis_key Composite; count = length values }))) (range_tuples_of domain))

abbrev below_rows : Domain → List AxisLength
below_rows domain = axis_before X (range_axis_of domain X) (composite_alone (range_tuples_of domain))

abbrev below_levels : Domain → List AxisLength
below_levels domain = axis_before Y (range_axis_of domain Y) (below_rows domain)

abbrev below_times : Domain → List AxisLength
below_times domain = axis_before Z (range_axis_of domain Z) (below_levels domain)

-- the names, or the lengths, of all axes were put
pub axes_listed : (data_of : AxisLength → Data) (before behind : List ℕ) (domain : Domain) (start one two three four five new : List ℕ) (times levels rows columns some : Bool)
    → times ≡ is_some (range_axis_of domain T) → levels ≡ (times || is_some (range_axis_of domain Z)) → rows ≡ (levels || is_some (range_axis_of domain Y))
    → columns ≡ (rows || is_some (range_axis_of domain X)) → some ≡ (columns || is_some (range_tuples_of domain))
    → one ≡ start ++ axis_item data_of (before ++ codes "[") domain false T → two ≡ one ++ axis_item data_of (before ++ codes "[") domain times Z → three ≡ two ++ axis_item data_of (before ++ codes "[") domain levels Y
    → four ≡ three ++ axis_item data_of (before ++ codes "[") domain rows X → five ≡ four ++ tuples_item data_of (before ++ codes "[") domain columns → new ≡ five ++ end_if some (93 ∷ behind)
    → new ≡ start ++ list_text before (map data_of (range_axes domain)) behind
axes_listed data_of before behind domain start one two three four five new times levels rows columns some times_is levels_is rows_is columns_is some_is p1 p2 p3 p4 p5 p6 =
    let begin : List ℕ = before ++ codes "[" in
    let end : List ℕ = 93 ∷ behind in
    put_six start one two three four five new (axis_item data_of begin domain false T) (axis_item data_of begin domain times Z) (axis_item data_of begin domain levels Y) (axis_item data_of begin domain rows X)
    (tuples_item data_of begin domain columns) (end_if some end) (list_text before (map data_of (range_axes domain)) behind) p1 p2 p3 p4 p5 p6
    (list_begun before behind (map data_of (range_axes domain))
    ∙ axis_begun data_of false times begin end T (range_axis_of domain T) (below_times domain) times_is
    ∙ ap (λ t. axis_item data_of begin domain false T ++ t) (axis_begun data_of times levels begin end Z (range_axis_of domain Z) (below_levels domain) levels_is
    ∙ ap (λ t. axis_item data_of begin domain times Z ++ t) (axis_begun data_of levels rows begin end Y (range_axis_of domain Y) (below_rows domain) rows_is
    ∙ ap (λ t. axis_item data_of begin domain levels Y ++ t) (axis_begun data_of rows columns begin end X (range_axis_of domain X) (composite_alone (range_tuples_of domain)) columns_is
    ∙ ap (λ t. axis_item data_of begin domain rows X ++ t) (tuples_begun data_of columns some begin end (range_tuples_of domain) some_is)))))
