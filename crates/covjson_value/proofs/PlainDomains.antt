-- The tree of a valid domain is plain and shallow.
use Rattle.std.proofs.Common.{◌≡◌, ℕ, suc, ◌-◌, ℤ, pos, codes, Bool, false, if◌then◌else◌, List, [], ◌∷◌, length, All, Option, Some, None, IfSome, option_map, true, IsUtf8, Greater, nat_cmp, refl, arith}
use Rattle.std.specs.Cmp.Lexicographic.{slice_cmp}
use Rattle.serde_json.specs.Data.{Data, string, object, no_members, member}
use Rattle.edr_base.specs.declared.places.Position.{Position}
use Rattle.edr_axes.specs.Axes.{value_at}
use Rattle.edr_axes.specs.Instants.{TimesAreWritten}
use Rattle.covjson_value.specs.declared.domains.CoordinateName.{CoordinateName}
use Rattle.covjson_value.specs.declared.domains.CoordinateName.TheVariants.{T, Z, Y, X}
use Rattle.covjson_value.specs.declared.domains.Domain.{Domain}
use Rattle.covjson_value.specs.declared.domains.Domain.TheVariants.{Grid, Point, PointSeries, VerticalProfile, MultiPoint, Trajectory}
use Rattle.covjson_value.specs.declared.coverages.Referencing.{Referencing}
use Rattle.covjson_value.specs.Domains.{coordinate_key, axis_of, tuples_of, coordinates_of, coordinate, has_coordinate}
use Rattle.edr_base.specs.Limits.{IsCoordinate}
use Rattle.covjson_value.specs.Coverages.{IsAxisValue, IsNamedAxis, HasAxes, IsTuple, AreTuples, HasTuples, IsReferencing}
use Rattle.covjson_value.specs.Trees
use Rattle.covjson_value.specs.RegularLaws.{AreRegular, regular_tells, IsSpanned, spanned_tells}
use Rattle.json.proofs.Printed.Utf8.{are_ascii, IsUtf8-are_ascii}
use Rattle.std.specs.Prelude.{⊤}
use Rattle.covjson_value.proofs.Within.{IsWithin, within_more, text_within, word_within, integer_within, count_within, array_within, none_within, item_within, item_if_within, array_of_within, object_within, no_members_within, named_within, member_if_within, alone_within}
use Rattle.covjson_value.proofs.TimeTexts.{IsUtf8-IsWritten}
use Rattle.covjson_value.specs.TupleLaws.{coordinates_are_values}

-- ---- axes

coordinate_within : (n : ℕ) (value : ℤ) → IsCoordinate value → IsWithin n (Trees.integer value)
coordinate_within n value h = integer_within n value (omega (arith, h))

axis_value_within : TimesAreWritten → (n : ℕ) (name : CoordinateName) (value : ℤ) → IsAxisValue name value → IsWithin n (Trees.axis_value_data name value)
axis_value_within written n T value h = text_within n _ (IsUtf8-IsWritten _ value (written value h))
axis_value_within written n Z value h = coordinate_within n value h
axis_value_within written n Y value h = coordinate_within n value h
axis_value_within written n X value h = coordinate_within n value h

list_within : TimesAreWritten → (n : ℕ) (name : CoordinateName) (values : List ℤ) → All (IsAxisValue name) values → IsWithin (suc (suc n)) (Trees.list_data name values)
list_within written n name values h =
    alone_within (suc n) (codes "values") _ (IsUtf8-are_ascii _ refl) (array_of_within n (IsAxisValue name) (Trees.axis_value_data name) (axis_value_within written n name) values h)

span_within : (n : ℕ) (values : List ℤ) → AreRegular values → All IsCoordinate values → IsWithin (suc n) (Trees.span_data values)
span_within n values regular h =
    let several = regular.several in
    let few = regular.few in
    object_within n _
    (named_within n [] (codes "num") _ _ refl refl (count_within n (length values) (omega arith))
    (named_within n (codes "num") (codes "start") _ _ refl refl (coordinate_within n (value_at values 0) (h 0 (pos 0) (omega arith)))
    (named_within n (codes "start") (codes "stop") _ _ refl refl (coordinate_within n (value_at values (length values - 1)) (h (length values - 1) (pos 0) (omega arith))) (no_members_within n _))))

chosen_within : TimesAreWritten → (n : ℕ) (name : CoordinateName) (values : List ℤ) (short : Bool) → (short ≡ true → IsSpanned name values) → All (IsAxisValue name) values
    → IsWithin (suc (suc n)) (if short then Trees.span_data values else Trees.list_data name values)
chosen_within written n name values true spanned h =
    let is = spanned refl in
    span_within (suc n) values (regular_tells values is.regular) (is.numbers h)
chosen_within written n name values false spanned h = list_within written n name values h

axis_within : TimesAreWritten → (n : ℕ) (name : CoordinateName) (axis : Option (List ℤ)) → IfSome axis (IsNamedAxis name) → IfSome (option_map (Trees.axis_data name) axis) (IsWithin (suc (suc n)))
axis_within written n name None h = tt
axis_within written n name (Some values) h = chosen_within written n name values (Trees.is_spanned name values) (spanned_tells name values) h.within

key_within : (n : ℕ) (name : CoordinateName) → IsWithin n (string (coordinate_key name))
key_within n T = word_within n (codes "t") refl
key_within n Z = word_within n (codes "z") refl
key_within n Y = word_within n (codes "y") refl
key_within n X = word_within n (codes "x") refl

keys_within : (n : ℕ) (names : List CoordinateName) → IsWithin (suc n) (Trees.keys_data names)
keys_within n names = array_of_within n (λ _. ⊤) (λ name. string (coordinate_key name)) (λ name _. key_within n name) names (λ k d inside. tt)

tuple_within : TimesAreWritten → (names : List CoordinateName) (tuple : Position) → IsTuple names tuple → IsWithin 1 (Trees.tuple_data names tuple)
tuple_within written names tuple h =
    array_of_within 0 (λ name. IsAxisValue name (coordinate name tuple)) (λ name. Trees.axis_value_data name (coordinate name tuple)) (λ name k. axis_value_within written 0 name (coordinate name tuple) k)
    names (coordinates_are_values names tuple h)

composite_within : TimesAreWritten → (names : List CoordinateName) (tuples : Option (List Position)) → IfSome tuples (AreTuples names) → IfSome (option_map (Trees.composite_data names) tuples) (IsWithin 3)
composite_within written names None h = tt
composite_within written names (Some tuples) h =
    object_within 2 _
    (named_within 2 [] (codes "coordinates") _ _ refl refl (keys_within 1 names)
    (named_within 2 (codes "coordinates") (codes "dataType") _ _ refl refl (word_within 2 (codes "tuple") refl)
    (named_within 2 (codes "dataType") (codes "values") _ _ refl refl (array_of_within 1 (IsTuple names) (Trees.tuple_data names) (tuple_within written names) tuples h.each) (no_members_within 2 _))))

axes_within : TimesAreWritten → (domain : Domain) → HasAxes domain → HasTuples domain → IsWithin 4 (Trees.axes_data domain)
axes_within written domain h tuples =
    let each : (name : CoordinateName) → IfSome (option_map (Trees.axis_data name) (axis_of domain name)) (IsWithin 3) = λ name. axis_within written 1 name (axis_of domain name) (h name) in
    object_within 3 _
    (member_if_within 3 [] (codes "composite") _ _ refl refl (composite_within written (coordinates_of domain) (tuples_of domain) tuples.tuples)
    (member_if_within 3 (codes "composite") (codes "t") _ _ refl refl (each T)
    (member_if_within 3 (codes "t") (codes "x") _ _ refl refl (each X)
    (member_if_within 3 (codes "x") (codes "y") _ _ refl refl (each Y)
    (member_if_within 3 (codes "y") (codes "z") _ _ refl refl (each Z) (no_members_within 3 _))))))

-- ---- referencing

-- an object of two members whose names are ASCII
two_within : (n : ℕ) (key other : List ℕ) (d e : Data) → are_ascii key ≡ true → are_ascii other ≡ true → slice_cmp nat_cmp key [] ≡ Greater → slice_cmp nat_cmp other key ≡ Greater → IsWithin n d → IsWithin n e
    → IsWithin (suc n) (object (member key d (member other e no_members)))
two_within n key other d e ascii ascii_too up up_too h k = object_within n _ (named_within n [] key d _ ascii up h (named_within n key other e no_members ascii_too up_too k (no_members_within n other)))

pub given_text_within : (n : ℕ) (text : Option (List ℕ)) → IfSome text IsUtf8 → IfSome (option_map string text) (IsWithin n)
given_text_within n None h = tt
given_text_within n (Some text) h = text_within n text h

text_if_some-utf8 : (text : List ℕ) → IsUtf8 text → IfSome (Trees.text_if_some text) IsUtf8
text_if_some-utf8 [] h = tt
text_if_some-utf8 (byte ∷ bytes) h = h

system_within : (name : Option (List ℕ)) (kind : List ℕ) → IfSome name IsUtf8 → are_ascii kind ≡ true → IsWithin 1 (Trees.system_data name kind)
system_within name kind h ascii =
    object_within 0 _ (member_if_within 0 [] (codes "id") _ _ refl refl (given_text_within 0 name h)
    (named_within 0 (codes "id") (codes "type") _ _ refl refl (word_within 0 kind ascii) (no_members_within 0 _)))

connection_within : (names : List CoordinateName) (system : Data) → IsWithin 1 system → IsWithin 2 (Trees.connection_data names system)
connection_within names system h =
    two_within 1 (codes "coordinates") (codes "system") _ system refl refl refl refl (keys_within 0 names) h

temporal_within : IsWithin 2 Trees.temporal_data
temporal_within = connection_within (T ∷ []) _ (two_within 0 (codes "calendar") (codes "type") _ _ refl refl refl refl (word_within 0 (codes "Gregorian") refl) (word_within 0 (codes "TemporalRS") refl))

referencing_within : (domain : Domain) (referencing : Referencing) → IsReferencing referencing → IsWithin 3 (Trees.referencing_data domain referencing)
referencing_within domain referencing h =
    array_within 2 _ (item_within 2 _ _ (connection_within (X ∷ Y ∷ []) _ (system_within (Trees.text_if_some referencing.crs) (codes "ProjectedCRS") (text_if_some-utf8 referencing.crs h.crs) refl))
    (item_if_within 2 (has_coordinate domain Z) (Trees.vertical_data referencing.vertical) _ (connection_within (Z ∷ []) _ (system_within referencing.vertical (codes "VerticalCRS") h.vertical refl))
    (item_if_within 2 (has_coordinate domain T) Trees.temporal_data _ temporal_within (none_within 2))))

-- ---- domains

type_within : (n : ℕ) (domain : Domain) → IsWithin n (string (Trees.domain_type domain))
type_within n (Grid t z y x) = word_within n (codes "Grid") refl
type_within n (Point t z y x) = word_within n (codes "Point") refl
type_within n (PointSeries t z y x) = word_within n (codes "PointSeries") refl
type_within n (VerticalProfile t z y x) = word_within n (codes "VerticalProfile") refl
type_within n (MultiPoint t has_z spots) = word_within n (codes "MultiPoint") refl
type_within n (Trajectory z has_z steps) = word_within n (codes "Trajectory") refl

pub domain_within : TimesAreWritten → (domain : Domain) (referencing : Referencing) → HasAxes domain → HasTuples domain → IsReferencing referencing → IsWithin 5 (Trees.domain_data domain referencing)
domain_within written domain referencing axes tuples h =
    object_within 4 _
    (named_within 4 [] (codes "axes") _ _ refl refl (axes_within written domain axes tuples)
    (named_within 4 (codes "axes") (codes "domainType") _ _ refl refl (type_within 4 domain)
    (named_within 4 (codes "domainType") (codes "referencing") _ _ refl refl (within_more 3 4 _ (omega arith) (referencing_within domain referencing h))
    (named_within 4 (codes "referencing") (codes "type") _ _ refl refl (word_within 4 (codes "Domain") refl) (no_members_within 4 _)))))
