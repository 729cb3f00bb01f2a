-- Laws: the trees of coverages and of their parts have no float.
use Rattle.std.proofs.Common.{◌≡◌, ℕ, ◌-◌, ℤ, pos, negsuc, List, [], ◌∷◌, length, map, if◌then◌else◌, Option, Some, None, IfSome, option_map, false, true, Bool, refl}
use Rattle.std.specs.List.{zip}
use Rattle.serde_json.specs.Data.{Data, string, Members, Items}
use Rattle.serde_json.specs.View.{items_of}
use Rattle.serde_json.specs.Written.{has_float, items_have_float, members_have_float}
use Rattle.edr_base.specs.declared.places.Position.{Position}
use Rattle.edr_axes.specs.Axes.{value_at}
use Rattle.covjson_value.specs.declared.domains.CoordinateName.{CoordinateName}
use Rattle.covjson_value.specs.declared.domains.CoordinateName.TheVariants.{T, Z, Y, X}
use Rattle.covjson_value.specs.declared.domains.Domain.{Domain}
use Rattle.covjson_value.specs.declared.coverages.Parameter.{Parameter}
use Rattle.covjson_value.specs.declared.coverages.Referencing.{Referencing}
use Rattle.covjson_value.specs.declared.coverages.NdArray.{NdArray}
use Rattle.covjson_value.specs.declared.coverages.Coverage.{Coverage}
use Rattle.covjson_value.specs.Coverages.{ids_of}
use Rattle.covjson_value.specs.Domains.{coordinate_key, axis_of, tuples_of, coordinates_of, coordinate, has_coordinate, range_axes}
use Rattle.covjson_value.specs.Trees

abbrev pub NoFloat : Data → Type 0
NoFloat d = has_float d ≡ false

pub items_of-NoFloat : {V : Type 0} (data_of : V → Data) → ((v : V) → NoFloat (data_of v)) → (values : List V) → items_have_float (items_of (map data_of values)) ≡ false
items_of-NoFloat data_of each [] = refl
items_of-NoFloat data_of each (value ∷ values) = rw (each value) (items_of-NoFloat data_of each values)

pub member_if-NoFloat : (key : List ℕ) (given : Option Data) (rest : Members) → IfSome given NoFloat → members_have_float rest ≡ false → members_have_float (Trees.member_if key given rest) ≡ false
member_if-NoFloat key None rest none h = h
member_if-NoFloat key (Some d) rest none h = rw none h

pub item_if-NoFloat : (test : Bool) (d : Data) (rest : Items) → NoFloat d → items_have_float rest ≡ false → items_have_float (Trees.item_if test d rest) ≡ false
item_if-NoFloat false d rest none h = h
item_if-NoFloat true d rest none h = rw none h

pub integer-NoFloat : (value : ℤ) → NoFloat (Trees.integer value)
integer-NoFloat (pos n) = refl
integer-NoFloat (negsuc n) = refl

pub string-NoFloat : (text : Option (List ℕ)) → IfSome (option_map string text) NoFloat
string-NoFloat None = tt
string-NoFloat (Some text) = refl

-- ---- the domain

pub axis_value-NoFloat : (name : CoordinateName) (value : ℤ) → NoFloat (Trees.axis_value_data name value)
axis_value-NoFloat T value = refl
axis_value-NoFloat Z value = integer-NoFloat value
axis_value-NoFloat Y value = integer-NoFloat value
axis_value-NoFloat X value = integer-NoFloat value

pub list-NoFloat : (name : CoordinateName) (values : List ℤ) → NoFloat (Trees.list_data name values)
list-NoFloat name values = rw (items_of-NoFloat (Trees.axis_value_data name) (axis_value-NoFloat name) values) refl

pub span-NoFloat : (values : List ℤ) → NoFloat (Trees.span_data values)
span-NoFloat values = rw (integer-NoFloat (value_at values 0), integer-NoFloat (value_at values (length values - 1))) refl

pub chosen-NoFloat : (short : Bool) (name : CoordinateName) (values : List ℤ) → NoFloat (if short then Trees.span_data values else Trees.list_data name values)
chosen-NoFloat true name values = span-NoFloat values
chosen-NoFloat false name values = list-NoFloat name values

pub axis-NoFloat : (name : CoordinateName) (axis : Option (List ℤ)) → IfSome (option_map (Trees.axis_data name) axis) NoFloat
axis-NoFloat name None = tt
axis-NoFloat name (Some values) = chosen-NoFloat (Trees.is_spanned name values) name values

pub keys-NoFloat : (names : List CoordinateName) → NoFloat (Trees.keys_data names)
keys-NoFloat names = items_of-NoFloat (λ name. string (coordinate_key name)) (λ name. refl) names

pub tuple-NoFloat : (names : List CoordinateName) (tuple : Position) → NoFloat (Trees.tuple_data names tuple)
tuple-NoFloat names tuple = items_of-NoFloat (λ name. Trees.axis_value_data name (coordinate name tuple)) (λ name. axis_value-NoFloat name (coordinate name tuple)) names

pub composite-NoFloat : (names : List CoordinateName) (tuples : Option (List Position)) → IfSome (option_map (Trees.composite_data names) tuples) NoFloat
composite-NoFloat names None = tt
composite-NoFloat names (Some tuples) = rw (keys-NoFloat names, items_of-NoFloat (Trees.tuple_data names) (tuple-NoFloat names) tuples) refl

pub axes-NoFloat : (domain : Domain) → NoFloat (Trees.axes_data domain)
axes-NoFloat domain =
    member_if-NoFloat _ _ _ (composite-NoFloat (coordinates_of domain) (tuples_of domain))
    (member_if-NoFloat _ _ _ (axis-NoFloat T (axis_of domain T)) (member_if-NoFloat _ _ _ (axis-NoFloat X (axis_of domain X))
    (member_if-NoFloat _ _ _ (axis-NoFloat Y (axis_of domain Y)) (member_if-NoFloat _ _ _ (axis-NoFloat Z (axis_of domain Z)) refl))))

pub system-NoFloat : (name : Option (List ℕ)) (kind : List ℕ) → NoFloat (Trees.system_data name kind)
system-NoFloat None kind = refl
system-NoFloat (Some name) kind = refl

pub referencing-NoFloat : (domain : Domain) (referencing : Referencing) → NoFloat (Trees.referencing_data domain referencing)
referencing-NoFloat domain referencing =
    rw (system-NoFloat (Trees.text_if_some referencing.crs) _)
    (item_if-NoFloat (has_coordinate domain Z) (Trees.vertical_data referencing.vertical) _ (rw (system-NoFloat referencing.vertical _) refl)
    (item_if-NoFloat (has_coordinate domain T) Trees.temporal_data _ refl refl))

pub domain-NoFloat : (domain : Domain) (referencing : Referencing) → NoFloat (Trees.domain_data domain referencing)
domain-NoFloat domain referencing = rw (axes-NoFloat domain, referencing-NoFloat domain referencing) refl

-- ---- parameters and ranges

pub unit-NoFloat : (unit : Option (List ℕ)) → IfSome (option_map Trees.unit_data unit) NoFloat
unit-NoFloat None = tt
unit-NoFloat (Some unit) = refl

pub parameter-NoFloat : (p : Parameter) → NoFloat (Trees.parameter_data p)
parameter-NoFloat p = member_if-NoFloat _ _ _ (unit-NoFloat p.unit) refl

pub parameters-NoFloat : (ps : List Parameter) → NoFloat (Trees.parameters_data ps)
parameters-NoFloat [] = refl
parameters-NoFloat (p ∷ ps) = rw (parameter-NoFloat p) (parameters-NoFloat ps)

pub sample-NoFloat : (sample : Option ℤ) → NoFloat (Trees.sample_data sample)
sample-NoFloat None = refl
sample-NoFloat (Some value) = integer-NoFloat value

pub array_if_some-NoFloat : {V : Type 0} (data_of : V → Data) → ((v : V) → NoFloat (data_of v)) → (values : List V) → IfSome (Trees.array_if_some (map data_of values)) NoFloat
array_if_some-NoFloat data_of each [] = tt
array_if_some-NoFloat data_of each (value ∷ values) = items_of-NoFloat data_of each (value ∷ values)

pub range-NoFloat : (domain : Domain) (range : NdArray) → NoFloat (Trees.range_data domain range)
range-NoFloat domain range =
    member_if-NoFloat _ _ _ (array_if_some-NoFloat Trees.name_data (λ _. refl) (range_axes domain))
    (member_if-NoFloat _ _ _ (array_if_some-NoFloat Trees.length_data (λ axis. refl) (range_axes domain))
    (rw (items_of-NoFloat Trees.sample_data sample-NoFloat range.values) refl))

pub ranges-NoFloat : (domain : Domain) (ids : List (List ℕ)) (ranges : List NdArray) → members_have_float (Trees.members_in_order (zip ids (map (Trees.range_data domain) ranges))) ≡ false
ranges-NoFloat domain [] ranges = refl
ranges-NoFloat domain (id ∷ ids) [] = refl
ranges-NoFloat domain (id ∷ ids) (range ∷ ranges) = rw (range-NoFloat domain range) (ranges-NoFloat domain ids ranges)

pub coverage-NoFloat : (coverage : Coverage) → NoFloat (Trees.coverage_data coverage)
coverage-NoFloat coverage =
    rw (domain-NoFloat coverage.domain coverage.referencing)
    (member_if-NoFloat _ _ _ (string-NoFloat coverage.id)
    (rw (parameters-NoFloat coverage.parameters, ranges-NoFloat coverage.domain (ids_of coverage.parameters) coverage.ranges) refl))

pub collection-NoFloat : (coverages : List Coverage) → NoFloat (Trees.collection_data (Trees.array_of Trees.coverage_data coverages))
collection-NoFloat coverages = rw (items_of-NoFloat Trees.coverage_data coverage-NoFloat coverages) refl
