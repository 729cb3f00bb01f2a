-- The tree of a valid coverage tells the coverage.
use Rattle.std.proofs.Common.{◌≡◌, ℕ, ℤ, codes, List, map, length, Option, Some, None, IsSome, option_map, refl, ap, ap₂, ◌∙◌, sym, subst, arith}
use Rattle.std.specs.Prelude.{⊤, IsTrue}
use Rattle.std.proofs.lemmas.List.{length-map}
use Rattle.serde_json.specs.Data.{string, Members, member, no_members}
use Rattle.edr_axes.specs.Instants.{TextsTellTimes}
use Rattle.covjson_value.specs.declared.domains.CoordinateName.TheVariants.{Z}
use Rattle.covjson_value.specs.declared.domains.Domain.{Domain}
use Rattle.covjson_value.specs.declared.coverages.Parameter.{Parameter}
use Rattle.covjson_value.specs.declared.coverages.Referencing.{Referencing}
use Rattle.covjson_value.specs.declared.coverages.NdArray.{NdArray}
use Rattle.covjson_value.specs.declared.coverages.Coverage.{Coverage}
use Rattle.covjson_value.specs.Domains.{has_coordinate, range_axes}
use Rattle.covjson_value.specs.Coverages.{ids_of, IsValid}
use Rattle.covjson_value.specs.Trees
use Rattle.covjson_value.proofs.InOrder.{Pair}
use Rattle.covjson_value.proofs.Telling.{Tells, any_given, any_listed, integer_tells, option_tells, map_tells, array_of_tells, IsApart, none_apart, member_apart, member_if_tells, rest_tells, pairs_tell, zip_tells}
use Rattle.covjson_value.proofs.TellingDomains.{texts_tell, domain_tells, referencing_tells}

-- ---- parameters

same_parameter : (one other : Parameter) → one.id ≡ other.id → one.lang ≡ other.lang → one.label ≡ other.label → one.unit ≡ other.unit → one ≡ other
same_parameter one other id lang label unit =
    let first : List ℕ → List ℕ → Parameter = λ id lang. record { id = id; lang = lang; label = one.label; unit = one.unit } in
    let second : List ℕ → Option (List ℕ) → Parameter = λ label unit. record { id = other.id; lang = other.lang; label = label; unit = unit } in
    ap₂ first id lang ∙ ap₂ second label unit

unit_tells : Tells (λ _. ⊤) Trees.unit_data
unit_tells one other h k e = cc

-- the member of a unit, where it is given
abbrev unit_member : Parameter → Members
unit_member p = Trees.member_if (codes "unit") (option_map Trees.unit_data p.unit) no_members

parameter_tells : Tells (λ _. ⊤) Trees.named_parameter
parameter_tells one other h k e =
    let id : one.id ≡ other.id = ap (λ (p : Pair). p.0) e in
    let datum : Trees.parameter_data one ≡ Trees.parameter_data other = ap (λ (p : Pair). p.1) e in
    let lang : one.lang ≡ other.lang = cc in
    let label : one.label ≡ other.label = cc in
    let units : unit_member one ≡ unit_member other = cc in
    let given = (member_if_tells (codes "unit") (option_map Trees.unit_data one.unit) (option_map Trees.unit_data other.unit) no_members no_members (none_apart (codes "unit")) (none_apart (codes "unit")) units).0 in
    same_parameter one other id lang label (option_tells (λ _. ⊤) Trees.unit_data unit_tells one.unit other.unit (any_given one.unit) (any_given other.unit) given)

parameters_tell : (one other : List Parameter) → Trees.parameters_data one ≡ Trees.parameters_data other → one ≡ other
parameters_tell one other e =
    map_tells (λ _. ⊤) Trees.named_parameter parameter_tells one other (any_listed one) (any_listed other) (pairs_tell (map Trees.named_parameter one) (map Trees.named_parameter other) (cc))

-- ---- ranges

sample_tells : Tells (λ _. ⊤) Trees.sample_data
sample_tells None None h k e = refl
sample_tells None (Some value) h k e = cc
sample_tells (Some value) None h k e = cc
sample_tells (Some value) (Some other) h k e = ap Some (integer_tells value other e)

abbrev values_member : NdArray → Members
values_member range = member (codes "type") (string (codes "NdArray")) (member (codes "values") (Trees.array_of Trees.sample_data range.values) no_members)

abbrev shape_member : Domain → NdArray → Members
shape_member domain range = Trees.member_if (codes "shape") (Trees.array_if_some (map Trees.length_data (range_axes domain))) (values_member range)

abbrev type_member : Domain → NdArray → Members
type_member domain range = member (codes "dataType") (string (codes "integer")) (shape_member domain range)

range_tells : (domain : Domain) → Tells (λ _. ⊤) (Trees.range_data domain)
range_tells domain one other h k e =
    let typed = rest_tells (codes "axisNames") (Trees.array_if_some (map Trees.name_data (range_axes domain))) (type_member domain one) (type_member domain other) (cc) in
    let shaped = rest_tells (codes "shape") (Trees.array_if_some (map Trees.length_data (range_axes domain))) (values_member one) (values_member other) (cc) in
    let make : List (Option ℤ) → NdArray = λ values. record { values = values } in
    ap make (array_of_tells (λ _. ⊤) Trees.sample_data sample_tells one.values other.values (any_listed one.values) (any_listed other.values) (cc))

ranges_tell : (domain : Domain) (parameters : List Parameter) (one other : List NdArray) → length one ≡ length parameters → length other ≡ length parameters
    → Trees.ranges_data domain parameters one ≡ Trees.ranges_data domain parameters other → one ≡ other
ranges_tell domain parameters one other h k e =
    let ids = length-map parameters (λ (p : Parameter). p.id) in
    let zipped = pairs_tell (Trees.named_ranges domain parameters one) (Trees.named_ranges domain parameters other) (cc) in
    let mapped = zip_tells (ids_of parameters) (map (Trees.range_data domain) one) (map (Trees.range_data domain) other)
    (omega (arith, ids, length-map one (Trees.range_data domain))) (omega (arith, ids, length-map other (Trees.range_data domain))) zipped in
    map_tells (λ _. ⊤) (Trees.range_data domain) (range_tells domain) one other (any_listed one) (any_listed other) mapped

-- ---- coverages

same_coverage : (one other : Coverage) → one.id ≡ other.id → one.domain ≡ other.domain → one.referencing ≡ other.referencing → one.parameters ≡ other.parameters → one.ranges ≡ other.ranges → one ≡ other
same_coverage one other id domain referencing parameters ranges =
    let first : Option (List ℕ) → Domain → Coverage = λ id domain. record { id = id; domain = domain; referencing = one.referencing; parameters = one.parameters; ranges = one.ranges } in
    let second : Referencing → List Parameter → Coverage = λ referencing parameters. record { id = other.id; domain = other.domain; referencing = referencing; parameters = parameters; ranges = one.ranges } in
    let third : List NdArray → Coverage = λ ranges. record { id = other.id; domain = other.domain; referencing = other.referencing; parameters = other.parameters; ranges = ranges } in
    ap₂ first id domain ∙ ap₂ second referencing parameters ∙ ap third ranges

-- the members that follow the id
abbrev after_id : Coverage → Members
after_id coverage =
    member (codes "parameters") (Trees.parameters_data coverage.parameters)
    (member (codes "ranges") (Trees.ranges_data coverage.domain coverage.parameters coverage.ranges)
    (member (codes "type") (string (codes "Coverage")) no_members))

after_id_apart : (coverage : Coverage) → IsApart (codes "id") (after_id coverage)
after_id_apart coverage = member_apart (codes "id") (codes "parameters") _ _ refl

pub coverage_tells : TextsTellTimes → (one other : Coverage) → IsValid one → IsValid other → Trees.coverage_data one ≡ Trees.coverage_data other → one ≡ other
coverage_tells told one other h k e =
    let domains : Trees.domain_data one.domain one.referencing ≡ Trees.domain_data other.domain other.referencing = cc in
    let domain = domain_tells told one.domain other.domain one.referencing other.referencing h.axes k.axes h.tuples k.tuples domains in
    let vertical : IsSome other.referencing.vertical → IsTrue (has_coordinate one.domain Z) = subst (λ (d : Domain). IsSome other.referencing.vertical → IsTrue (has_coordinate d Z)) (sym domain) k.vertical in
    let referenced : Trees.referencing_data one.domain one.referencing ≡ Trees.referencing_data other.domain other.referencing = cc in
    let referencing = referencing_tells one.domain one.referencing other.referencing h.vertical vertical (referenced ∙ ap (λ (d : Domain). Trees.referencing_data d other.referencing) (sym domain)) in
    let later = member_if_tells (codes "id") (option_map string one.id) (option_map string other.id) (after_id one) (after_id other) (after_id_apart one) (after_id_apart other) (cc) in
    let parameters = parameters_tell one.parameters other.parameters (cc) in
    let ranged : Trees.ranges_data one.domain one.parameters one.ranges ≡ Trees.ranges_data other.domain other.parameters other.ranges = cc in
    let back : Trees.ranges_data other.domain other.parameters other.ranges ≡ Trees.ranges_data one.domain one.parameters other.ranges = ap₂ (λ (d : Domain) (ps : List Parameter). Trees.ranges_data d ps other.ranges) (sym domain) (sym parameters) in
    let as_many : length other.ranges ≡ length one.parameters = k.as_many ∙ ap (λ (ps : List Parameter). length ps) (sym parameters) in
    let ranges = ranges_tell one.domain one.parameters one.ranges other.ranges h.as_many as_many (ranged ∙ back) in
    same_coverage one other (texts_tell one.id other.id later.0) domain referencing parameters ranges
