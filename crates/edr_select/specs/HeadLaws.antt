-- The heads of a position's coverages are valid, and their cells are as many as their values.
use Rattle.std.proofs.Common.{◌≡◌, ℕ, ◌<◌, Bool, true, false, List, [], length, refl, subst, None, IsSome, ℤ, All, replicate}
use Rattle.std.specs.declared.option.Option.{Option}
use Rattle.std.specs.Prelude.{map, if◌then◌else◌}
use Rattle.std.specs.List.{filter}
use Rattle.std.proofs.lemmas.Bool.{false≢true}
use Rattle.std.proofs.lemmas.List.{length-map, length-replicate}
use Rattle.std.proofs.lemmas.List.Elements.{All-filter, All-map, All-replicate}
use Rattle.std.proofs.lemmas.List.Kept.{IsStrictlySortedBy-filter}
use Rattle.edr_axes.specs.AxisLaws.{axis_filter}
use Rattle.covjson_value.specs.declared.domains.CoordinateName.{CoordinateName}
use Rattle.covjson_value.specs.declared.domains.CoordinateName.TheVariants.{Z}
use Rattle.covjson_value.specs.declared.domains.Domain.{Domain}
use Rattle.covjson_value.specs.declared.coverages.Parameter.{Parameter}
use Rattle.covjson_value.specs.declared.coverages.NdArray.{NdArray}
use Rattle.covjson_value.specs.declared.coverages.Referencing.{Referencing}
use Rattle.covjson_value.specs.declared.coverages.Coverage.{Coverage}
use Rattle.covjson_value.specs.Domains.{has_coordinate, count_of}
use Rattle.edr_base.specs.Limits.{HasSample}
use Rattle.edr_base.specs.Names.{Ascend, order}
use Rattle.covjson_value.specs.Coverages.{IsAxisValue, IsNamedAxis, HasAxes, HasTuples, IsParameter, IsReferencing, IsRange, AscendById, ids_of}
use Rattle.covjson_write.specs.Writers.{IsHead}
use Rattle.edr_edition.specs.Stores.{Subject}
use Rattle.edr_select.specs.Selections.{is_asked}
use Rattle.edr_select.specs.Documents.{referencing_over}
use Rattle.edr_select.specs.Choices.{parameter_places}
use Rattle.edr_select.specs.ListLaws.{filter-map}
use Rattle.edr_select.specs.ParameterLaws.{parameter_at, asked_by_places}

-- ---- some values of an axis are an axis

pub named_axis_filter : (name : CoordinateName) (t : ℤ → Bool) (values : List ℤ) → IsNamedAxis name values → 0 < length (filter t values)
    → IsNamedAxis name (filter t values)
named_axis_filter name t values axis some = record {
  ascending = axis_filter t values axis.ascending some;
  within = All-filter t (IsAxisValue name) values axis.within;
}

-- ---- parameters

-- the parameters that are asked are parameters, in the order of their ids
pub asked_are : (names : Option (List (List ℕ))) (ps : List Parameter) → All IsParameter ps → All IsParameter (map (parameter_at ps) (parameter_places names ps))
asked_are names ps h =
    subst (All IsParameter) (asked_by_places names ps) (All-filter (λ (p : Parameter). is_asked names p.id) IsParameter ps h)

pub asked_ascend : (names : Option (List (List ℕ))) (ps : List Parameter) → AscendById ps → AscendById (map (parameter_at ps) (parameter_places names ps))
asked_ascend names ps h =
    subst AscendById (asked_by_places names ps)
    (subst Ascend (filter-map (is_asked names) (λ (p : Parameter). p.id) ps)
    (IsStrictlySortedBy-filter order (is_asked names) (ids_of ps) h))

-- ---- heads

abbrev pub coverage_with : Subject → Domain → List Parameter → List NdArray → Coverage
coverage_with s domain parameters ranges = record {
  id = None;
  domain = domain;
  referencing = referencing_over domain s.collection.referencing;
  parameters = parameters;
  ranges = ranges;
}

-- a range of missing samples
abbrev missing : ℕ → NdArray
missing n = record { values = replicate n None }

missing_is : (domain : Domain) → IsRange domain (missing (count_of domain))
missing_is domain = record {
  count = length-replicate (count_of domain) None;
  samples = All-replicate HasSample (count_of domain) None tt;
}

vertical_is : (b : Bool) (vertical : Option (List ℕ)) → IsSome (if b then vertical else None) → b ≡ true
vertical_is true vertical h = refl
vertical_is false vertical h = absurd (false≢true h)

referencing_is : (b : Bool) (r : Referencing) → IsReferencing r → IsReferencing (record { crs = r.crs; vertical = if b then r.vertical else None })
referencing_is true r h = record { crs = h.crs; vertical = h.vertical }
referencing_is false r h = record { crs = h.crs; vertical = tt }

-- over a domain that is valid there is a valid head
pub head_is : (s : Subject) (domain : Domain) (ps : List Parameter) → IsReferencing s.collection.referencing → HasAxes domain → HasTuples domain
    → 0 < length ps → All IsParameter ps → AscendById ps
    → IsHead (coverage_with s domain ps [])
head_is s domain ps referencing axes tuples some parameters ascending = record {
  ranges = map (λ (p : Parameter). missing (count_of domain)) ps;
  valid = record {
    id = tt;
    axes = axes;
    tuples = tuples;
    referencing = referencing_is (has_coordinate domain Z) s.collection.referencing referencing;
    vertical = vertical_is (has_coordinate domain Z) s.collection.referencing.vertical;
    some = some;
    parameters = parameters;
    ascending = ascending;
    as_many = length-map ps (λ (p : Parameter). missing (count_of domain));
    ranges = All-map (IsRange domain) (λ (p : Parameter). missing (count_of domain)) ps (λ k d l. missing_is domain);
  };
}
