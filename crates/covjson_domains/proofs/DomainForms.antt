-- The domain that is formed of the axes that were read.
use Rattle.std.specs.Prelude.{is_some}
use Rattle.std.proofs.Common.{◌≡◌, ℤ, Bool, true, false, List, length, Option, Some, None, IfSome, option_map, refl, sym, ap, ap₂, ◌∙◌}
use Rattle.std.proofs.lemmas.Bool.{false≢true}
use Rattle.covjson_value.specs.declared.domains.CoordinateName.{CoordinateName}
use Rattle.covjson_value.specs.declared.domains.CoordinateName.TheVariants.{T, Z, Y, X}
use Rattle.covjson_value.specs.declared.domains.Domain.{Domain}
use Rattle.covjson_value.specs.declared.domains.Domain.TheVariants as domain
use Rattle.covjson_value.specs.Domains as domains
use Rattle.covjson_value.specs.Domains.{axis_of, single}
use Rattle.covjson_checks.specs.declared.turned.Turned.{Turned}
use Rattle.covjson_domains.specs.declared.axes.ReadAxis.{ReadAxis}
use Rattle.covjson_domains.specs.declared.tuples.ReadTuples.{ReadTuples}
use Rattle.covjson_domains.specs.declared.domains.ReadAxes.{ReadAxes}
use Rattle.covjson_value.specs.declared.domain_types.DomainType.{DomainType}
use Rattle.covjson_value.specs.declared.domain_types.DomainType.TheVariants.{Grid, Point, PointSeries, VerticalProfile, MultiPoint, Trajectory}
use Rattle.covjson_domains.specs.declared.domain_types.Presence.{Presence}
use Rattle.covjson_domains.specs.declared.domain_types.Presence.TheVariants.{Absent, Optional, Required, OptionalSingle, Single}
use Rattle.covjson_domains.specs.DomainTypes.{presence}
use Rattle.covjson_value.specs.AxisNames.{axis_name}
use Rattle.covjson_value.specs.DomainTypes.{kind_of}
use Rattle.covjson_domains.specs.DomainAnswers.{axis_in, values_of, value_of, value_in, domain_formed}
use Rattle.covjson_domains.proofs.AxisLaws.{only_value}
use Rattle.covjson_domains.proofs.DomainTypes.{Fits}
use Rattle.covjson_domains.proofs.DomainAxes.{read_as, same_values}

-- ---- the axes of the domain that is formed

-- the axis of a name
abbrev pub read_at : ReadAxes → CoordinateName → Option ReadAxis
read_at r T = r.t
read_at r Z = r.z
read_at r Y = r.y
read_at r X = r.x

-- what a domain takes of an axis that was read
abbrev taken : Presence → Option ReadAxis → Option (List ℤ)
taken Absent read = None
taken Optional read = axis_in read
taken Required read = Some (values_of read)
taken OptionalSingle read = option_map single (value_in read)
taken Single read = Some (single (value_of read))

-- each axis of a domain is what it takes of the one that was read
formed_taken : (kind : DomainType) (r : ReadAxes) (name : CoordinateName) → axis_of (domain_formed kind r) name ≡ taken (presence kind (axis_name name)) (read_at r name)
formed_taken Grid r T = refl
formed_taken Grid r Z = refl
formed_taken Grid r Y = refl
formed_taken Grid r X = refl
formed_taken Point r T = refl
formed_taken Point r Z = refl
formed_taken Point r Y = refl
formed_taken Point r X = refl
formed_taken PointSeries r T = refl
formed_taken PointSeries r Z = refl
formed_taken PointSeries r Y = refl
formed_taken PointSeries r X = refl
formed_taken VerticalProfile r T = refl
formed_taken VerticalProfile r Z = refl
formed_taken VerticalProfile r Y = refl
formed_taken VerticalProfile r X = refl
formed_taken MultiPoint r T = refl
formed_taken MultiPoint r Z = refl
formed_taken MultiPoint r Y = refl
formed_taken MultiPoint r X = refl
formed_taken Trajectory r T = refl
formed_taken Trajectory r Z = refl
formed_taken Trajectory r Y = refl
formed_taken Trajectory r X = refl

-- an axis that has to be there
required_is : (read : Option ReadAxis) → is_some (axis_in read) ≡ true → Some (values_of read) ≡ axis_in read
required_is None h = absurd (false≢true h)
required_is (Some r) h = refl

-- an axis of one value that may be left out
optional_single_is : (read : Option ReadAxis) → IfSome (axis_in read) (λ vs. length vs ≡ 1) → option_map single (value_in read) ≡ axis_in read
optional_single_is None h = refl
optional_single_is (Some r) h = ap Some (sym (only_value r.axis h))

-- an axis of one value
single_is : (read : Option ReadAxis) → is_some (axis_in read) ≡ true → IfSome (axis_in read) (λ vs. length vs ≡ 1) → Some (single (value_of read)) ≡ axis_in read
single_is None h one = absurd (false≢true h)
single_is (Some r) h one = ap Some (sym (only_value r.axis one))

-- what is taken of an axis as it is wanted is the axis
taken_is : (wanted : Presence) (read : Option ReadAxis) → Fits wanted (axis_in read) → taken wanted read ≡ axis_in read
taken_is Absent read fits = sym (fits.absent refl)
taken_is Optional read fits = refl
taken_is Required read fits = required_is read (fits.needed refl)
taken_is OptionalSingle read fits = optional_single_is read (fits.single refl)
taken_is Single read fits = single_is read (fits.needed refl) (fits.single refl)

-- the axes of the domain are those that were read, where these are as its type wants them
pub formed_axes : (kind : DomainType) (r : ReadAxes) → ((name : CoordinateName) → Fits (presence kind (axis_name name)) (axis_in (read_at r name)))
    → (name : CoordinateName) → axis_of (domain_formed kind r) name ≡ axis_in (read_at r name)
formed_axes kind r fits name = formed_taken kind r name ∙ taken_is (presence kind (axis_name name)) (read_at r name) (fits name)

-- and it is of its type
pub formed_kind : (kind : DomainType) (r : ReadAxes) → kind_of (domain_formed kind r) ≡ kind
formed_kind Grid r = refl
formed_kind Point r = refl
formed_kind PointSeries r = refl
formed_kind VerticalProfile r = refl
formed_kind MultiPoint r = refl
formed_kind Trajectory r = refl

-- ---- the axes of a domain, as they are read

-- whether the tuples of a domain have levels of their own
abbrev pub has_levels : Domain → Bool
has_levels (domain.Grid t z y x) = false
has_levels (domain.Point t z y x) = false
has_levels (domain.PointSeries t z y x) = false
has_levels (domain.VerticalProfile t z y x) = false
has_levels (domain.MultiPoint t has_z spots) = has_z
has_levels (domain.Trajectory z has_z steps) = has_z

-- the tuples of a domain, as they are read
abbrev pub tuples_as : Domain → Option ReadTuples
tuples_as d = option_map (λ tuples. record { tuples = tuples; has_z = has_levels d }) (domains.tuples_of d)

-- and its axes
abbrev pub axes_as : Turned → Domain → ReadAxes
axes_as turned d = record {
  t = read_as turned.t (axis_of d T);
  z = read_as turned.z (axis_of d Z);
  y = read_as turned.y (axis_of d Y);
  x = read_as turned.x (axis_of d X);
  composite = tuples_as d;
}

-- the one value of an axis
single_value : (turned : Bool) (value : Option ℤ) → value_in (read_as turned (option_map single value)) ≡ value
single_value turned None = refl
single_value turned (Some v) = refl

-- the domain that is formed of them is the domain
pub formed_back : (turned : Turned) (d : Domain) → domain_formed (kind_of d) (axes_as turned d) ≡ d
formed_back turned (domain.Grid t z y x) = ap₂ (λ (u w : Option (List ℤ)). domain.Grid u w y x) (same_values turned.t t) (same_values turned.z z)
formed_back turned (domain.Point t z y x) = ap₂ (λ (u w : Option ℤ). domain.Point u w y x) (single_value turned.t t) (single_value turned.z z)
formed_back turned (domain.PointSeries t z y x) = ap (λ (w : Option ℤ). domain.PointSeries t w y x) (single_value turned.z z)
formed_back turned (domain.VerticalProfile t z y x) = ap (λ (u : Option ℤ). domain.VerticalProfile u z y x) (single_value turned.t t)
formed_back turned (domain.MultiPoint t has_z spots) = ap (λ (u : Option ℤ). domain.MultiPoint u has_z spots) (single_value turned.t t)
formed_back turned (domain.Trajectory z has_z steps) = ap (λ (w : Option ℤ). domain.Trajectory w has_z steps) (single_value turned.z z)
