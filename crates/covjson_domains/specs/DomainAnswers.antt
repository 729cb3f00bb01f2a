-- The domain of a tree: its axes by its type, or the first check that fails.
use Rattle.std.specs.Prelude.{◌<◌, ◌^◌, List, [], length, codes, Bool, false, is_some, if◌then◌else◌, ℤ, pos, Option, Some, None, IfSome, option_map, Ok}
use Rattle.serde_json.specs.Data.{Data}
use Rattle.serde_json.specs.Find.{get}
use Rattle.edr_base.specs.FirstThatApplies.{and_then, or_fault, check}
use Rattle.edr_axes.specs.Axes.{value_at}
use Rattle.covjson_value.specs.declared.domains.CoordinateName.TheVariants.{T, Z, Y, X}
use Rattle.covjson_value.specs.declared.axis_names.AxisName.TheVariants as axis
use Rattle.covjson_value.specs.declared.domains.Domain.{Domain}
use Rattle.covjson_value.specs.declared.domains.Domain.TheVariants as domain
use Rattle.covjson_value.specs.Domains as domains
use Rattle.covjson_value.specs.AxisNames.{axis_key}
use Rattle.covjson_checks.specs.declared.turned.Turned.{Turned}
use Rattle.covjson_checks.specs.declared.turned.ReadDomain.{ReadDomain}
use Rattle.covjson_checks.specs.declared.faults.Member.TheVariants.{DomainType as TypeMember, Axes, Composite}
use Rattle.covjson_checks.specs.declared.faults.CovFault.TheVariants.{Missing, WrongType, UnsupportedDomain}
use Rattle.covjson_checks.specs.Answers.{Answer}
use Rattle.covjson_checks.specs.Members.{need, object_at, text_at}
use Rattle.covjson_domains.specs.declared.axes.ReadAxis.{ReadAxis}
use Rattle.covjson_domains.specs.declared.tuples.ReadTuples.{ReadTuples}
use Rattle.covjson_domains.specs.declared.tuples.TupleKind.{TupleKind}
use Rattle.covjson_domains.specs.declared.tuples.TupleKind.TheVariants.{Places, Steps, LevelSteps}
use Rattle.covjson_domains.specs.declared.domains.ReadAxes.{ReadAxes}
use Rattle.covjson_value.specs.declared.domain_types.DomainType.{DomainType}
use Rattle.covjson_value.specs.declared.domain_types.DomainType.TheVariants.{Grid, Point, PointSeries, VerticalProfile, MultiPoint, Trajectory}
use Rattle.covjson_value.specs.DomainTypes.{type_by_name}
use Rattle.covjson_domains.specs.declared.domain_types.Presence.{Presence}
use Rattle.covjson_domains.specs.DomainTypes.{presence}
use Rattle.covjson_domains.specs.TypeAnswers.{has_no_others, left_out}
use Rattle.covjson_domains.specs.AxisAnswers.{axis_by, IfNeeded}
use Rattle.covjson_domains.specs.TupleAnswers.{tuples_read}

-- the type of a domain
abbrev pub type_at : Option Data → Answer DomainType
type_at found =
    and_then (or_fault found (Missing TypeMember)) (λ d.
    and_then (text_at TypeMember d) (λ name.
    or_fault (type_by_name name) (UnsupportedDomain name)))

-- the axes of a domain of a type, and no others
abbrev pub axes_at : DomainType → Data → Answer Data
axes_at kind tree =
    and_then (need (codes "axes") Axes tree) (λ axes.
    and_then (object_at Axes axes) (λ members.
    and_then (check (has_no_others kind members) (WrongType Axes)) (λ _. Ok axes)))

-- ---- the axes, in the order t, z, y, x, composite

-- the tuples of a type: those of a trajectory have levels of their own only where it has no axis of levels
abbrev pub tuple_kind : DomainType → Bool → TupleKind
tuple_kind Grid has_level = Places
tuple_kind Point has_level = Places
tuple_kind PointSeries has_level = Places
tuple_kind VerticalProfile has_level = Places
tuple_kind MultiPoint has_level = Places
tuple_kind Trajectory has_level = if has_level then LevelSteps else Steps

-- what is read of a composite axis
abbrev pub composite_if : Presence → TupleKind → Option Data → Answer (Option ReadTuples)
composite_if wanted kind None = and_then (left_out wanted Composite) (λ _. Ok None)
composite_if wanted kind (Some axis) = and_then (tuples_read kind axis) (λ read. Ok (Some read))

abbrev pub composite_by : Presence → TupleKind → Data → Answer (Option ReadTuples)
composite_by wanted kind axes = composite_if wanted kind (get (axis_key axis.Composite) axes)

abbrev pub axes_read : DomainType → Data → Answer ReadAxes
axes_read kind axes =
    and_then (axis_by (presence kind axis.T) T axes) (λ t.
    and_then (axis_by (presence kind axis.Z) Z axes) (λ z.
    and_then (axis_by (presence kind axis.Y) Y axes) (λ y.
    and_then (axis_by (presence kind axis.X) X axes) (λ x.
    and_then (composite_by (presence kind axis.Composite) (tuple_kind kind (is_some z)) axes) (λ composite.
    Ok (record { t = t; z = z; y = y; x = x; composite = composite }))))))

-- ---- the domain of these axes

abbrev pub is_turned_round : Option ReadAxis → Bool
is_turned_round None = false
is_turned_round (Some read) = read.turned

abbrev pub axis_of_read : ReadAxis → List ℤ
axis_of_read read = read.axis

abbrev pub axis_in : Option ReadAxis → Option (List ℤ)
axis_in read = option_map axis_of_read read

-- the values of an axis, and none where it isn't there
abbrev pub values_of : Option ReadAxis → List ℤ
values_of None = []
values_of (Some read) = read.axis

-- the first value of an axis, and 0 where it isn't there
abbrev pub value_of : Option ReadAxis → ℤ
value_of None = pos 0
value_of (Some read) = value_at read.axis 0

abbrev pub value_in : Option ReadAxis → Option ℤ
value_in None = None
value_in (Some read) = Some (value_at read.axis 0)

-- the tuples, and none where there is no composite axis
abbrev pub tuples_of : Option ReadTuples → ReadTuples
tuples_of None = record { tuples = []; has_z = false }
tuples_of (Some read) = read

abbrev pub domain_formed : DomainType → ReadAxes → Domain
domain_formed Grid r = domain.Grid (axis_in r.t) (axis_in r.z) (values_of r.y) (values_of r.x)
domain_formed Point r = domain.Point (value_in r.t) (value_in r.z) (value_of r.y) (value_of r.x)
domain_formed PointSeries r = domain.PointSeries (values_of r.t) (value_in r.z) (value_of r.y) (value_of r.x)
domain_formed VerticalProfile r = domain.VerticalProfile (value_in r.t) (values_of r.z) (value_of r.y) (value_of r.x)
domain_formed MultiPoint r = domain.MultiPoint (value_in r.t) (tuples_of r.composite).has_z (tuples_of r.composite).tuples
domain_formed Trajectory r = domain.Trajectory (value_in r.z) (tuples_of r.composite).has_z (tuples_of r.composite).tuples

-- the axes that are turned round
abbrev pub turned_in : ReadAxes → Turned
turned_in r = record { t = is_turned_round r.t; z = is_turned_round r.z; y = is_turned_round r.y; x = is_turned_round r.x }

abbrev pub formed : DomainType → ReadAxes → ReadDomain
formed kind r = record { domain = domain_formed kind r; turned = turned_in r }

-- the domain of a tree, whose type was found there or elsewhere
abbrev pub domain_of : Option Data → Data → Answer ReadDomain
domain_of found tree =
    and_then (type_at found) (λ kind.
    and_then (axes_at kind tree) (λ axes.
    and_then (axes_read kind axes) (λ read. Ok (formed kind read))))

-- ---- for private clauses

-- each axis that a domain of the type needs is there
pub record HasNeeded (kind : DomainType) (read : ReadAxes) : Type 0 where
  pub t : IfNeeded (presence kind axis.T) read.t
  pub z : IfNeeded (presence kind axis.Z) read.z
  pub y : IfNeeded (presence kind axis.Y) read.y
  pub x : IfNeeded (presence kind axis.X) read.x
  pub composite : IfNeeded (presence kind axis.Composite) read.composite

-- the tuples are as many as can be counted
abbrev pub CompositeCounted : Option ReadTuples → Type 0
CompositeCounted read = IfSome read (λ r. length r.tuples < 2 ^ 64)

abbrev pub AreCounted : Domain → Type 0
AreCounted d = IfSome (domains.tuples_of d) (λ tuples. length tuples < 2 ^ 64)
