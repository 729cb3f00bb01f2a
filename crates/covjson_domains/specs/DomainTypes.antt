-- The domain types (OGC 21-069r2, Domain types), and which axes a domain of each has.
use Rattle.std.specs.Prelude.{ℕ, ◌≡◌, ⊤, List}
use Rattle.covjson_value.specs.declared.domains.CoordinateName.{CoordinateName}
use Rattle.covjson_value.specs.declared.domains.CoordinateName.TheVariants as coordinates
use Rattle.covjson_value.specs.declared.axis_names.AxisName.{AxisName}
use Rattle.covjson_value.specs.declared.axis_names.AxisName.TheVariants.{T, Z, Y, X, Composite}
use Rattle.covjson_value.specs.AxisNames.{axis_key}
use Rattle.covjson_checks.specs.declared.faults.Member.{Member}
use Rattle.covjson_checks.specs.declared.faults.Member.TheVariants as members
use Rattle.covjson_value.specs.declared.domain_types.DomainType.{DomainType}
use Rattle.covjson_value.specs.declared.domain_types.DomainType.TheVariants.{Grid, Point, PointSeries, VerticalProfile, MultiPoint, Trajectory}
use Rattle.covjson_domains.specs.declared.domain_types.Presence.{Presence}
use Rattle.covjson_domains.specs.declared.domain_types.Presence.TheVariants.{Absent, Optional, Required, OptionalSingle, Single}

-- how a domain has each axis
pub record Presences : Type 0 where
  pub t : Presence
  pub z : Presence
  pub y : Presence
  pub x : Presence
  pub composite : Presence

-- the axes t, z, y, x and composite
abbrev pub of_axes : Presence → Presence → Presence → Presence → Presence → Presences
of_axes t z y x composite = record { t = t; z = z; y = y; x = x; composite = composite }

-- the table of the domain types: t, z, y, x, composite
abbrev pub axes_of_type : DomainType → Presences
axes_of_type Grid = of_axes Optional Optional Required Required Absent
axes_of_type Point = of_axes OptionalSingle OptionalSingle Single Single Absent
axes_of_type PointSeries = of_axes Required OptionalSingle Single Single Absent
axes_of_type VerticalProfile = of_axes OptionalSingle Required Single Single Absent
axes_of_type MultiPoint = of_axes OptionalSingle Absent Absent Absent Required
axes_of_type Trajectory = of_axes Absent OptionalSingle Absent Absent Required

-- how a domain of a type has the axis of a name
abbrev pub presence : DomainType → AxisName → Presence
presence kind T = (axes_of_type kind).t
presence kind Z = (axes_of_type kind).z
presence kind Y = (axes_of_type kind).y
presence kind X = (axes_of_type kind).x
presence kind Composite = (axes_of_type kind).composite

-- the axis may be there
abbrev pub IsAllowed : Presence → Type 0
IsAllowed Absent = ⊥
IsAllowed Optional = ⊤
IsAllowed Required = ⊤
IsAllowed OptionalSingle = ⊤
IsAllowed Single = ⊤

-- the axis has to be there
abbrev pub IsNeeded : Presence → Type 0
IsNeeded Absent = ⊥
IsNeeded Optional = ⊥
IsNeeded Required = ⊤
IsNeeded OptionalSingle = ⊥
IsNeeded Single = ⊤

-- the axis has a single value
abbrev pub IsSingle : Presence → Type 0
IsSingle Absent = ⊥
IsSingle Optional = ⊥
IsSingle Required = ⊥
IsSingle OptionalSingle = ⊤
IsSingle Single = ⊤

-- the name of an axis that a domain of a type may have
abbrev pub IsAxisOf : DomainType → List ℕ → Type 0
IsAxisOf kind key = (name : AxisName) × (key ≡ axis_key name) × IsAllowed (presence kind name)

-- the member that a fault of the axis of a coordinate names
abbrev pub member_of : CoordinateName → Member
member_of coordinates.T = members.T
member_of coordinates.Z = members.Z
member_of coordinates.Y = members.Y
member_of coordinates.X = members.X
