-- The domain types (OGC 21-069r2, Domain types), by their names.
use Rattle.std.specs.Prelude.{ℕ, List, bytes_eq, codes, if◌then◌else◌, Option, Some, None}
use Rattle.covjson_value.specs.declared.domains.Domain.{Domain}
use Rattle.covjson_value.specs.declared.domains.Domain.TheVariants as domain
use Rattle.covjson_value.specs.declared.domain_types.DomainType.{DomainType}
use Rattle.covjson_value.specs.declared.domain_types.DomainType.TheVariants.{Grid, Point, PointSeries, VerticalProfile, MultiPoint, Trajectory}

-- the name of a type in CoverageJSON
abbrev pub type_key : DomainType → List ℕ
type_key Grid = codes "Grid"
type_key Point = codes "Point"
type_key PointSeries = codes "PointSeries"
type_key VerticalProfile = codes "VerticalProfile"
type_key MultiPoint = codes "MultiPoint"
type_key Trajectory = codes "Trajectory"

-- and the type of a name
abbrev pub type_by_name : List ℕ → Option DomainType
type_by_name text =
    if bytes_eq text (type_key Grid) then Some Grid
    else if bytes_eq text (type_key Point) then Some Point
    else if bytes_eq text (type_key PointSeries) then Some PointSeries
    else if bytes_eq text (type_key VerticalProfile) then Some VerticalProfile
    else if bytes_eq text (type_key MultiPoint) then Some MultiPoint
    else if bytes_eq text (type_key Trajectory) then Some Trajectory
    else None

-- the type of a domain
abbrev pub kind_of : Domain → DomainType
kind_of (domain.Grid t z y x) = Grid
kind_of (domain.Point t z y x) = Point
kind_of (domain.PointSeries t z y x) = PointSeries
kind_of (domain.VerticalProfile t z y x) = VerticalProfile
kind_of (domain.MultiPoint t has_z spots) = MultiPoint
kind_of (domain.Trajectory z has_z steps) = Trajectory
