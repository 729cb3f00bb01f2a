-- Laws of Grids with times, for the proofs of callers.
use Rattle.std.proofs.Common.{◌≡◌, Some, None, true, refl}
use Rattle.covjson_value.specs.declared.domains.CoordinateName.TheVariants.{T, Z, Y, X}
use Rattle.covjson_value.specs.declared.domains.Domain.{Domain}
use Rattle.covjson_value.specs.declared.domains.Domain.TheVariants.{Grid, Point, PointSeries, VerticalProfile, MultiPoint, Trajectory}
use Rattle.covjson_value.specs.Domains.{axis_of, has_axis, is_grid}
use Rattle.covjson_value.specs.Samples.{values_or_none}

domain_with_times : (domain : Domain) → is_grid domain ≡ true → has_axis domain T ≡ true
    → domain ≡ Grid (Some (values_or_none (axis_of domain T))) (axis_of domain Z) (values_or_none (axis_of domain Y)) (values_or_none (axis_of domain X))
domain_with_times (Grid (Some t) z y x) grid times = refl
domain_with_times (Grid None z y x) grid times = cc
domain_with_times (Point t z y x) grid times = cc
domain_with_times (PointSeries t z y x) grid times = cc
domain_with_times (VerticalProfile t z y x) grid times = cc
domain_with_times (MultiPoint t has_z spots) grid times = cc
domain_with_times (Trajectory z has_z steps) grid times = cc
