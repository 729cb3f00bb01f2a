-- Which coverages are the series of a station.
use Rattle.std.specs.Prelude.{◌≡◌, ℕ, ◌==◌, ◌&&◌, ◌≤◌, ℤ, Bool, true, false, List, length, map, Option}
use Rattle.covjson_value.specs.declared.domains.CoordinateName.TheVariants.{T, Z, Y, X}
use Rattle.covjson_value.specs.declared.domains.Domain.{Domain}
use Rattle.covjson_value.specs.declared.domains.Domain.TheVariants.{Grid, Point, PointSeries, VerticalProfile, MultiPoint, Trajectory}
use Rattle.covjson_value.specs.declared.coverages.NdArray.{NdArray}
use Rattle.covjson_value.specs.declared.coverages.Coverage.{Coverage}
use Rattle.covjson_value.specs.Domains.{axis_of, has_axis, count_of}
use Rattle.covjson_value.specs.Samples.{values_or_none}
use Rattle.covjson_value.specs.Coverages.{IsValid, range_values}
use Rattle.edr_axes.specs.Axes.{value_at}
use Rattle.edr_base.specs.Limits.{node_limit}
use Rattle.edr_station.specs.declared.inputs.StationInput.{StationInput}
use Rattle.edr_station.specs.Stations.{StationValue}

-- a PointSeries, or a Grid of one x and one y
abbrev pub is_at_one_place : Domain → Bool
is_at_one_place (Grid t z y x) = (length y == 1) && (length x == 1)
is_at_one_place (Point t z y x) = false
is_at_one_place (PointSeries t z y x) = true
is_at_one_place (VerticalProfile t z y x) = false
is_at_one_place (MultiPoint t has_z spots) = false
is_at_one_place (Trajectory z has_z steps) = false

-- the first value of an axis
abbrev pub first_of : Option (List ℤ) → ℤ
first_of axis = value_at (values_or_none axis) 0

-- the station that such a coverage is: its place, its axes, and the values of each of its ranges, in the order t, z
abbrev pub station_of : List ℕ → List ℕ → Coverage → StationValue
station_of id label coverage = record {
  id = id;
  label = label;
  x = first_of (axis_of coverage.domain X);
  y = first_of (axis_of coverage.domain Y);
  ts = values_or_none (axis_of coverage.domain T);
  zs = axis_of coverage.domain Z;
  series = map range_values coverage.ranges;
}

-- ---- for private clauses

-- the same as the input of a station
abbrev pub input_over : List ℕ → List ℕ → Domain → List NdArray → StationInput
input_over id label domain ranges = record {
  id = id;
  label = label;
  x = first_of (axis_of domain X);
  y = first_of (axis_of domain Y);
  times = values_or_none (axis_of domain T);
  levels = axis_of domain Z;
  series = map range_values ranges;
}

-- a valid series of a station, with times and few enough values
pub record IsTimedSeries (coverage : Coverage) : Type 0 where
  pub valid : IsValid coverage
  pub place : is_at_one_place coverage.domain ≡ true
  pub times : has_axis coverage.domain T ≡ true
  pub few : count_of coverage.domain ≤ node_limit
