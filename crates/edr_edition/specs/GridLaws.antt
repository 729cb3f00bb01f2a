-- Laws of the axes, parameters and values of an instance, for the proofs of callers.
use Rattle.std.proofs.Common.{◌≡◌, ℕ, ◌*◌, ℤ, true, is_some, List, [], ◌∷◌, length, All, Option, Some, None, IfSome, refl, sym, ap, ◌∙◌, subst, arith}
use Rattle.std.proofs.lemmas.List.{length-append}
use Rattle.std.proofs.lemmas.List.Elements.{All-nil, All-append, All-head, All-tail}
use Rattle.covjson_value.specs.declared.domains.CoordinateName.{CoordinateName}
use Rattle.covjson_value.specs.declared.domains.CoordinateName.TheVariants.{T, Z, Y, X}
use Rattle.covjson_value.specs.declared.domains.Domain.{Domain}
use Rattle.covjson_value.specs.declared.domains.Domain.TheVariants.{Grid, Point, PointSeries, VerticalProfile, MultiPoint, Trajectory}
use Rattle.covjson_value.specs.declared.coverages.NdArray.{NdArray}
use Rattle.covjson_value.specs.declared.coverages.Coverage.{Coverage}
use Rattle.covjson_value.specs.Domains.{axis_of, has_axis, is_grid}
use Rattle.edr_axes.specs.Axes.{axis_length}
use Rattle.covjson_value.specs.Samples.{values_or_none}
use Rattle.covjson_value.specs.Coverages.{IsNamedAxis}
use Rattle.edr_chunk.specs.declared.shapes.GridShape.{GridShape}
use Rattle.edr_chunk.specs.Places.{nodes}
use Rattle.edr_edition.specs.Values.{InstanceValue}
use Rattle.edr_edition.specs.Instances.{IsTimedGrid, shape_of, shape_over, values_of, instance_of, IsInstance, HasGrid}
use Rattle.edr_edition.specs.ShapeLaws.{timed_shape, ranges_fill}
use Rattle.edr_base.specs.Limits.{HasSample, AreSamples}

-- ---- axes that are there

rows_there : (domain : Domain) → is_grid domain ≡ true → has_axis domain Y ≡ true
rows_there (Grid t z y x) grid = refl
rows_there (Point t z y x) grid = cc
rows_there (PointSeries t z y x) grid = cc
rows_there (VerticalProfile t z y x) grid = cc
rows_there (MultiPoint t has_z spots) grid = cc
rows_there (Trajectory z has_z steps) grid = cc

columns_there : (domain : Domain) → is_grid domain ≡ true → has_axis domain X ≡ true
columns_there (Grid t z y x) grid = refl
columns_there (Point t z y x) grid = cc
columns_there (PointSeries t z y x) grid = cc
columns_there (VerticalProfile t z y x) grid = cc
columns_there (MultiPoint t has_z spots) grid = cc
columns_there (Trajectory z has_z steps) grid = cc

named : (name : CoordinateName) (axis : Option (List ℤ)) → is_some axis ≡ true → IfSome axis (IsNamedAxis name) → IsNamedAxis name (values_or_none axis)
named name None there is = cc
named name (Some values) there is = is

as_long : (axis : Option (List ℤ)) → is_some axis ≡ true → axis_length axis ≡ length (values_or_none axis)
as_long None there = cc
as_long (Some values) there = refl

-- ---- values, range by range

values_count : (n : ℕ) (ranges : List NdArray) → All (λ (range : NdArray). length range.values ≡ n) ranges → length (values_of ranges) ≡ length ranges * n
values_count n [] all = omega arith
values_count n (range ∷ ranges) all =
    let one = All-head (λ (r : NdArray). length r.values ≡ n) range ranges all in
    let more = values_count n ranges (All-tail (λ (r : NdArray). length r.values ≡ n) range ranges all) in
    omega (arith, length-append range.values (values_of ranges), one, more)

values_samples : (ranges : List NdArray) → All (λ (range : NdArray). AreSamples range.values) ranges → AreSamples (values_of ranges)
values_samples [] all = All-nil HasSample
values_samples (range ∷ ranges) all =
    All-append HasSample range.values (values_of ranges) (All-head (λ (r : NdArray). AreSamples r.values) range ranges all)
    (values_samples ranges (All-tail (λ (r : NdArray). AreSamples r.values) range ranges all))

-- ---- an instance

abbrev shape_with : ℕ → ℕ → ℕ → ℕ → ℕ → GridShape
shape_with parameters times levels rows columns = record { parameters = parameters; times = times; levels = levels; rows = rows; columns = columns }

module _ (coverage : Coverage) (grid : IsTimedGrid coverage) where
  abbrev domain : Domain
  domain = coverage.domain

  same_shape : shape_of coverage
      ≡ shape_over (length coverage.parameters) (values_or_none (axis_of domain T)) (axis_of domain Z) (values_or_none (axis_of domain Y)) (values_or_none (axis_of domain X))
  same_shape =
      let levels = axis_length (axis_of domain Z) in
      let many = length coverage.parameters in
      ap (λ n. shape_with many n levels (axis_length (axis_of domain Y)) (axis_length (axis_of domain X))) (as_long (axis_of domain T) grid.times)
      ∙ (ap (λ n. shape_with many (length (values_or_none (axis_of domain T))) levels n (axis_length (axis_of domain X))) (as_long (axis_of domain Y) (rows_there domain grid.grid))
      ∙ ap (λ n. shape_with many (length (values_or_none (axis_of domain T))) levels (length (values_or_none (axis_of domain Y))) n) (as_long (axis_of domain X) (columns_there domain grid.grid)))

  grid_has : (id : List ℕ) → HasGrid (instance_of id coverage)
  grid_has id =
      let fill = ranges_fill coverage grid in
      record {
        ts = named T (axis_of domain T) grid.times (grid.valid.axes T);
        zs = grid.valid.axes Z;
        ys = named Y (axis_of domain Y) (rows_there domain grid.grid) (grid.valid.axes Y);
        xs = named X (axis_of domain X) (columns_there domain grid.grid) (grid.valid.axes X);
        some = grid.valid.some;
        parameters = grid.valid.parameters;
        ascending = grid.valid.ascending;
        shape = same_shape;
        is_shape = timed_shape coverage grid;
        as_many = values_count (nodes (shape_of coverage)) coverage.ranges (λ k d low. (fill k d low).0) ∙ ap (λ n. n * nodes (shape_of coverage)) grid.valid.as_many;
        samples = values_samples coverage.ranges (λ k d low. (fill k d low).1);
      }

pub instance_has : (instance : InstanceValue) → IsInstance instance → HasGrid instance
instance_has instance is = subst HasGrid (sym is.is) (grid_has is.coverage is.grid instance.id)
