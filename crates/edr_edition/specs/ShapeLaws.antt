-- Laws of the shape of a grid of few nodes and of the values of its ranges, for the proofs of callers.
use Rattle.std.proofs.Common.{◌≡◌, ℕ, ◌*◌, ◌≤◌, ℤ, List, All, Option, Some, None, IfSome, true, refl, ap, ◌∙◌, subst, arith}
use Rattle.std.proofs.Math.Nat.{le-mul_of_pos_right}
use Rattle.covjson_value.specs.declared.domains.CoordinateName.{CoordinateName}
use Rattle.covjson_value.specs.declared.domains.CoordinateName.TheVariants.{T, Z, Y, X}
use Rattle.covjson_value.specs.declared.domains.Domain.{Domain}
use Rattle.covjson_value.specs.declared.domains.Domain.TheVariants.{Grid, Point, PointSeries, VerticalProfile, MultiPoint, Trajectory}
use Rattle.covjson_value.specs.declared.coverages.NdArray.{NdArray}
use Rattle.covjson_value.specs.declared.coverages.Coverage.{Coverage}
use Rattle.covjson_value.specs.Domains.{axis_of, tuples_of, is_grid, count_of}
use Rattle.edr_axes.specs.Axes.{axis_length}
use Rattle.covjson_value.specs.Coverages.{IsNamedAxis}
use Rattle.covjson_value.specs.CountLaws.{count_is}
use Rattle.edr_chunk.specs.declared.shapes.GridShape.{GridShape}
use Rattle.edr_chunk.specs.Places.{IsShape, nodes}
use Rattle.edr_edition.specs.Instances.{IsTimedGrid, shape_of, FillsNodes}
use Rattle.edr_base.specs.Limits.{node_limit}

-- ---- lengths whose product is small

pub record AreSmall (t z y x : ℕ) : Type 0 where
  pub times : t ≤ node_limit
  pub levels : z ≤ node_limit
  pub rows : y ≤ node_limit
  pub columns : x ≤ node_limit

are_small : (times levels rows columns : ℕ) → 1 ≤ times → 1 ≤ levels → 1 ≤ rows → 1 ≤ columns → ((times * levels) * rows) * columns ≤ node_limit → AreSmall times levels rows columns
are_small times levels rows columns t z y x few =
    let plane : times * levels ≤ (times * levels) * rows = le-mul_of_pos_right (times * levels) y in
    let cube : (times * levels) * rows ≤ ((times * levels) * rows) * columns = le-mul_of_pos_right ((times * levels) * rows) x in
    let time : times ≤ times * levels = le-mul_of_pos_right times z in
    let level : levels ≤ levels * times = le-mul_of_pos_right levels t in
    let row : rows ≤ rows * (times * levels) = le-mul_of_pos_right rows (omega arith) in
    let column : columns ≤ columns * ((times * levels) * rows) = le-mul_of_pos_right columns (omega arith) in
    record { times = omega arith; levels = omega arith; rows = omega arith; columns = omega arith }

pub small_sides : (shape : GridShape) → IsShape shape → AreSmall shape.times shape.levels shape.rows shape.columns
small_sides shape is = are_small shape.times shape.levels shape.rows shape.columns is.times is.levels is.rows is.columns is.few

-- ---- the shape of a grid

some_length : (name : CoordinateName) (axis : Option (List ℤ)) → IfSome axis (IsNamedAxis name) → 1 ≤ axis_length axis
some_length name None h = omega arith
some_length name (Some values) h = h.ascending.some

no_tuples : (domain : Domain) → is_grid domain ≡ true → axis_length (tuples_of domain) ≡ 1
no_tuples (Grid t z y x) grid = refl
no_tuples (Point t z y x) grid = cc
no_tuples (PointSeries t z y x) grid = cc
no_tuples (VerticalProfile t z y x) grid = cc
no_tuples (MultiPoint t has_z spots) grid = cc
no_tuples (Trajectory z has_z steps) grid = cc

in_turn : (t z y x one : ℕ) → one ≡ 1 → t * (z * (y * (x * one))) ≡ ((t * z) * y) * x
in_turn t z y x one h =
    let product : t * (z * (y * (x * 1))) ≡ ((t * z) * y) * x = omega arith in
    ap (λ n. t * (z * (y * (x * n)))) h ∙ product

-- each parameter has as many values as there are nodes
pub count_nodes : (coverage : Coverage) → IsTimedGrid coverage → count_of coverage.domain ≡ nodes (shape_of coverage)
count_nodes coverage grid =
    let domain = coverage.domain in
    count_is domain
    ∙ in_turn (axis_length (axis_of domain T)) (axis_length (axis_of domain Z)) (axis_length (axis_of domain Y)) (axis_length (axis_of domain X))
    (axis_length (tuples_of domain)) (no_tuples domain grid.grid)

pub timed_shape : (coverage : Coverage) → IsTimedGrid coverage → IsShape (shape_of coverage)
timed_shape coverage grid = record {
  parameters = grid.valid.some;
  times = some_length T (axis_of coverage.domain T) (grid.valid.axes T);
  levels = some_length Z (axis_of coverage.domain Z) (grid.valid.axes Z);
  rows = some_length Y (axis_of coverage.domain Y) (grid.valid.axes Y);
  columns = some_length X (axis_of coverage.domain X) (grid.valid.axes X);
  few = subst (λ n. n ≤ node_limit) (count_nodes coverage grid) grid.few;
}

-- each range has a sample, or none, for each node
pub ranges_fill : (coverage : Coverage) → IsTimedGrid coverage → All (λ (range : NdArray). FillsNodes (shape_of coverage) range.values) coverage.ranges
ranges_fill coverage grid = λ k d low. ((grid.valid.ranges k d low).count ∙ count_nodes coverage grid, (grid.valid.ranges k d low).samples)
