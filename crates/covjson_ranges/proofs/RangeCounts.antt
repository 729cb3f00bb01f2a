-- How many values a range may have: each axis ascends between two bounds, and tuples stand beside axes of one value.
use Rattle.std.proofs.Common.{◌≡◌, ℕ, zero, suc, add-one, ◌+◌, ◌-◌, ◌*◌, ◌^◌, ◌<◌, ◌≤◌, ℤ, pos, neg_ℤ, ◌+ℤ◌, ◌≤ℤ◌, List, length, All, Option, Some, None, refl, arith}
use Rattle.std.specs.Prelude.{IfSome, option_map}
use Rattle.std.proofs.Math.Nat.{mul-le-mul}
use Rattle.std.proofs.lemmas.Int.{ints}
use Rattle.edr_base.specs.Limits.{coordinate_limit, earliest_time, latest_time, IsCoordinate}
use Rattle.edr_axes.specs.Axes.{value_at, IsAscending, IsAxis, axis_length}
use Rattle.covjson_value.specs.declared.domains.CoordinateName.{CoordinateName}
use Rattle.covjson_value.specs.declared.domains.CoordinateName.TheVariants.{T as Times, Z as Levels, Y as Rows, X as Columns}
use Rattle.covjson_value.specs.declared.domains.Domain.{Domain}
use Rattle.covjson_value.specs.declared.domains.Domain.TheVariants.{Grid, Point, PointSeries, VerticalProfile, MultiPoint, Trajectory}
use Rattle.covjson_value.specs.Domains.{axis_of, single}
use Rattle.covjson_value.specs.Coverages.{IsNamedAxis, HasAxes, HasTuples}
use Rattle.covjson_value.specs.declared.axis_names.AxisName.TheVariants.{T, Z, Y, X, Composite}
use Rattle.covjson_ranges.specs.Ranges.{length_of}

-- ---- one axis

-- in ascending whole numbers each value is at least as far above the first as its place
rises : (values : List ℤ) → IsAscending values → (place : ℕ) → place < length values → (value_at values 0 +ℤ pos place) ≤ℤ value_at values place
rises values ascends zero inside = omega (arith, ints)
rises values ascends (suc place) inside =
    let step = rw add-one at (ascends place (omega arith)) in
    omega (arith, ints, rises values ascends place (omega arith), step)

-- values between two bounds
abbrev AreBetween : ℤ → ℤ → List ℤ → Type 0
AreBetween low high values = (place : ℕ) → place < length values → (low ≤ℤ value_at values place) × (value_at values place ≤ℤ high)

-- so many values have room between two bounds
length_between : (values : List ℤ) (low high : ℤ) (n : ℕ) → IsAxis values → AreBetween low high values → high ≤ℤ (low +ℤ pos n) → length values ≤ n + 1
length_between values low high n axis between near =
    let some = axis.some in
    let last = rises values axis.ascending (length values - 1) (omega arith) in
    let first_in = (between 0 some).0 in
    let last_in = (between (length values - 1) (omega arith)).1 in
    omega (arith, ints, last, first_in, last_in, near)

-- a coordinate lies between two bounds
coordinate_between : (value : ℤ) → IsCoordinate value → (neg_ℤ (pos coordinate_limit) ≤ℤ value) × (value ≤ℤ pos coordinate_limit)
coordinate_between value h = (omega (arith, ints, h), omega (arith, ints, h))

-- so an axis of coordinates has so many at most
coordinates_few : (values : List ℤ) → IsAxis values → All IsCoordinate values → length values ≤ 200_000_001
coordinates_few values axis within =
    let between : AreBetween (neg_ℤ (pos coordinate_limit)) (pos coordinate_limit) values = λ place inside. coordinate_between (value_at values place) (within place (pos 0) inside) in
    omega (arith, length_between values (neg_ℤ (pos coordinate_limit)) (pos coordinate_limit) 200_000_000 axis between (omega (arith, ints)))

-- the most values that an axis may have
abbrev most : CoordinateName → ℕ
most Times = 400_000_000_001
most Levels = 200_000_001
most Rows = 200_000_001
most Columns = 200_000_001

-- an axis has no more than that
named_few : (name : CoordinateName) (values : List ℤ) → IsNamedAxis name values → length values ≤ most name
named_few Times values h =
    omega (arith, length_between values earliest_time latest_time 400_000_000_000 h.ascending (λ place inside. h.within place (pos 0) inside) (omega (arith, ints)))
named_few Levels values h = coordinates_few values h.ascending h.within
named_few Rows values h = coordinates_few values h.ascending h.within
named_few Columns values h = coordinates_few values h.ascending h.within

-- which is one at least
some_few : (name : CoordinateName) → 1 ≤ most name
some_few Times = omega arith
some_few Levels = omega arith
some_few Rows = omega arith
some_few Columns = omega arith

-- also where there is none
axis_few : (name : CoordinateName) (axis : Option (List ℤ)) → IfSome axis (IsNamedAxis name) → axis_length axis ≤ most name
axis_few name None h = some_few name
axis_few name (Some values) h = named_few name values h

-- ---- all of them

-- no product of the lengths is beyond 128 bits
pub record AreFew (t z y x n : ℕ) : Type 0 where
  pub levels : z * (y * (x * n)) < 2 ^ 128
  pub times : t * (z * (y * (x * n))) < 2 ^ 128

-- a product of two bounded numbers
product_few : (a b c d : ℕ) → a ≤ c → b ≤ d → a * b ≤ c * d
product_few a b c d h k = mul-le-mul h k

-- along axes
few_along : (t z y x n : ℕ) → t ≤ 400_000_000_001 → z ≤ 200_000_001 → y ≤ 200_000_001 → x ≤ 200_000_001 → n ≡ 1 → AreFew t z y x n
few_along t z y x n is_t is_z is_y is_x is_n =
    let columns : x * n ≤ 200_000_001 * 1 = product_few x n 200_000_001 1 is_x (omega arith) in
    let rows : y * (x * n) ≤ 200_000_001 * (200_000_001 * 1) = product_few y (x * n) 200_000_001 _ is_y columns in
    let levels : z * (y * (x * n)) ≤ 200_000_001 * (200_000_001 * (200_000_001 * 1)) = product_few z (y * (x * n)) 200_000_001 _ is_z rows in
    let times : t * (z * (y * (x * n))) ≤ 400_000_000_001 * (200_000_001 * (200_000_001 * (200_000_001 * 1))) = product_few t (z * (y * (x * n))) 400_000_000_001 _ is_t levels in
    record { levels = omega (arith, levels); times = omega (arith, times) }

-- an axis of one value adds no places
one_times : (a b : ℕ) → a ≡ 1 → a * b ≡ b
one_times a b one = rw one (omega arith)

-- along tuples, beside axes of one value
few_tuples : (t z y x n : ℕ) → t ≡ 1 → z ≡ 1 → y ≡ 1 → x ≡ 1 → n < 2 ^ 64 → AreFew t z y x n
few_tuples t z y x n is_t is_z is_y is_x few =
    let columns : x * n ≡ n = one_times x n is_x in
    let rows : y * (x * n) ≡ x * n = one_times y (x * n) is_y in
    let levels : z * (y * (x * n)) ≡ y * (x * n) = one_times z (y * (x * n)) is_z in
    let times : t * (z * (y * (x * n))) ≡ z * (y * (x * n)) = one_times t (z * (y * (x * n))) is_t in
    record { levels = omega arith; times = omega arith }

-- an axis of a single value has one, and is counted as one where it is left out
single_length : (o : Option ℤ) → axis_length (option_map single o) ≡ 1
single_length None = refl
single_length (Some value) = refl

-- the lengths of the axes of a domain
abbrev FewValues : Domain → Type 0
FewValues domain = AreFew (length_of domain T) (length_of domain Z) (length_of domain Y) (length_of domain X) (length_of domain Composite)

-- a domain without tuples
few_axes : (domain : Domain) → HasAxes domain → length_of domain Composite ≡ 1 → FewValues domain
few_axes domain axes one =
    few_along (length_of domain T) (length_of domain Z) (length_of domain Y) (length_of domain X) (length_of domain Composite)
    (axis_few Times (axis_of domain Times) (axes Times)) (axis_few Levels (axis_of domain Levels) (axes Levels))
    (axis_few Rows (axis_of domain Rows) (axes Rows)) (axis_few Columns (axis_of domain Columns) (axes Columns)) one

-- a domain of any type
few_values : (domain : Domain) → HasAxes domain → HasTuples domain → FewValues domain
few_values (Grid t z y x) axes tuples = few_axes (Grid t z y x) axes refl
few_values (Point t z y x) axes tuples = few_axes (Point t z y x) axes refl
few_values (PointSeries t z y x) axes tuples = few_axes (PointSeries t z y x) axes refl
few_values (VerticalProfile t z y x) axes tuples = few_axes (VerticalProfile t z y x) axes refl
few_values (MultiPoint t has_z spots) axes tuples = few_tuples _ 1 1 1 _ (single_length t) refl refl refl tuples.tuples.counted
few_values (Trajectory z has_z steps) axes tuples = few_tuples 1 _ 1 1 _ refl (single_length z) refl refl tuples.tuples.counted

-- lengths of the axes of a valid domain
pub lengths_few : (domain : Domain) (t z y x n : ℕ) → HasAxes domain → HasTuples domain → t ≡ length_of domain T → z ≡ length_of domain Z
    → y ≡ length_of domain Y → x ≡ length_of domain X → n ≡ length_of domain Composite → AreFew t z y x n
lengths_few domain t z y x n axes tuples is_t is_z is_y is_x is_n = rw (is_t, is_z, is_y, is_x, is_n) (few_values domain axes tuples)
