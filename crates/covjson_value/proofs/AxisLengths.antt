-- A valid axis is short: it ascends between two bounds.
use Rattle.std.proofs.Common.{◌≡◌, ℕ, zero, suc, ◌+◌, ◌-◌, ◌<◌, ◌≤◌, ◌^◌, ℤ, pos, neg_ℤ, ◌+ℤ◌, ◌≤ℤ◌, Bool, true, false, if◌then◌else◌, List, [], length, All, Option, Some, None, IfSome, refl, arith, add-one}
use Rattle.std.proofs.lemmas.Int.{ints}
use Rattle.std.proofs.lemmas.List.Elements.{All-nil, All-cons}
use Rattle.json.proofs.Printed.Utf8.{are_ascii}
use Rattle.edr_base.specs.Limits.{coordinate_limit, earliest_time, latest_time, IsCoordinate}
use Rattle.edr_base.specs.declared.places.Position.{Position}
use Rattle.edr_axes.specs.Axes.{value_at, IsAscending, IsAxis}
use Rattle.covjson_value.specs.declared.domains.CoordinateName.{CoordinateName}
use Rattle.covjson_value.specs.declared.domains.CoordinateName.TheVariants.{T, Z, Y, X}
use Rattle.covjson_value.specs.declared.domains.Domain.{Domain}
use Rattle.covjson_value.specs.Domains.{AxisLength, axis_of, tuples_of, coordinates_of, axis_before, composite_alone, is_grid, long_axis, range_axes, range_axis_of, range_tuples_of}
use Rattle.covjson_value.specs.Coverages.{IsNamedAxis, HasAxes, AreTuples, HasTuples}
use Rattle.covjson_value.specs.AxisNames.{axis_key, axis_name}

rises : (values : List ℤ) → IsAscending values → (place : ℕ) → place < length values → (value_at values 0 +ℤ pos place) ≤ℤ value_at values place
rises values ascends zero inside = omega (arith, ints)
rises values ascends (suc place) inside =
    let step = rw add-one at (ascends place (omega arith)) in
    omega (arith, ints, rises values ascends place (omega arith), step)

-- values between two bounds
abbrev AreBetween : ℤ → ℤ → List ℤ → Type 0
AreBetween low high values = (place : ℕ) → place < length values → (low ≤ℤ value_at values place) × (value_at values place ≤ℤ high)

length_between : (values : List ℤ) (low high : ℤ) (n : ℕ) → IsAxis values → AreBetween low high values → high ≤ℤ (low +ℤ pos n) → length values ≤ n + 1
length_between values low high n axis between near =
    let some = axis.some in
    let last = rises values axis.ascending (length values - 1) (omega arith) in
    let first_in = (between 0 some).0 in
    let last_in = (between (length values - 1) (omega arith)).1 in
    omega (arith, ints, last, first_in, last_in, near)

abbrev pub IsShort : List ℤ → Type 0
IsShort values = length values < 2 ^ 63

coordinate_between : (value : ℤ) → IsCoordinate value → (neg_ℤ (pos coordinate_limit) ≤ℤ value) × (value ≤ℤ pos coordinate_limit)
coordinate_between value h = (omega (arith, ints, h), omega (arith, ints, h))

coordinates_short : (values : List ℤ) → IsAxis values → All IsCoordinate values → IsShort values
coordinates_short values axis within =
    let between : AreBetween (neg_ℤ (pos coordinate_limit)) (pos coordinate_limit) values = λ place inside. coordinate_between (value_at values place) (within place (pos 0) inside) in
    omega (arith, length_between values (neg_ℤ (pos coordinate_limit)) (pos coordinate_limit) (coordinate_limit + coordinate_limit) axis between (omega (arith, ints)))

IsShort-axis : (name : CoordinateName) (values : List ℤ) → IsNamedAxis name values → IsShort values
IsShort-axis T values h =
    omega (arith, length_between values earliest_time latest_time (2 ^ 40) h.ascending (λ place inside. h.within place (pos 0) inside) (omega (arith, ints)))
IsShort-axis Z values h = coordinates_short values h.ascending h.within
IsShort-axis Y values h = coordinates_short values h.ascending h.within
IsShort-axis X values h = coordinates_short values h.ascending h.within

-- ---- the axes of the ranges

-- an axis of ranges, by a name of ASCII and a count of 64 bits
pub record IsCounted (axis : AxisLength) : Type 0 where
  pub key : are_ascii axis.key ≡ true
  pub count : axis.count < 2 ^ 64

key_ascii : (name : CoordinateName) → are_ascii (axis_key (axis_name name)) ≡ true
key_ascii T = refl
key_ascii Z = refl
key_ascii Y = refl
key_ascii X = refl

abbrev HasCount : {V : Type 0} → List V → Type 0
HasCount values = length values < 2 ^ 64

kept_counted : {V : Type 0} (test : Bool) (values : List V) → HasCount values → IfSome (if test then Some values else None) HasCount
kept_counted true values h = h
kept_counted false values h = tt

long_counted : {V : Type 0} (each : Bool) (axis : Option (List V)) → IfSome axis HasCount → IfSome (long_axis each axis) HasCount
long_counted each None h = tt
long_counted each (Some values) h = kept_counted _ values h

axis_counted : (name : CoordinateName) (axis : Option (List ℤ)) → IfSome axis (IsNamedAxis name) → IfSome axis HasCount
axis_counted name None h = tt
axis_counted name (Some values) h = omega (arith, IsShort-axis name values h)

tuples_counted : (names : List CoordinateName) (tuples : Option (List Position)) → IfSome tuples (AreTuples names) → IfSome tuples HasCount
tuples_counted names None h = tt
tuples_counted names (Some tuples) h = h.counted

before_counted : (name : CoordinateName) (axis : Option (List ℤ)) (axes : List AxisLength) → IfSome axis HasCount → All IsCounted axes → All IsCounted (axis_before name axis axes)
before_counted name None axes h hs = hs
before_counted name (Some values) axes h hs = All-cons IsCounted _ axes (record { key = key_ascii name; count = h }) hs

alone_counted : (tuples : Option (List Position)) → IfSome tuples HasCount → All IsCounted (composite_alone tuples)
alone_counted None h = All-nil IsCounted
alone_counted (Some tuples) h = All-cons IsCounted _ [] (record { key = refl; count = h }) (All-nil IsCounted)

pub range_axes_counted : (domain : Domain) → HasAxes domain → HasTuples domain → All IsCounted (range_axes domain)
range_axes_counted domain axes tuples =
    let each : (name : CoordinateName) → IfSome (range_axis_of domain name) HasCount = λ name. long_counted (is_grid domain) (axis_of domain name) (axis_counted name (axis_of domain name) (axes name)) in
    let composite : IfSome (range_tuples_of domain) HasCount = long_counted (is_grid domain) (tuples_of domain) (tuples_counted (coordinates_of domain) (tuples_of domain) tuples.tuples) in
    before_counted T _ _ (each T) (before_counted Z _ _ (each Z) (before_counted Y _ _ (each Y) (before_counted X _ _ (each X) (alone_counted _ composite))))
