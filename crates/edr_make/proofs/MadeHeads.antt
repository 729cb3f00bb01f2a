-- The coverages of the made feed are valid.
use Rattle.std.proofs.Common.{◌≡◌, ℕ, zero, suc, ◌+◌, ◌-◌, ◌*◌, ◌%◌, ◌<◌, ◌≤◌, ◌==◌, if◌then◌else◌, Bool, true, false, codes, List, [], ◌∷◌, length, All, IfSome, IsUtf8, ℤ, pos, None, Some, refl, sym, subst, ap, ◌∙◌, arith}
use Rattle.std.specs.declared.option.Option.{Option}
use Rattle.std.specs.List.{flat_map, range_with_len}
use Rattle.std.specs.List.Sorted.{IsStrictlySortedBy}
use Rattle.std.specs.Str.{is_utf8, chars}
use Rattle.std.specs.Char.{encode_utf8}
use Rattle.std.specs.Int.Signed.{lt_z_yes}
use Rattle.std.proofs.Math.Dec.{lt→ltb}
use Rattle.std.proofs.Math.Nat.{mul-add, suc-mul}
use Rattle.std.proofs.lemmas.Bool.{false≢true}
use Rattle.std.proofs.lemmas.Int.{ints}
use Rattle.std.proofs.lemmas.Str.{IsUtf8-from_is_utf8}
use Rattle.std.proofs.lemmas.List.{length-append}
use Rattle.std.proofs.lemmas.List.Elements.{All-nil, All-cons, All-append, All-map}
use Rattle.std.proofs.lemmas.List.FromFn.{length-range_with_len, get_or-range_with_len, length-map-range_with_len, get_or-map-range_with_len}
use Rattle.edr_base.specs.Names.{IsName}
use Rattle.edr_axes.specs.Axes.{value_at, IsAxis}
use Rattle.edr_axes.specs.Instants.{IsTime}
use Rattle.covjson_value.specs.declared.domains.CoordinateName.{CoordinateName}
use Rattle.covjson_value.specs.declared.domains.CoordinateName.TheVariants.{T, Z, Y, X}
use Rattle.covjson_value.specs.declared.domains.Domain.{Domain}
use Rattle.covjson_value.specs.declared.coverages.NdArray.{NdArray}
use Rattle.covjson_value.specs.Domains.{count_of}
use Rattle.edr_base.specs.Limits.{IsSample, AreSamples, HasSample}
use Rattle.covjson_value.specs.Coverages.{IsAxisValue, IsNamedAxis, HasAxes, HasTuples, IsParameter, IsRange, IsValid}
use Rattle.covjson_write.specs.Writers.{IsHead}
use Rattle.edr_base.specs.NameLaws.{name_tells}
use Rattle.edr_make.specs.Made.{spaced, first_time, coverage_over, node_value, row_values, grid_values, grid_domain, grid_coverage, station_value, series_values, series_domain, series_coverage}

-- ---- axes

spaced_long : (first step count : ℕ) → length (spaced first step count) ≡ count
unfolding spaced
spaced_long first step count = length-map-range_with_len (λ (k : ℕ). pos (first + step * k)) 0 count

spaced_at : (first step count k : ℕ) → k < count → value_at (spaced first step count) k ≡ pos (first + step * k)
unfolding spaced
spaced_at first step count k inside = get_or-map-range_with_len (λ (k : ℕ). pos (first + step * k)) 0 count k k (pos 0) inside (zero k)
  where
    zero : (k : ℕ) → 0 + k ≡ k
    zero k = omega arith

pub spaced_is_axis : (first step count : ℕ) → 0 < step → 0 < count → IsAxis (spaced first step count)
spaced_is_axis first step count rises some = record {
  some = omega (arith, spaced_long first step count);
  ascending = λ k inside.
      let behind : k + 1 < count = omega (arith, spaced_long first step count) in
      rw (spaced_at first step count k (omega arith)) (rw (spaced_at first step count (k + 1) behind)
      (lt_z_yes (lt→ltb (first + step * k) (first + step * (k + 1)) (omega (arith, mul-add step k 1)))));
}

spaced_within : (P : ℤ → Type 0) (first step count : ℕ) → ((k : ℕ) → k < count → P (pos (first + step * k))) → All P (spaced first step count)
unfolding spaced
spaced_within P first step count each =
    All-map P (λ (k : ℕ). pos (first + step * k)) (range_with_len 0 count)
    (λ k d inside.
    let is : k < count = subst (λ (n : ℕ). k < n) (length-range_with_len 0 count) inside in
    subst (λ (n : ℕ). P (pos (first + step * n))) (sym (get_or-range_with_len 0 count k d is)) (each (0 + k) (omega arith)))

spaced_named : (name : CoordinateName) (first step count : ℕ) → 0 < step → 0 < count → ((k : ℕ) → k < count → IsAxisValue name (pos (first + step * k)))
    → IsNamedAxis name (spaced first step count)
spaced_named name first step count rises some each = record {
  ascending = spaced_is_axis first step count rises some;
  within = spaced_within (IsAxisValue name) first step count each;
}

in_time : (n : ℕ) → n ≤ 100_000_000_000 → IsTime (pos n)
in_time n h = grind (arith, ints)

-- the one time of the grid
pub one_spaced : (first : ℕ) → spaced first 1 1 ≡ pos first ∷ []
unfolding spaced
one_spaced first = ap (λ (n : ℕ). pos n ∷ []) (same first)
  where
    same : (n : ℕ) → n + 1 * 0 ≡ n
    same n = omega arith

one_value : (name : CoordinateName) (value : ℤ) → IsAxisValue name value → IsNamedAxis name (value ∷ [])
one_value name value is = record {
  ascending = record { some = omega arith; ascending = λ k inside. absurd (omega (arith, inside)) };
  within = All-cons (IsAxisValue name) value [] is (All-nil (IsAxisValue name));
}

-- ---- coverages of one parameter

local : IsUtf8 (codes "local")
unfolding is_utf8 chars encode_utf8
local = IsUtf8-from_is_utf8 (codes "local") refl

english : IsUtf8 (codes "en")
unfolding is_utf8 chars encode_utf8
english = IsUtf8-from_is_utf8 (codes "en") refl

valid_over : (domain : Domain) (id unit : List ℕ) (values : List (Option ℤ)) → HasAxes domain → HasTuples domain → IsName id → IsUtf8 unit
    → length values ≡ count_of domain → AreSamples values
    → IsValid (coverage_over domain id unit (record { values = values } ∷ []))
unfolding IsStrictlySortedBy
valid_over domain id unit values axes tuples name symbol count samples = record {
  id = tt;
  axes = axes;
  tuples = tuples;
  referencing = record { crs = local; vertical = tt };
  vertical = λ given. absurd (false≢true given);
  some = omega arith;
  parameters = All-cons IsParameter _ [] (record { id = name; lang = english; label = name.utf8; unit = symbol }) (All-nil IsParameter);
  ascending = (tt, tt);
  as_many = refl;
  ranges = All-cons (IsRange domain) (record { values = values }) [] (record { count = count; samples = samples }) (All-nil (IsRange domain));
}

pub head_over : (domain : Domain) (id unit : List ℕ) (ranges : List NdArray) → IsValid (coverage_over domain id unit ranges) → IsHead (coverage_over domain id unit [])
head_over domain id unit ranges valid = record { ranges = ranges; valid = valid }

-- a digit is a sample
digit : (n : ℕ) → IfSome (Some (pos (n % 10))) IsSample
digit n = omega arith

-- ---- the grid

node_is : (number row column : ℕ) → IfSome (node_value number row column) IsSample
node_is number row column = either ((column + row) % 13 == 0)
  where
    either : (b : Bool) → IfSome (if b then None else Some (pos ((number + column + 3 * row) % 10))) IsSample
    either true = tt
    either false = digit (number + column + 3 * row)

pub row_long : (number columns row : ℕ) → length (row_values number columns row) ≡ columns
unfolding row_values
row_long number columns row = length-map-range_with_len (node_value number row) 0 columns

row_is : (number columns row : ℕ) → AreSamples (row_values number columns row)
unfolding row_values
row_is number columns row = All-map HasSample (node_value number row) (range_with_len 0 columns) (λ k d inside. node_is number row _)

rows_long : (number columns first count : ℕ) → length (flat_map (row_values number columns) (range_with_len first count)) ≡ count * columns
rows_long number columns first zero = omega arith
rows_long number columns first (suc count) =
    omega (arith, length-append (row_values number columns first) (flat_map (row_values number columns) (range_with_len (first + 1) count)), row_long number columns first, rows_long number columns (first + 1) count, suc-mul count columns)

rows_are : (number columns first count : ℕ) → AreSamples (flat_map (row_values number columns) (range_with_len first count))
rows_are number columns first zero = All-nil HasSample
rows_are number columns first (suc count) =
    All-append HasSample (row_values number columns first) (flat_map (row_values number columns) (range_with_len (first + 1) count))
    (row_is number columns first) (rows_are number columns (first + 1) count)

pub grid_count : (rows columns : ℕ) → count_of (grid_domain rows columns) ≡ rows * columns
grid_count rows columns = product (length (spaced 0 100 rows)) (length (spaced 0 100 columns)) rows columns (spaced_long 0 100 rows) (spaced_long 0 100 columns)
  where
    product : (a b m n : ℕ) → a ≡ m → b ≡ n → 1 * (a * (b * 1)) ≡ m * n
    product a b m n p q = rw (p, q) (omega arith)

grid_long : (number rows columns : ℕ) → length (grid_values number rows columns) ≡ count_of (grid_domain rows columns)
unfolding grid_values
grid_long number rows columns = rows_long number columns 0 rows ∙ sym (grid_count rows columns)

grid_are : (number rows columns : ℕ) → AreSamples (grid_values number rows columns)
unfolding grid_values
grid_are number rows columns = rows_are number columns 0 rows

grid_axes : (rows columns : ℕ) → 0 < rows → rows ≤ 1_000_000 → 0 < columns → columns ≤ 1_000_000 → HasAxes (grid_domain rows columns)
grid_axes rows columns some few some_columns few_columns T =
    subst (IsNamedAxis T) (one_spaced first_time) (spaced_named T first_time 1 1 (omega arith) (omega arith) (λ k inside. in_time (first_time + 1 * k) (omega arith)))
grid_axes rows columns some few some_columns few_columns Z = tt
grid_axes rows columns some few some_columns few_columns Y = spaced_named Y 0 100 rows (omega arith) some (λ k inside. omega arith)
grid_axes rows columns some few some_columns few_columns X = spaced_named X 0 100 columns (omega arith) some_columns (λ k inside. omega arith)

temp : IsName (codes "temp")
unfolding is_utf8 chars encode_utf8
temp = name_tells (codes "temp") refl

celsius : IsUtf8 (codes "Cel")
unfolding is_utf8 chars encode_utf8
celsius = IsUtf8-from_is_utf8 (codes "Cel") refl

pub grid_is_valid : (number rows columns : ℕ) → 0 < rows → rows ≤ 1_000_000 → 0 < columns → columns ≤ 1_000_000 → IsValid (grid_coverage number rows columns)
grid_is_valid number rows columns some few some_columns few_columns =
    valid_over (grid_domain rows columns) (codes "temp") (codes "Cel") (grid_values number rows columns) (grid_axes rows columns some few some_columns few_columns)
    (record { tuples = tt; once = λ name is. absurd (false≢true is) }) temp celsius (grid_long number rows columns) (grid_are number rows columns)

-- ---- stations

pub series_long : (number times station : ℕ) → length (series_values number times station) ≡ times
unfolding series_values
series_long number times station = length-map-range_with_len (station_value number station) 0 times

series_are : (number times station : ℕ) → AreSamples (series_values number times station)
unfolding series_values
series_are number times station =
    All-map HasSample (station_value number station) (range_with_len 0 times) (λ k d inside. digit _)

series_axes : (times station : ℕ) → 0 < times → times ≤ 1_000_000 → station < 100 → HasAxes (series_domain times station)
series_axes times station some few low T = spaced_named T first_time 3_600 times (omega arith) some (λ k inside. in_time (first_time + 3_600 * k) (omega arith))
series_axes times station some few low Z = tt
series_axes times station some few low Y = one_value Y (pos (500 * station)) (omega arith)
series_axes times station some few low X = one_value X (pos (1_000 * station)) (omega arith)

level : IsName (codes "level")
unfolding is_utf8 chars encode_utf8
level = name_tells (codes "level") refl

metre : IsUtf8 (codes "m")
unfolding is_utf8 chars encode_utf8
metre = IsUtf8-from_is_utf8 (codes "m") refl

pub series_count : (times station : ℕ) → count_of (series_domain times station) ≡ times
series_count times station = one (length (spaced first_time 3_600 times)) times (spaced_long first_time 3_600 times)
  where
    one : (n m : ℕ) → n ≡ m → n * (1 * (1 * 1)) ≡ m
    one n m same = rw same (omega arith)

pub series_is_valid : (number times station : ℕ) → 0 < times → times ≤ 1_000_000 → station < 100 → IsValid (series_coverage number times station)
series_is_valid number times station some few low =
    valid_over (series_domain times station) (codes "level") (codes "m") (series_values number times station) (series_axes times station some few low)
    (record { tuples = tt; once = λ name is. absurd (false≢true is) }) level metre
    (series_long number times station ∙ sym (series_count times station)) (series_are number times station)
