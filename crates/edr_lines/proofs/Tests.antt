-- Tests of nodes: where some node of a time, of a level, or of a row and a column passes one of two tests, and where tests agree.
use Rattle.std.proofs.Common.{◌≡◌, ℕ, ◌<◌, Bool, true, ◌∙◌, arith}
use Rattle.std.specs.Prelude.{◌||◌}
use Rattle.std.specs.List.{list_any, range_with_len}
use Rattle.edr_select.specs.ListLaws.{any_agree, both, passes_at, any_range}
use Rattle.edr_lines.specs.Taken.{Counts, NodeTest, either, some_at_time, some_at_level, some_in_row, some_in_column}
use Rattle.edr_lines.specs.Boxes.{some_at, IsSpreadOf, SpreadValue}
use Rattle.edr_lines.proofs.Ends.{any_or, any_same, plane_same}

-- ---- pairs of numbers

-- some pair of numbers below two counts passes
abbrev pub some_of : (ℕ → ℕ → Bool) → ℕ → ℕ → Bool
some_of f a b = list_any (λ j. list_any (λ k. f j k) (range_with_len 0 b)) (range_with_len 0 a)

any_pair : (t u v : ℕ → Bool) (m : ℕ) → ((k : ℕ) → v k ≡ (t k || u k)) → list_any v (range_with_len 0 m) ≡ (list_any t (range_with_len 0 m) || list_any u (range_with_len 0 m))
any_pair t u v m is = any_agree v (λ k. t k || u k) is (range_with_len 0 m) ∙ any_or t u (range_with_len 0 m)

some_either : (f g : ℕ → ℕ → Bool) (a b : ℕ) → some_of (λ j k. f j k || g j k) a b ≡ (some_of f a b || some_of g a b)
some_either f g a b =
    any_pair (λ j. list_any (f j) (range_with_len 0 b)) (λ j. list_any (g j) (range_with_len 0 b)) (λ j. list_any (λ k. f j k || g j k) (range_with_len 0 b)) a
    (λ j. any_or (f j) (g j) (range_with_len 0 b))

some_same : (f g : ℕ → ℕ → Bool) (a b : ℕ) → ((j k : ℕ) → j < a → k < b → f j k ≡ g j k) → some_of f a b ≡ some_of g a b
some_same f g a b same =
    any_same (λ j. list_any (f j) (range_with_len 0 b)) (λ j. list_any (g j) (range_with_len 0 b)) a (λ j low. any_same (f j) (g j) b (λ k high. same j k low high))

-- a pair that passes
pub record PairAt (f : ℕ → ℕ → Bool) (a b : ℕ) : Type 0 where
  pub one : ℕ
  pub other : ℕ
  pub low : one < a
  pub high : other < b
  pub passes : f one other ≡ true

pub pair_at : (f : ℕ → ℕ → Bool) (a b : ℕ) → some_of f a b ≡ true → PairAt f a b
pair_at f a b h =
    let j = passes_at (λ j. list_any (λ k. f j k) (range_with_len 0 b)) 0 a h in
    let k = passes_at (λ k. f j.place k) 0 b j.passes in
    record { one = j.place; other = k.place; low = omega (arith, j.high); high = omega (arith, k.high); passes = k.passes }

pub some_pair : (f : ℕ → ℕ → Bool) (a b j k : ℕ) → j < a → k < b → f j k ≡ true → some_of f a b ≡ true
some_pair f a b j k low high h =
    any_range (λ j. list_any (λ k. f j k) (range_with_len 0 b)) 0 a j (omega arith) (omega (arith, low)) (any_range (λ k. f j k) 0 b k (omega arith) (omega (arith, high)) h)

-- the order of the two doesn't matter
pub some_turned : (f : ℕ → ℕ → Bool) (a b : ℕ) → some_of f a b ≡ some_of (λ k j. f j k) b a
some_turned f a b =
    both (some_of f a b) (some_of (λ k j. f j k) b a)
    (λ h. let p = pair_at f a b h in some_pair (λ k j. f j k) b a p.other p.one p.high p.low p.passes)
    (λ h. let p = pair_at (λ k j. f j k) b a h in some_pair f a b p.other p.one p.high p.low p.passes)

-- ---- one of two tests

module _ (n : Counts) (takes other : NodeTest) where
  pub either_at_time : (t : ℕ) → some_at_time n (either takes other) t ≡ (some_at_time n takes t || some_at_time n other t)
  either_at_time t =
      any_pair (λ z. some_of (takes t z) n.rows n.columns) (λ z. some_of (other t z) n.rows n.columns) (λ z. some_of (either takes other t z) n.rows n.columns) n.levels
      (λ z. some_either (takes t z) (other t z) n.rows n.columns)

  pub either_at_level : (z : ℕ) → some_at_level n (either takes other) z ≡ (some_at_level n takes z || some_at_level n other z)
  either_at_level z =
      any_pair (λ t. some_of (takes t z) n.rows n.columns) (λ t. some_of (other t z) n.rows n.columns) (λ t. some_of (either takes other t z) n.rows n.columns) n.times
      (λ t. some_either (takes t z) (other t z) n.rows n.columns)

  pub either_at : (y x : ℕ) → some_at n (either takes other) y x ≡ (some_at n takes y x || some_at n other y x)
  either_at y x = some_either (λ t z. takes t z y x) (λ t z. other t z y x) n.times n.levels

-- ---- tests that agree

abbrev pub Agree : Counts → NodeTest → NodeTest → Type 0
Agree n takes other = (t z y x : ℕ) → t < n.times → z < n.levels → y < n.rows → x < n.columns → takes t z y x ≡ other t z y x

module _ (n : Counts) (takes other : NodeTest) (same : Agree n takes other) where
  pub same_at_time : (t : ℕ) → t < n.times → some_at_time n takes t ≡ some_at_time n other t
  same_at_time t at =
      any_same (λ z. some_of (takes t z) n.rows n.columns) (λ z. some_of (other t z) n.rows n.columns) n.levels
      (λ z level. some_same (takes t z) (other t z) n.rows n.columns (λ y x row column. same t z y x at level row column))

  pub same_at_level : (z : ℕ) → z < n.levels → some_at_level n takes z ≡ some_at_level n other z
  same_at_level z level =
      any_same (λ t. some_of (takes t z) n.rows n.columns) (λ t. some_of (other t z) n.rows n.columns) n.times
      (λ t at. some_same (takes t z) (other t z) n.rows n.columns (λ y x row column. same t z y x at level row column))

  pub same_at : (y x : ℕ) → y < n.rows → x < n.columns → some_at n takes y x ≡ some_at n other y x
  same_at y x row column = some_same (λ t z. takes t z y x) (λ t z. other t z y x) n.times n.levels (λ t z at level. same t z y x at level row column)

  -- what is known of one is known of the other
  pub spread_same : (spread : SpreadValue) → IsSpreadOf n takes spread → IsSpreadOf n other spread
  spread_same spread s = record {
    times_full = s.times_full;
    levels_full = s.levels_full;
    times = λ t at. s.times t at ∙ same_at_time t at;
    levels = λ z level. s.levels z level ∙ same_at_level z level;
    extent = plane_same n (some_at n takes) (some_at n other) same_at spread.extent s.extent;
  }

-- ---- rows and columns

module _ (n : Counts) (takes : NodeTest) where
  -- some node of a row passes at some time and level, whatever comes first
  pub row_turned : (y : ℕ) → list_any (λ x. some_at n takes y x) (range_with_len 0 n.columns) ≡ some_in_row n takes y
  row_turned y =
      some_turned (λ x t. list_any (λ z. takes t z y x) (range_with_len 0 n.levels)) n.columns n.times
      ∙ any_agree (λ t. list_any (λ x. list_any (λ z. takes t z y x) (range_with_len 0 n.levels)) (range_with_len 0 n.columns)) (λ t. some_of (λ z x. takes t z y x) n.levels n.columns)
      (λ t. some_turned (λ x z. takes t z y x) n.columns n.levels) (range_with_len 0 n.times)

  pub column_turned : (x : ℕ) → list_any (λ y. some_at n takes y x) (range_with_len 0 n.rows) ≡ some_in_column n takes x
  column_turned x =
      some_turned (λ y t. list_any (λ z. takes t z y x) (range_with_len 0 n.levels)) n.rows n.times
      ∙ any_agree (λ t. list_any (λ y. list_any (λ z. takes t z y x) (range_with_len 0 n.levels)) (range_with_len 0 n.rows)) (λ t. some_of (λ z y. takes t z y x) n.levels n.rows)
      (λ t. some_turned (λ y z. takes t z y x) n.rows n.levels) (range_with_len 0 n.times)
