-- Which nodes of some axes are taken, by their places: of a time, a level, a row and a column; for the calls that plan, and private clauses.
use Rattle.std.specs.Prelude.{◌≡◌, ℕ, ◌+◌, ◌-◌, ◌<◌, ◌≤◌, Bool, true, false, ◌||◌, length}
use Rattle.std.specs.List.{filter, list_any, range_with_len, slice_index_or}
use Rattle.edr_corridor.specs.Boxes.{GridAxes}
use Rattle.edr_axes.specs.Axes.{axis_length}
use Rattle.edr_select.specs.Stacks.{SidesValue, StackValue, plane_size, plane_number, stack_count, time_at, level_at}
use Rattle.edr_chunk.specs.RowMajor.{place_in_row}

-- how many times, levels, rows and columns there are
pub record Counts : Type 0 where
  pub times : ℕ
  pub levels : ℕ
  pub rows : ℕ
  pub columns : ℕ

abbrev pub counts_of : GridAxes → Counts
counts_of axes = record { times = length axes.ts; levels = axis_length axes.zs; rows = length axes.ys; columns = length axes.xs }

-- a test of nodes
abbrev pub NodeTest : Type 0
NodeTest = ℕ → ℕ → ℕ → ℕ → Bool

-- no node passes
abbrev pub NoneTaken : Counts → NodeTest → Type 0
NoneTaken n takes = (t z y x : ℕ) → t < n.times → z < n.levels → y < n.rows → x < n.columns → takes t z y x ≡ false

-- some node of a time, of a level, of a row and of a column passes
abbrev pub some_at_time : Counts → NodeTest → ℕ → Bool
some_at_time n takes t =
    list_any (λ z. list_any (λ y. list_any (λ x. takes t z y x) (range_with_len 0 n.columns)) (range_with_len 0 n.rows)) (range_with_len 0 n.levels)

abbrev pub some_at_level : Counts → NodeTest → ℕ → Bool
some_at_level n takes z =
    list_any (λ t. list_any (λ y. list_any (λ x. takes t z y x) (range_with_len 0 n.columns)) (range_with_len 0 n.rows)) (range_with_len 0 n.times)

abbrev pub some_in_row : Counts → NodeTest → ℕ → Bool
some_in_row n takes y =
    list_any (λ t. list_any (λ z. list_any (λ x. takes t z y x) (range_with_len 0 n.columns)) (range_with_len 0 n.levels)) (range_with_len 0 n.times)

abbrev pub some_in_column : Counts → NodeTest → ℕ → Bool
some_in_column n takes x =
    list_any (λ t. list_any (λ z. list_any (λ y. takes t z y x) (range_with_len 0 n.rows)) (range_with_len 0 n.levels)) (range_with_len 0 n.times)

-- so many numbers from one on are the least run with all numbers below a count that pass
pub record IsSpan (test : ℕ → Bool) (count first many : ℕ) : Type 0 where
  pub some : 1 ≤ many
  pub inside : first + many ≤ count
  pub first_passes : test first ≡ true
  pub last_passes : test (first + many - 1) ≡ true
  pub low : (k : ℕ) → k < count → test k ≡ true → first ≤ k
  pub high : (k : ℕ) → k < count → test k ≡ true → k < first + many

-- the times and levels at which some node is taken, and the least box of rows and columns with all nodes that are taken
pub record AreSidesOf (n : Counts) (takes : NodeTest) (sides : SidesValue) : Type 0 where
  pub times : sides.times ≡ filter (some_at_time n takes) (range_with_len 0 n.times)
  pub levels : sides.levels ≡ filter (some_at_level n takes) (range_with_len 0 n.levels)
  pub rows : IsSpan (some_in_row n takes) n.rows sides.row sides.rows
  pub columns : IsSpan (some_in_column n takes) n.columns sides.column sides.columns

-- where the truth value of a node of a stack stands
abbrev pub bit_number : SidesValue → ℕ → ℕ → ℕ → ℕ → ℕ
bit_number sides i j y x = place_in_row (plane_number sides i j) (plane_size sides) (place_in_row (y - sides.row) sides.columns (x - sides.column))

-- the truth values of a stack are those of a test
pub record HasBits (takes : NodeTest) (stack : StackValue) : Type 0 where
  pub full : length stack.mask ≡ stack_count stack.sides
  pub bits : (i j y x : ℕ) → i < length stack.sides.times → j < length stack.sides.levels → stack.sides.row ≤ y → y < stack.sides.row + stack.sides.rows
      → stack.sides.column ≤ x → x < stack.sides.column + stack.sides.columns
      → slice_index_or stack.mask (bit_number stack.sides i j y x) false ≡ takes (time_at stack.sides i) (level_at stack.sides j) y x

-- ---- for private clauses

abbrev pub either : NodeTest → NodeTest → NodeTest
either takes other t z y x = takes t z y x || other t z y x
