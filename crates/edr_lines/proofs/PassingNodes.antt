-- A node that passes makes some node of its time, its level, its row and its column pass, and back.
use Rattle.std.proofs.Common.{◌≡◌, ℕ, ◌<◌, true, arith}
use Rattle.std.specs.List.{list_any, range_with_len}
use Rattle.edr_select.specs.ListLaws.{passes_at, any_range}
use Rattle.edr_lines.specs.Taken.{Counts, NodeTest, some_at_time, some_at_level, some_in_row, some_in_column}

-- a node that passes, by its places
pub record PassesAt (n : Counts) (takes : NodeTest) : Type 0 where
  pub t : ℕ
  pub z : ℕ
  pub y : ℕ
  pub x : ℕ
  pub t_in : t < n.times
  pub z_in : z < n.levels
  pub y_in : y < n.rows
  pub x_in : x < n.columns
  pub passes : takes t z y x ≡ true

-- a node of a time, a level, a row or a column that passes, by its other places
pub record AtTime (n : Counts) (takes : NodeTest) (t : ℕ) : Type 0 where
  pub z : ℕ
  pub y : ℕ
  pub x : ℕ
  pub z_in : z < n.levels
  pub y_in : y < n.rows
  pub x_in : x < n.columns
  pub passes : takes t z y x ≡ true

pub record AtLevel (n : Counts) (takes : NodeTest) (z : ℕ) : Type 0 where
  pub t : ℕ
  pub y : ℕ
  pub x : ℕ
  pub t_in : t < n.times
  pub y_in : y < n.rows
  pub x_in : x < n.columns
  pub passes : takes t z y x ≡ true

pub record AtRow (n : Counts) (takes : NodeTest) (y : ℕ) : Type 0 where
  pub t : ℕ
  pub z : ℕ
  pub x : ℕ
  pub t_in : t < n.times
  pub z_in : z < n.levels
  pub x_in : x < n.columns
  pub passes : takes t z y x ≡ true

pub record AtColumn (n : Counts) (takes : NodeTest) (x : ℕ) : Type 0 where
  pub t : ℕ
  pub z : ℕ
  pub y : ℕ
  pub t_in : t < n.times
  pub z_in : z < n.levels
  pub y_in : y < n.rows
  pub passes : takes t z y x ≡ true

module _ (n : Counts) (takes : NodeTest) (t z y x : ℕ) (ht : t < n.times) (hz : z < n.levels) (hy : y < n.rows) (hx : x < n.columns) (h : takes t z y x ≡ true) where
  pub time_some : some_at_time n takes t ≡ true
  time_some =
      any_range (λ z. list_any (λ y. list_any (λ x. takes t z y x) (range_with_len 0 n.columns)) (range_with_len 0 n.rows)) 0 n.levels z (omega arith) (omega (arith, hz))
      (any_range (λ y. list_any (λ x. takes t z y x) (range_with_len 0 n.columns)) 0 n.rows y (omega arith) (omega (arith, hy))
      (any_range (λ x. takes t z y x) 0 n.columns x (omega arith) (omega (arith, hx)) h))

  pub level_some : some_at_level n takes z ≡ true
  level_some =
      any_range (λ t. list_any (λ y. list_any (λ x. takes t z y x) (range_with_len 0 n.columns)) (range_with_len 0 n.rows)) 0 n.times t (omega arith) (omega (arith, ht))
      (any_range (λ y. list_any (λ x. takes t z y x) (range_with_len 0 n.columns)) 0 n.rows y (omega arith) (omega (arith, hy))
      (any_range (λ x. takes t z y x) 0 n.columns x (omega arith) (omega (arith, hx)) h))

  pub row_some : some_in_row n takes y ≡ true
  row_some =
      any_range (λ t. list_any (λ z. list_any (λ x. takes t z y x) (range_with_len 0 n.columns)) (range_with_len 0 n.levels)) 0 n.times t (omega arith) (omega (arith, ht))
      (any_range (λ z. list_any (λ x. takes t z y x) (range_with_len 0 n.columns)) 0 n.levels z (omega arith) (omega (arith, hz))
      (any_range (λ x. takes t z y x) 0 n.columns x (omega arith) (omega (arith, hx)) h))

  pub column_some : some_in_column n takes x ≡ true
  column_some =
      any_range (λ t. list_any (λ z. list_any (λ y. takes t z y x) (range_with_len 0 n.rows)) (range_with_len 0 n.levels)) 0 n.times t (omega arith) (omega (arith, ht))
      (any_range (λ z. list_any (λ y. takes t z y x) (range_with_len 0 n.rows)) 0 n.levels z (omega arith) (omega (arith, hz))
      (any_range (λ y. takes t z y x) 0 n.rows y (omega arith) (omega (arith, hy)) h))

module _ (n : Counts) (takes : NodeTest) where
  pub at_time : (t : ℕ) → some_at_time n takes t ≡ true → AtTime n takes t
  at_time t h =
      let z = passes_at (λ z. list_any (λ y. list_any (λ x. takes t z y x) (range_with_len 0 n.columns)) (range_with_len 0 n.rows)) 0 n.levels h in
      let y = passes_at (λ y. list_any (λ x. takes t z.place y x) (range_with_len 0 n.columns)) 0 n.rows z.passes in
      let x = passes_at (λ x. takes t z.place y.place x) 0 n.columns y.passes in
      record { z = z.place; y = y.place; x = x.place; z_in = omega (arith, z.high); y_in = omega (arith, y.high); x_in = omega (arith, x.high); passes = x.passes }

  pub at_level : (z : ℕ) → some_at_level n takes z ≡ true → AtLevel n takes z
  at_level z h =
      let t = passes_at (λ t. list_any (λ y. list_any (λ x. takes t z y x) (range_with_len 0 n.columns)) (range_with_len 0 n.rows)) 0 n.times h in
      let y = passes_at (λ y. list_any (λ x. takes t.place z y x) (range_with_len 0 n.columns)) 0 n.rows t.passes in
      let x = passes_at (λ x. takes t.place z y.place x) 0 n.columns y.passes in
      record { t = t.place; y = y.place; x = x.place; t_in = omega (arith, t.high); y_in = omega (arith, y.high); x_in = omega (arith, x.high); passes = x.passes }

  pub at_row : (y : ℕ) → some_in_row n takes y ≡ true → AtRow n takes y
  at_row y h =
      let t = passes_at (λ t. list_any (λ z. list_any (λ x. takes t z y x) (range_with_len 0 n.columns)) (range_with_len 0 n.levels)) 0 n.times h in
      let z = passes_at (λ z. list_any (λ x. takes t.place z y x) (range_with_len 0 n.columns)) 0 n.levels t.passes in
      let x = passes_at (λ x. takes t.place z.place y x) 0 n.columns z.passes in
      record { t = t.place; z = z.place; x = x.place; t_in = omega (arith, t.high); z_in = omega (arith, z.high); x_in = omega (arith, x.high); passes = x.passes }

  pub at_column : (x : ℕ) → some_in_column n takes x ≡ true → AtColumn n takes x
  at_column x h =
      let t = passes_at (λ t. list_any (λ z. list_any (λ y. takes t z y x) (range_with_len 0 n.rows)) (range_with_len 0 n.levels)) 0 n.times h in
      let z = passes_at (λ z. list_any (λ y. takes t.place z y x) (range_with_len 0 n.rows)) 0 n.levels t.passes in
      let y = passes_at (λ y. takes t.place z.place y x) 0 n.rows z.passes in
      record { t = t.place; z = z.place; y = y.place; t_in = omega (arith, t.high); z_in = omega (arith, z.high); y_in = omega (arith, y.high); passes = y.passes }
