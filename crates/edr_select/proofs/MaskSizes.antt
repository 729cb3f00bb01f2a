-- The rows and the columns of a grid are few.
use Rattle.std.proofs.Common.{◌≡◌, ℕ, ◌+◌, ◌*◌, ◌<◌, ◌≤◌, length, ap, ap₂, arith, mul-le-mul, mul-le-mul_right, mul_assoc, mul_comm, mul-pos, one-mul}
use Rattle.edr_base.specs.Limits.{node_limit}
use Rattle.edr_chunk.specs.declared.shapes.GridShape.{GridShape}
use Rattle.edr_chunk.specs.Places.{IsShape}
use Rattle.edr_edition.specs.Values.{InstanceValue}
use Rattle.edr_edition.specs.Instances.{HasGrid}

plane_few : (shape : GridShape) → IsShape shape → shape.rows * shape.columns ≤ node_limit
plane_few shape h =
    let whole : shape.times * shape.levels * shape.rows * shape.columns ≡ shape.times * shape.levels * (shape.rows * shape.columns) = mul_assoc (shape.times * shape.levels) shape.rows shape.columns in
    let one : 1 * (shape.rows * shape.columns) ≤ shape.times * shape.levels * (shape.rows * shape.columns) = mul-le-mul_right (shape.rows * shape.columns) (mul-pos h.times h.levels) in
    omega (arith, whole, one, one-mul (shape.rows * shape.columns), h.few)

module _ (i : InstanceValue) (h : HasGrid i) where
  rows_are : i.grid.shape.rows ≡ length i.ys
  rows_are = ap (λ (shape : GridShape). shape.rows) h.shape

  columns_are : i.grid.shape.columns ≡ length i.xs
  columns_are = ap (λ (shape : GridShape). shape.columns) h.shape

  pub nodes_few : length i.ys * length i.xs ≤ node_limit
  nodes_few = let same : i.grid.shape.rows * i.grid.shape.columns ≡ length i.ys * length i.xs = ap₂ (λ a b. a * b) rows_are columns_are in
      omega (arith, same, plane_few i.grid.shape h.is_shape)

  -- the nodes of the rows up to one
  nodes_to_few : (y : ℕ) → y < length i.ys → (y + 1) * length i.xs ≤ node_limit
  nodes_to_few y inside =
      let part : (y + 1) * length i.xs ≤ length i.ys * length i.xs = mul-le-mul_right (length i.xs) (rise y (length i.ys) inside) in
      omega (arith, part, nodes_few)
    where
      rise : (a b : ℕ) → a < b → a + 1 ≤ b
      rise a b l = omega arith

  pub row_few : (y : ℕ) → y < length i.ys → y < node_limit
  row_few y inside =
      let part : (y + 1) * 1 ≤ (y + 1) * length i.xs = wide (y + 1) (length i.xs) h.xs.ascending.some in
      omega (arith, part, nodes_to_few y inside)
    where
      wide : (a b : ℕ) → 0 < b → a * 1 ≤ a * b
      wide a b some = let more : 1 * a ≤ b * a = mul-le-mul_right a some in omega (arith, more, mul_comm a 1, mul_comm a b)

  pub columns_few : length i.xs ≤ node_limit
  columns_few =
      let part : 1 * length i.xs ≤ length i.ys * length i.xs = mul-le-mul_right (length i.xs) h.ys.ascending.some in
      omega (arith, part, one-mul (length i.xs), nodes_few)

  -- the nodes of some rows and columns
  pub part_few : (rows columns : ℕ) → rows ≤ length i.ys → columns ≤ length i.xs → rows * columns ≤ node_limit
  part_few rows columns few_rows few_columns =
      let part : rows * columns ≤ length i.ys * length i.xs = mul-le-mul few_rows few_columns in
      omega (arith, part, nodes_few)
