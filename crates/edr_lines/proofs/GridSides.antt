-- How many rows and columns a grid has at most, and where they are.
use Rattle.std.proofs.Common.{ℕ, ◌*◌, ◌≤◌, arith, All}
use Rattle.edr_base.specs.Limits.{node_limit, IsCoordinate}
use Rattle.edr_chunk.specs.declared.shapes.GridShape.{GridShape}
use Rattle.edr_edition.specs.Values.{InstanceValue}
use Rattle.edr_edition.specs.Instances.{HasGrid}
use Rattle.edr_lines.specs.Plans.{axes_of, IsFew}
use Rattle.edr_lines.proofs.LineGrids.{grid_from}

more : (a b : ℕ) → 1 ≤ b → a ≤ a * b
more a b h = grind (arith, h)

before : (a b : ℕ) → 1 ≤ a → b ≤ a * b
before a b h = grind (arith, h)

-- a side is at most the product of all
sides_few : (t z y x : ℕ) → 1 ≤ t → 1 ≤ z → 1 ≤ y → 1 ≤ x → ((t * z) * y) * x ≤ node_limit → (y ≤ node_limit) × (x ≤ node_limit)
sides_few t z y x ht hz hy hx few =
    let planes : 1 ≤ t * z = omega (arith, more t z hz, ht) in
    let rows : y ≤ (t * z) * y = before (t * z) y planes in
    let nodes : (t * z) * y ≤ ((t * z) * y) * x = more ((t * z) * y) x hx in
    let columns : x ≤ ((t * z) * y) * x = before ((t * z) * y) x (omega (arith, rows, hy)) in
    (omega (arith, rows, nodes, few), omega (arith, columns, few))

-- there are no more rows and columns than a grid has nodes
pub is_few : (i : InstanceValue) → HasGrid i → IsFew (axes_of i)
is_few i h =
    let g = grid_from i h in
    let s : GridShape = i.grid.shape in
    let f = sides_few s.times s.levels s.rows s.columns h.is_shape.times h.is_shape.levels h.is_shape.rows h.is_shape.columns h.is_shape.few in
    record { rows = omega (arith, f.0, g.rows); columns = omega (arith, f.1, g.columns) }

pub rows_placed : (i : InstanceValue) → HasGrid i → All IsCoordinate i.ys
rows_placed i h = h.ys.within

pub columns_placed : (i : InstanceValue) → HasGrid i → All IsCoordinate i.xs
columns_placed i h = h.xs.within
