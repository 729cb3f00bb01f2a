-- The nodes of a stack are those of its times, levels, rows and columns that pass its test.
use Rattle.std.proofs.Common.{◌≡◌, ℕ, ◌+◌, ◌-◌, ◌*◌, ◌<◌, ◌≤◌, Bool, false, List, length, drop, refl, ap, sym, ◌∙◌, arith, Contains, get_or-take, get_or-drop}
use Rattle.std.specs.Prelude.{map, if◌then◌else◌, Option, None, Some}
use Rattle.std.specs.List.{flat_map, range_with_len, slice_index_or, slice_range}
use Rattle.std.proofs.lemmas.List.FromFn.{fill_by_all}
use Rattle.std.proofs.lemmas.List.Folds.{flat_map-map}
use Rattle.std.proofs.lemmas.Nat.{mul-add-lt}
use Rattle.edr_select.specs.declared.plans.GridNode.{GridNode}
use Rattle.edr_select.specs.Framings.{cell_at, is_set}
use Rattle.edr_select.specs.Stacks.{SidesValue, StackValue, plane_size, plane_number, plane_at, time_at, level_at, stack_cells}
use Rattle.edr_select.specs.ListLaws.{flat_map_agree}
use Rattle.edr_select.specs.BoxLaws.{from_contains, rows_of, planes_of, boxed, boxed_agree}
use Rattle.edr_lines.specs.Taken.{NodeTest, HasBits}

-- a node, where it passes
abbrev pub node_if : ℕ → ℕ → ℕ → ℕ → Bool → Option GridNode
node_if t z y x passes = if passes then Some (record { t = t; z = z; y = y; x = x }) else None

abbrev pub cell_of : NodeTest → ℕ → ℕ → ℕ → ℕ → Option GridNode
cell_of takes t z y x = node_if t z y x (takes t z y x)

-- ---- lists by their numbers

by_numbers : (xs : List ℕ) → xs ≡ map (λ k. slice_index_or xs k 0) (range_with_len 0 (length xs))
by_numbers xs = fill_by_all (λ k. slice_index_or xs k 0) xs (length xs) 0 refl (λ k h. refl)

flat_by_numbers : {X : Type 0} (f : ℕ → List X) (xs : List ℕ) → flat_map (λ k. f (slice_index_or xs k 0)) (range_with_len 0 (length xs)) ≡ flat_map f xs
flat_by_numbers f xs =
    sym (flat_map-map f (λ k. slice_index_or xs k 0) (range_with_len 0 (length xs))) ∙ ap (flat_map f) (sym (by_numbers xs))

-- a box over the numbers of some times and levels is one over these
boxed_by_numbers : {X : Type 0} (f : ℕ → ℕ → ℕ → ℕ → X) (ts zs ys xs : List ℕ)
    → boxed (λ i j y x. f (slice_index_or ts i 0) (slice_index_or zs j 0) y x) (range_with_len 0 (length ts)) (range_with_len 0 (length zs)) ys xs ≡ boxed f ts zs ys xs
boxed_by_numbers f ts zs ys xs =
    flat_map_agree (λ i. planes_of (λ j y x. f (slice_index_or ts i 0) (slice_index_or zs j 0) y x) (range_with_len 0 (length zs)) ys xs)
    (λ i. planes_of (f (slice_index_or ts i 0)) zs ys xs) (λ i. flat_by_numbers (λ z. rows_of (f (slice_index_or ts i 0) z) ys xs) zs) (range_with_len 0 (length ts))
    ∙ flat_by_numbers (λ t. planes_of (f t) zs ys xs) ts

-- a part of a list, by its places
part_at : (mask : List Bool) (first many k : ℕ) → k < many → slice_index_or (slice_range mask first (first + many)) k false ≡ slice_index_or mask (first + k) false
part_at mask first many k inside =
    get_or-take ((first + many) - first) (drop first mask) k false (omega (arith, inside)) ∙ get_or-drop first mask k false

module _ (takes : NodeTest) (stack : StackValue) (h : HasBits takes stack) where
  abbrev sides : SidesValue
  sides = stack.sides

  -- a node of a plane is set where it passes
  set_is : (i j y x : ℕ) → i < length sides.times → j < length sides.levels → sides.row ≤ y → y < sides.row + sides.rows → sides.column ≤ x → x < sides.column + sides.columns
      → is_set (plane_at stack i j) y x ≡ takes (time_at sides i) (level_at sides j) y x
  set_is i j y x hi hj low high left right =
      part_at stack.mask (plane_number sides i j * plane_size sides) (plane_size sides) ((y - sides.row) * sides.columns + (x - sides.column)) inside
      ∙ h.bits i j y x hi hj low high left right
    where
      inside : (y - sides.row) * sides.columns + (x - sides.column) < plane_size sides
      inside = omega (arith, mul-add-lt (y - sides.row) sides.columns (x - sides.column) sides.rows (omega (arith, low, high)) (omega (arith, left, right)))

  number_below : (n k : ℕ) → Contains (range_with_len 0 n) k → k < n
  number_below n k m = omega (arith, (from_contains 0 n k m).1)

  -- the nodes of a stack, by its times and levels
  pub cells_boxed : stack_cells stack ≡ boxed (cell_of takes) sides.times sides.levels (range_with_len sides.row sides.rows) (range_with_len sides.column sides.columns)
  cells_boxed =
      boxed_agree (λ i j y x. cell_at (plane_at stack i j) (time_at sides i) (level_at sides j) y x) (λ i j y x. cell_of takes (time_at sides i) (level_at sides j) y x)
      (range_with_len 0 (length sides.times)) (range_with_len 0 (length sides.levels)) (range_with_len sides.row sides.rows) (range_with_len sides.column sides.columns)
      (λ i j y x mi mj my mx.
      let b = from_contains sides.row sides.rows y my in
      let a = from_contains sides.column sides.columns x mx in
      ap (node_if (time_at sides i) (level_at sides j) y x)
      (set_is i j y x (number_below (length sides.times) i mi) (number_below (length sides.levels) j mj) b.0 b.1 a.0 a.1))
      ∙ boxed_by_numbers (cell_of takes) sides.times sides.levels (range_with_len sides.row sides.rows) (range_with_len sides.column sides.columns)
