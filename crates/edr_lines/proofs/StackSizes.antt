-- When some parameters have more values over a stack than a reply may have, and how many its sides have at most.
use Rattle.std.proofs.Common.{◌≡◌, ◌≢◌, ℕ, ◌*◌, ◌<◌, ◌≤◌, ◌^◌, List, [], length, arith}
use Rattle.std.specs.Prelude.{nat_lt, false}
use Rattle.std.proofs.Math.Nat.{mul_assoc}
use Rattle.std.proofs.lemmas.Bool.Decides.{nat_tests}
use Rattle.edr_select.specs.Limits.{value_limit}
use Rattle.edr_select.specs.Stacks.{SidesValue, stack_count}
use Rattle.edr_select.specs.LevelLaws.{some_length}
use Rattle.edr_lines.specs.Plans.{HasNodes, stacked_count}

-- a product with a count is no less
more : (a b : ℕ) → 1 ≤ b → a ≤ b * a
more a b h = grind (arith, h)

at_most : (n : ℕ) → nat_lt value_limit n ≡ false → n ≤ value_limit
at_most n h = grind (arith, nat_tests)

module _ (parameters : List ℕ) (sides : SidesValue) (some : parameters ≢ []) (nodes : HasNodes sides) where
  -- where the nodes of all times are too many
  pub nodes_above : value_limit < length sides.times * (length sides.levels * (sides.rows * sides.columns)) → value_limit < stacked_count parameters sides
  nodes_above large =
      let all : stack_count sides ≡ length sides.times * (length sides.levels * (sides.rows * sides.columns)) = mul_assoc (length sides.times) (length sides.levels) (sides.rows * sides.columns) in
      let whole : stack_count sides ≤ stacked_count parameters sides = more (stack_count sides) (length parameters) (some_length parameters some) in
      omega (arith, large, all, whole)

  -- where those of one time are
  pub planes_above : value_limit < length sides.levels * (sides.rows * sides.columns) → value_limit < stacked_count parameters sides
  planes_above large =
      let whole : length sides.levels * (sides.rows * sides.columns) ≤ length sides.times * (length sides.levels * (sides.rows * sides.columns)) =
      more (length sides.levels * (sides.rows * sides.columns)) (length sides.times) (some_length sides.times nodes.times) in
      nodes_above (omega (arith, large, whole))

  -- where all values aren't too many, no more truth values are taken than there is room for
  pub nodes_fit : nat_lt value_limit (stacked_count parameters sides) ≡ false → stack_count sides < 2 ^ 63
  nodes_fit fits =
      let few : stacked_count parameters sides ≤ value_limit = at_most (stacked_count parameters sides) fits in
      let whole : stack_count sides ≤ stacked_count parameters sides = more (stack_count sides) (length parameters) (some_length parameters some) in
      omega (arith, few, whole)
