-- What is planned for queries along lines; for the calls that plan, and private clauses.
use Rattle.std.specs.Prelude.{◌≡◌, ℕ, ◌*◌, ◌≤◌, nat_lt, true, false, List, length}
use Rattle.edr_base.specs.Limits.{node_limit}
use Rattle.covjson_value.specs.declared.domains.Domain.{Domain}
use Rattle.edr_corridor.specs.Boxes.{GridAxes}
use Rattle.edr_edition.specs.Values.{InstanceValue}
use Rattle.edr_select.specs.Limits.{value_limit}
use Rattle.edr_select.specs.Stacks.{SidesValue, stack_count}
use Rattle.edr_select.specs.AreaPlans.{domain_within, AreSome}
use Rattle.edr_lines.specs.Taken.{Counts, NodeTest, AreSidesOf}

-- there are no more rows and columns than a grid has nodes
pub record IsFew (axes : GridAxes) : Type 0 where
  pub rows : length axes.ys ≤ node_limit
  pub columns : length axes.xs ≤ node_limit

-- ---- for private clauses

-- the axes of a grid
abbrev pub axes_of : InstanceValue → GridAxes
axes_of i = record { ts = i.ts; zs = i.zs; ys = i.ys; xs = i.xs }

-- the times, the levels and the rows and columns of a stack
abbrev pub domain_over : InstanceValue → SidesValue → Domain
domain_over i sides = domain_within i sides.times sides.levels sides.row sides.rows sides.column sides.columns

-- how many values some parameters have over a stack
abbrev pub stacked_count : List ℕ → SidesValue → ℕ
stacked_count parameters sides = length parameters * stack_count sides

-- sides aren't empty
abbrev pub HasNodes : SidesValue → Type 0
HasNodes sides = AreSome sides.times sides.levels sides.rows sides.columns

-- the sides of all that is taken, unless some parameters have more values over these sides than a reply may have; then they have too
-- many over those of all that is taken
pub record AreSidesOrMore (parameters : List ℕ) (n : Counts) (takes : NodeTest) (sides : SidesValue) : Type 0 where
  pub nodes : HasNodes sides
  pub whole : nat_lt value_limit (stacked_count parameters sides) ≡ false → AreSidesOf n takes sides
  pub more : nat_lt value_limit (stacked_count parameters sides) ≡ true → (all : SidesValue) × AreSidesOf n takes all × (nat_lt value_limit (stacked_count parameters all) ≡ true)
