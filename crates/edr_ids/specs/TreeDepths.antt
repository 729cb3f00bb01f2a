-- A side of a branch has fewer items than the branch.
use Rattle.std.specs.Prelude.{◌≤◌, ◌∷◌, length, Option, None, Some}
use Rattle.std.proofs.Common.{arith, length-append}
use Rattle.std.specs.Arc.{arc_value}
use Rattle.std.specs.declared.sync.Arc.{Arc}
use Rattle.std.specs.declared.alloc.Global.{Global}
use Rattle.edr_ids.specs.declared.trees.Branch.{Branch}
use Rattle.edr_ids.specs.declared.trees.Tree.TheDeep.{deep-Tree}
use Rattle.edr_ids.specs.Trees.{items_of}

pub sides_are_shorter : {T : Type 0} (top : Option (Arc (Branch T) Global)) → deep-Tree T (record { top = top }) ≤ length (items_of top)
sides_are_shorter None = omega arith
sides_are_shorter (Some branch) = omega (arith, length-append (arc_value branch).before (arc_value (arc_value branch).item ∷ (arc_value branch).behind))
