-- A side of a fork has fewer items than the fork.
use Rattle.std.specs.Prelude.{◌≤◌, length}
use Rattle.std.proofs.Common.{arith, length-append}
use Rattle.std.specs.Arc.{arc_value}
use Rattle.edr_near.specs.declared.frames.Frame.{Frame}
use Rattle.edr_near.specs.declared.placed.Placed.{Ghosts}
use Rattle.edr_near.specs.declared.trees.Top.{Top}
use Rattle.edr_near.specs.declared.trees.Top.TheVariants.{Items, Sides}
use Rattle.edr_near.specs.declared.trees.Tree.TheDeep.{deep-Tree}
use Rattle.edr_near.specs.Trees.{all_in, HasSides}

pub sides_are_shorter : {T : Type 0} (placed : Ghosts T) (frame : Frame) (top : Top T) → HasSides top → deep-Tree T placed (record { frame = frame; top = top }) ≤ length (all_in top)
sides_are_shorter placed frame (Items page) some = omega arith
sides_are_shorter placed frame (Sides fork) some = omega (arith, length-append (arc_value fork).before (arc_value fork).behind, some.0, some.1)
