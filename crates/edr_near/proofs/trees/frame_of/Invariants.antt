use Rattle.std.proofs.Common.{take, Contains}
use Rattle.edr_near.specs.Frames.{Holds, IsFrame}
use Rattle.edr_near.specs.Kept.{values_of}
use Rattle.edr_near.proofs.trees.frame_of.Given as goal

abbrev pub invariant-loop-item : goal.invariant-loop-item
invariant-loop-item g l = IsFrame l.frame × ((v : g.row.T.Denot) → Contains (take l.item-index (values_of l.items)) v → Holds l.frame (g.T.Placed.spot_of v))
