use Rattle.std.proofs.Common.{take, Contains}
use Rattle.std.specs.Prelude.{◌↔◌}
use Rattle.edr_near.specs.Cells.{Has}
use Rattle.edr_near.specs.Kept.{values_of}
use Rattle.edr_near.proofs.collections.Cells.of.Given as goal

abbrev pub invariant-loop-item : goal.invariant-loop-item
invariant-loop-item g l = (v : g.row.T.Denot) → Has l.cells v ↔ Contains (take l.item-index (values_of l.items)) v
