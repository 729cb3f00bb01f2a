use Rattle.std.proofs.Common.{take}
use Rattle.edr_near.specs.Kept.{values_of, AreBoth}
use Rattle.edr_near.proofs.trees.parted.Given as goal

abbrev pub invariant-loop-item : goal.invariant-loop-item
invariant-loop-item g l = AreBoth (values_of l.before.items) (values_of l.behind.items) (take l.item-index (values_of l.items))
