use Rattle.std.proofs.Common.{◌≡◌, ◌++◌, take}
use Rattle.edr_near.specs.Kept.{values_of}
use Rattle.edr_near.proofs.trees.share_all.Given as goal

abbrev pub invariant-loop-item : goal.invariant-loop-item
invariant-loop-item g l = values_of l.shared.items ≡ values_of l.initial.shared.items ++ take l.item-index (values_of l.items)
