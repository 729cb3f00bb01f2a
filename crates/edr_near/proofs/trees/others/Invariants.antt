use Rattle.std.proofs.Common.{◌≡◌, false, take, Contains}
use Rattle.std.specs.Prelude.{◌↔◌}
use Rattle.edr_near.specs.Near.{is_it}
use Rattle.edr_near.specs.Kept.{values_of}
use Rattle.edr_near.proofs.trees.others.Given as goal

abbrev pub invariant-loop-item : goal.invariant-loop-item
invariant-loop-item g l =
    (v : g.row.T.Denot) → Contains (values_of l.others.items) v ↔ (Contains (take l.item-index (values_of l.items)) v × (is_it g.T.Identified.id_of g.T.Placed.spot_of l.spot l.id v ≡ false))
