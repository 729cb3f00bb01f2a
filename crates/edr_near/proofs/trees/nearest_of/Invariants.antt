use Rattle.std.proofs.Common.{◌++◌, take, Contains, option_map, option_to_list}
use Rattle.edr_near.specs.Near.{Nearest}
use Rattle.edr_near.specs.Kept.{values_of}
use Rattle.edr_near.proofs.trees.nearest_of.Given as goal

abbrev pub invariant-loop-item : goal.invariant-loop-item
invariant-loop-item g l =
    Nearest g.T.Identified.id_of g.T.Placed.spot_of l.spot (Contains (option_to_list (option_map (λ b. b.now) l.best) ++ take l.item-index (values_of l.items))) (option_map (λ i. i.now) l.nearest)
