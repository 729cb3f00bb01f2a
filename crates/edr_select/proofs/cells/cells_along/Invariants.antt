use Rattle.std.proofs.Common.{◌≡◌, map, take}
use Rattle.edr_select.specs.Choices.{node_of}
use Rattle.edr_select.proofs.cells.cells_along.Given as goal

abbrev pub invariant-loop-spot : goal.invariant-loop-spot
invariant-loop-spot l = l.cells.items ≡ map (λ spot. node_of l.xs spot l.t l.z) (take l.spot-index l.choice.spots)
