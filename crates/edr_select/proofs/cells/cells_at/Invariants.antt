use Rattle.std.proofs.Common.{◌≡◌, map, take}
use Rattle.std.specs.List.{flat_map}
use Rattle.edr_select.specs.Choices.{node_of}
use Rattle.edr_select.proofs.cells.cells_at.Given as goal

abbrev pub invariant-loop-time : goal.invariant-loop-time
invariant-loop-time l = l.cells.items ≡ flat_map (λ t. map (node_of l.xs l.spot t) l.choice.levels) (take l.time-index l.choice.times)
