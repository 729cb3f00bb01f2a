use Rattle.std.proofs.Common.{◌≡◌, Some, map, take}
use Rattle.std.specs.List.{flat_map}
use Rattle.edr_plan.specs.StationPlaces.{cell_of}
use Rattle.edr_plan.proofs.cells.cells_at.Given as goal

abbrev pub invariant-loop-time : goal.invariant-loop-time
invariant-loop-time l = l.cells.items ≡ flat_map (λ t. map (λ z. Some (cell_of l.station t z)) l.choice.levels) (take l.time-index l.choice.times)
