use Rattle.std.proofs.Common.{◌≡◌, ◌++◌, Some, map, take}
use Rattle.edr_plan.specs.StationPlaces.{cell_of}
use Rattle.edr_plan.proofs.cells.push_levels.Given as goal

abbrev pub invariant-loop-level : goal.invariant-loop-level
invariant-loop-level l = l.cells.items ≡ l.fn.cells.items ++ map (λ z. Some (cell_of l.station l.time z)) (take l.level-index l.levels)
