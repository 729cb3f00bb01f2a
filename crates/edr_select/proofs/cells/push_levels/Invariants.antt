use Rattle.std.proofs.Common.{◌≡◌, ◌++◌, map, take}
use Rattle.edr_select.specs.Choices.{node_of}
use Rattle.edr_select.proofs.cells.push_levels.Given as goal

abbrev pub invariant-loop-level : goal.invariant-loop-level
invariant-loop-level l = l.cells.items ≡ l.fn.cells.items ++ map (node_of l.xs l.spot l.t) (take l.level-index l.levels)
