use Rattle.std.proofs.Common.{◌≡◌, ◌+◌, ◌++◌, map, false}
use Rattle.std.specs.List.{range_with_len, slice_index_or}
use Rattle.edr_plan.specs.StationPlaces.{cell_if}
use Rattle.edr_plan.proofs.stack_cells.push_levels.Given as goal

abbrev pub invariant-loop-at : goal.invariant-loop-at
invariant-loop-at l =
    l.cells.items ≡ l.fn.cells.items ++ map (λ j. cell_if (slice_index_or l.taken j false) (l.first + slice_index_or l.levels j 0)) (range_with_len 0 l.at)
