use Rattle.std.proofs.Common.{◌≡◌, length, map}
use Rattle.std.specs.List.{flat_map, range_with_len, slice_index_or}
use Rattle.edr_plan.specs.StationPlaces.{cell_of, cell_if}
use Rattle.edr_plan.specs.CorridorPlans.{bit_at}
use Rattle.edr_plan.proofs.stack_cells.cells_of.Given as goal

abbrev pub invariant-loop-at : goal.invariant-loop-at
invariant-loop-at l =
    l.cells.items
    ≡ flat_map (λ i. map (λ j. cell_if (bit_at l.stack i j) (cell_of l.station (slice_index_or l.stack.sides.times i 0) (slice_index_or l.stack.sides.levels j 0)))
    (range_with_len 0 (length l.stack.sides.levels))) (range_with_len 0 l.at)
