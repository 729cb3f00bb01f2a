use Rattle.std.proofs.Common.{rules}
use Rattle.edr_plan.proofs.StackRows.{row_added}
use Rattle.edr_plan.proofs.stack_cells.cells_of.Goals as goal

pub loop-at-preserved : goal.loop-at-preserved
loop-at-preserved c =
    row_added c.args.station.now c.args.stack.now c.items-times.result.now c.items-levels.result.now c.items-taken.result.now c.levels_in-along.result (search rules) (search rules)
    (search rules) c.levels_in-along.ensures c.loop-at.at c.loop-at.cells.items c.push_levels.new.cells.items c.loop-at.invariant c.in_ok-push_levels.ensures
