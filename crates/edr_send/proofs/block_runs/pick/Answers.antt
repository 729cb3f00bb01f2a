use Rattle.std.proofs.Common.{rules, ◌≡◌, ◌<◌, ◌%◌, None, Some, length, get_or}
use Rattle.edr_send.proofs.BlockRuns.{of_taken}
use Rattle.edr_send.proofs.block_runs.pick.Goals as goal

pub bounds-block-cell : goal.bounds-block-cell
bounds-block-cell c =
    let is : get_or c.args.cells.now c.loop-cell.cell-index None ≡ Some c.in-Some.cell = search rules in
    of_taken (λ cell. cell % 256 < length c.args.block.now) c.args.cells.now c.requires c.loop-cell.cell-index c.in-Some.cell c.loop-cell-test.true is
