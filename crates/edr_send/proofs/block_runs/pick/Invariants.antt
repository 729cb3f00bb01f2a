use Rattle.std.proofs.Common.{◌≡◌, take}
use Rattle.std.specs.Prelude.{map}
use Rattle.edr_send.specs.SeriesTexts.{picked_of}
use Rattle.edr_send.proofs.block_runs.pick.Given as goal

abbrev pub invariant-loop-cell : goal.invariant-loop-cell
invariant-loop-cell l = l.values.items ≡ map (picked_of l.block) (take l.cell-index l.cells)
