use Rattle.std.proofs.Common.{take}
use Rattle.edr_send.specs.Filling.{SlotsGrew}
use Rattle.edr_send.specs.Gathered.{places_of_range}
use Rattle.edr_send.proofs.slots.push_range.Given as goal

abbrev pub invariant-loop-cell : goal.invariant-loop-cell
invariant-loop-cell l = SlotsGrew l.shape (places_of_range (take l.cell-index l.cells) l.parameter) l.fn.slots.items l.slots.items
