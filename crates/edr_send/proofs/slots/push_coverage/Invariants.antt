use Rattle.std.proofs.Common.{take}
use Rattle.std.specs.List.{flat_map}
use Rattle.edr_send.specs.Filling.{SlotsGrew}
use Rattle.edr_send.specs.Gathered.{places_of_range}
use Rattle.edr_send.proofs.slots.push_coverage.Given as goal

abbrev pub invariant-loop-parameter : goal.invariant-loop-parameter
invariant-loop-parameter l = SlotsGrew l.shape (flat_map (places_of_range l.planned.cells) (take l.parameter-index l.parameters)) l.fn.slots.items l.slots.items
