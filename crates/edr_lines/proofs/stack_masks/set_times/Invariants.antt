use Rattle.edr_corridor.specs.Boxes.{box_takes}
use Rattle.edr_lines.proofs.SetLevels.{TimesBelow}
use Rattle.edr_lines.proofs.stack_masks.set_times.Given as goal

abbrev pub invariant-loop-number : goal.invariant-loop-number
invariant-loop-number l = TimesBelow l.sides (box_takes l.taken) l.number l.fn.mask l.mask
