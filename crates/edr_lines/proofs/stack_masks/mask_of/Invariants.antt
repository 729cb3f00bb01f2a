use Rattle.edr_lines.specs.Corridors.{takes_first}
use Rattle.edr_lines.specs.Taken.{HasBits}
use Rattle.edr_lines.proofs.stack_masks.mask_of.Given as goal

abbrev pub invariant-loop-number : goal.invariant-loop-number
invariant-loop-number l = HasBits (takes_first l.corridor l.axes l.number) (record { sides = l.sides; mask = l.mask.items })
