use Rattle.edr_lines.specs.Bits.{takes_below}
use Rattle.edr_lines.proofs.SetLevels.{LevelsBelow}
use Rattle.edr_lines.proofs.stack_masks.set_levels.Given as goal

abbrev pub invariant-loop-number : goal.invariant-loop-number
invariant-loop-number l = LevelsBelow l.sides (takes_below l.taken) l.number l.fn.planes l.planes
