use Rattle.edr_lines.specs.Bits.{PlaneSet}
use Rattle.edr_lines.specs.Boxes.{has_first}
use Rattle.edr_lines.proofs.stack_masks.set_plane.Given as goal

abbrev pub invariant-loop-number : goal.invariant-loop-number
invariant-loop-number l = PlaneSet l.sides (has_first l.taken l.number) l.fn.plane l.plane
