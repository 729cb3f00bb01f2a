use Rattle.std.proofs.Common.{◌≡◌, take}
use Rattle.edr_lines.specs.Vertices.{steps_of}
use Rattle.edr_lines.proofs.vertices.steps_of.Given as goal

abbrev pub invariant-loop-vertex : goal.invariant-loop-vertex
invariant-loop-vertex l = l.steps.items ≡ steps_of l.axes l.has_z l.has_m (take l.vertex-index l.line)
