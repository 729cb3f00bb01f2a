use Rattle.std.proofs.Common.{◌≡◌, map, take}
use Rattle.edr_axes.specs.Axes.{value_at}
use Rattle.edr_axes.proofs.axis.Axis.values_at.Given as goal

abbrev pub invariant-loop-place : goal.invariant-loop-place
invariant-loop-place l = l.values.items ≡ map (value_at l.self) (take l.place-index l.places)
