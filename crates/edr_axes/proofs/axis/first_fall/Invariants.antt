use Rattle.edr_axes.specs.Axes.{AscendsBelow}
use Rattle.edr_axes.proofs.axis.first_fall.Given as goal

abbrev pub invariant-loop-place : goal.invariant-loop-place
invariant-loop-place l = AscendsBelow l.values l.place
