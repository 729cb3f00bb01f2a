use Rattle.std.proofs.Common.{sym, subst}
use Rattle.edr_axes.specs.Axes.{IsAxis}
use Rattle.edr_axes.proofs.axis.Axis.copy.Goals as goal

pub over-requires : goal.over-requires
over-requires c = subst IsAxis (sym c.deref.ensures.value) c.self.invariant
