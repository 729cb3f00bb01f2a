use Rattle.std.proofs.Common.{sym, subst}
use Rattle.edr_axes.specs.Axes.{IsAxis}
use Rattle.edr_axes.proofs.axis.Axis.nearest.Goals as goal

pub nearest_in-requires : goal.nearest_in-requires
nearest_in-requires c = subst IsAxis (sym c.deref.ensures.value) c.self.invariant
