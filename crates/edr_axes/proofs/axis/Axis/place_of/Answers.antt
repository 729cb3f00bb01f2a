use Rattle.edr_axes.proofs.axis.Axis.place_of.Goals as goal

pub place_in-requires : goal.place_in-requires
place_in-requires c = rw c.deref.ensures.value c.self.invariant.ascending
