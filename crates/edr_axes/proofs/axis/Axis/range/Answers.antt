use Rattle.edr_axes.proofs.axis.Axis.range.Goals as goal

pub count_to-requires : goal.count_to-requires
count_to-requires c = rw c.deref-2.ensures.value c.self.invariant.ascending

pub count_below-first-requires : goal.count_below-first-requires
count_below-first-requires c = rw c.deref.ensures.value c.self.invariant.ascending
