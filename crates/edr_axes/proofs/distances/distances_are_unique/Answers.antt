use Rattle.edr_axes.proofs.DistanceLemmas.{distance_same}
use Rattle.edr_axes.proofs.distances.distances_are_unique.Goals as goal

pub returns : goal.returns
returns c = distance_same
