use Rattle.edr_corridor.proofs.Near.{near_within}
use Rattle.edr_corridor.proofs.laws.near_places_are_within.Goals as goal

pub returns : goal.returns
returns c = near_within
