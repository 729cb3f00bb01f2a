use Rattle.edr_geometry.proofs.StripLemmas.{near_exchanged}
use Rattle.edr_geometry.proofs.laws.near_is_exchanged.Goals as goal

pub returns : goal.returns
returns c = near_exchanged
