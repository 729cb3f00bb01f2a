use Rattle.edr_query.proofs.TargetLemmas.{target_one}
use Rattle.edr_query.proofs.laws.target_is_one.Goals as goal

pub returns : goal.returns
returns c = target_one c.wkt_is_one.ensures c.times_are_unique.ensures c.levels_are_unique.ensures c.distances_are_unique.ensures
