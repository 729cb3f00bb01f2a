use Rattle.edr_ids.proofs.SortedLists.{are_by_id}
use Rattle.edr_ids.proofs.identified.items_are_by_id.Goals as goal

pub returns : goal.returns
returns g c = are_by_id g.T.Identified.id_of
