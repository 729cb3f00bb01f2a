use Rattle.edr_ids.specs.ListLaws.{AscendBy-empty}
use Rattle.edr_ids.proofs.by_id.ById.empty.Goals as goal

pub invariant_of-result : goal.invariant_of-result
invariant_of-result g c = AscendBy-empty g.T.Identified.id_of c.empty.result c.empty.ensures
