use Rattle.std.proofs.Common.{sym, subst}
use Rattle.std.specs.Arc.{arc_value}
use Rattle.edr_ids.specs.Ids.{AscendBy}
use Rattle.edr_ids.specs.ListLaws.{AscendBy-with_item}
use Rattle.edr_ids.proofs.by_id.ById.put.Goals as goal

pub invariant_of-self : goal.invariant_of-self
invariant_of-self g c =
    let key = g.T.Identified.id_of in
    subst (AscendBy key) (sym c.in_ok-self-inside.ensures) (AscendBy-with_item key (arc_value c.in_ok-shared.shared) c.self.inside.items c.self.invariant)
