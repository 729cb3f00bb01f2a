use Rattle.edr_edition.specs.Values.{instance_id}
use Rattle.edr_edition.specs.Instances.{IsInstance}
use Rattle.edr_edition.proofs.HeldLaws.{found_is}
use Rattle.edr_edition.proofs.collections.CollectionData.instance.Goals as goal

pub returns-clause-instance : goal.returns-clause-instance
returns-clause-instance c =
    found_is IsInstance (λ instance. instance.now) instance_id c.args.id.now c.self.inside.instances c.item_of.result c.self.invariant.0.instances.each c.item_of.ensures
