use Rattle.edr_edition.specs.Values.{collection_id}
use Rattle.edr_edition.specs.Editions.{IsCollection}
use Rattle.edr_edition.proofs.HeldLaws.{found_is}
use Rattle.edr_edition.proofs.editions.Edition.collection.Goals as goal

pub returns-clause-collection : goal.returns-clause-collection
returns-clause-collection c =
    found_is IsCollection (λ collection. collection.now) collection_id c.args.id.now c.self.inside.collections c.item_of.result c.self.invariant.each c.item_of.ensures
