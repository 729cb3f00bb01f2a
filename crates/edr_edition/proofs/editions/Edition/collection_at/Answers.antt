use Rattle.std.proofs.Common.{◌<◌, length, ap, arith}
use Rattle.edr_edition.specs.Values.{EditionValue}
use Rattle.edr_edition.specs.Editions.{IsCollection}
use Rattle.edr_edition.proofs.HeldLaws.{at_place}
use Rattle.edr_edition.proofs.editions.Edition.collection_at.Goals as goal

pub returns-clause-collection : goal.returns-clause-collection
returns-clause-collection c =
    let inside : c.args.place < length c.self.inside.collections = omega (arith, c.requires, ap (λ (edition : EditionValue). length edition.collections) c.self.view_is) in
    at_place IsCollection c.self.inside.collections c.args.place c.at.result.now c.self.invariant.each inside (c.at.ensures c.at.result.now)
