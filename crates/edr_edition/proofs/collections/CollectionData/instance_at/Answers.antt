use Rattle.std.proofs.Common.{◌<◌, length, ap, arith}
use Rattle.edr_edition.specs.Values.{CollectionValue}
use Rattle.edr_edition.specs.Instances.{IsInstance}
use Rattle.edr_edition.proofs.HeldLaws.{at_place}
use Rattle.edr_edition.proofs.collections.CollectionData.instance_at.Goals as goal

pub returns-clause-instance : goal.returns-clause-instance
returns-clause-instance c =
    let inside : c.args.place < length c.self.inside.instances = omega (arith, c.requires, ap (λ (collection : CollectionValue). length collection.instances) c.self.view_is) in
    at_place IsInstance c.self.inside.instances c.args.place c.at.result.now c.self.invariant.0.instances.each inside (c.at.ensures c.at.result.now)
