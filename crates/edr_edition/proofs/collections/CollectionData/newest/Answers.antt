use Rattle.std.proofs.Common.{ap, ◌∙◌, arith}
use Rattle.edr_edition.specs.Values.{CollectionValue}
use Rattle.edr_edition.specs.Instances.{IsInstance}
use Rattle.edr_edition.specs.Stores.{newest}
use Rattle.edr_edition.proofs.HeldLaws.{at_place}
use Rattle.edr_edition.proofs.NewestLaws.{newest_at}
use Rattle.edr_edition.proofs.collections.CollectionData.newest.Goals as goal

pub returns-in-Some-clause-newest : goal.returns-in-Some-clause-newest
returns-in-Some-clause-newest c =
    newest_at c.self.inside.instances c.in-Some.place c.at.result.now c.len.ensures.ascending (omega (arith, c.in-Some.ensures.0, c.in-Some.ensures.1, c.len.ensures.len)) (c.at.ensures c.at.result.now)
    ∙ ap (λ (collection : CollectionValue). newest collection.instances) c.self.view_is

pub returns-in-Some-clause-instance : goal.returns-in-Some-clause-instance
returns-in-Some-clause-instance c =
    at_place IsInstance c.self.inside.instances c.in-Some.place c.at.result.now c.self.invariant.0.instances.each (omega (arith, c.in-Some.ensures.0, c.in-Some.ensures.1, c.len.ensures.len)) (c.at.ensures c.at.result.now)
