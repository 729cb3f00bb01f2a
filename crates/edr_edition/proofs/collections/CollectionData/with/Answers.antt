use Rattle.std.proofs.Common.{sym, subst}
use Rattle.edr_edition.specs.declared.collections.Head.{Head}
use Rattle.edr_edition.specs.Values.{CollectionValue}
use Rattle.edr_edition.specs.Editions.{IsCollection}
use Rattle.edr_edition.specs.Collections.{holding, parameters_in, stations_in, KeepsStations}
use Rattle.edr_edition.proofs.collections.CollectionData.with.Goals as goal

pub invariant_of-result : goal.invariant_of-result
invariant_of-result c =
    let parameters = parameters_in c.args.parameters in
    let stations = stations_in c.args.stations in
    subst (λ (head : Head). IsCollection (record {
      id = head.id;
      title = head.title;
      kind = head.kind;
      referencing = head.referencing;
      parameters = parameters;
      instances = c.args.instances;
      stations = stations;
    }) × KeepsStations head.kind parameters c.args.stations) (sym c.in_ok-try_clone.ensures)
    (subst (λ (collection : CollectionValue). IsCollection (holding collection parameters c.args.instances stations) × KeepsStations collection.kind parameters c.args.stations)
    (sym c.self.view_is) (c.requires.collection, c.requires.keeps))
