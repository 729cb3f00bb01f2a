use Rattle.std.proofs.Common.{List, length, sym, ap, ◌∙◌, subst}
use Rattle.edr_ids.specs.Ids.{without_id}
use Rattle.edr_station.specs.Stations.{StationValue, StationsValue, station_id}
use Rattle.edr_edition.specs.Values.{InstanceValue}
use Rattle.edr_edition.specs.Editions.{IsCollection}
use Rattle.edr_edition.specs.Collections.{holding, parameters_in}
use Rattle.edr_edition.specs.CollectionLaws.{take_station_keeps}
use Rattle.edr_edition.proofs.CollectionInstances.{count_is, station_taken}
use Rattle.edr_edition.proofs.collections.CollectionData.without_station.Goals as goal

pub with-requires-clause-collection : goal.with-requires-clause-collection
with-requires-clause-collection c =
    let collection = c.args.self.now in
    let id = c.args.id.now in
    let is : IsCollection collection = subst IsCollection c.self.view_is c.self.invariant.0 in
    let taken = station_taken collection is c.requires (parameters_in c.in_ok-parameters.parameters) c.some_or_new.result.stations id
    (count_is collection.parameters c.in_ok-parameters.ensures (c.len.ensures.len ∙ ap (λ (ss : List StationValue). length ss) (sym c.some_or_new.ensures.stations)))
    (c.some_or_new.ensures.stations ∙ (c.in_ok-take_out.ensures.without ∙ ap (λ (s : StationsValue). without_id station_id id s.stations) c.in_ok-stations.ensures)) in
    subst (λ (xs : List InstanceValue). IsCollection (holding collection (parameters_in c.in_ok-parameters.parameters) xs c.some_or_new.result.stations)) (sym c.empty.ensures)
    (subst IsCollection (sym taken) (take_station_keeps collection id is c.requires))

pub returns-clause-left : goal.returns-clause-left
returns-clause-left c =
    let collection = c.args.self.now in
    let id = c.args.id.now in
    let is : IsCollection collection = subst IsCollection c.self.view_is c.self.invariant.0 in
    let taken = station_taken collection is c.requires (parameters_in c.in_ok-parameters.parameters) c.some_or_new.result.stations id
    (count_is collection.parameters c.in_ok-parameters.ensures (c.len.ensures.len ∙ ap (λ (ss : List StationValue). length ss) (sym c.some_or_new.ensures.stations)))
    (c.some_or_new.ensures.stations ∙ (c.in_ok-take_out.ensures.without ∙ ap (λ (s : StationsValue). without_id station_id id s.stations) c.in_ok-stations.ensures)) in
    c.in_ok-left.ensures
    ∙ (ap (λ (xs : List InstanceValue). holding collection (parameters_in c.in_ok-parameters.parameters) xs c.some_or_new.result.stations) c.empty.ensures ∙ taken)
