use Rattle.std.proofs.Common.{◌≡◌, [], sym, ap, ◌∙◌, subst}
use Rattle.std.proofs.lemmas.Result.{IfOk-weaker}
use Rattle.edr_ids.specs.Ids.{with_item, without_id}
use Rattle.edr_station.specs.Stations.{StationsValue, station_id}
use Rattle.edr_edition.specs.CollectionLaws.{set_alone}
use Rattle.edr_edition.proofs.CollectionInstances.{some_there}
use Rattle.edr_edition.proofs.collections.CollectionData.stations_beside.Goals as goal

pub returns-in-None-clause-same : goal.returns-in-None-clause-same
returns-in-None-clause-same c =
    λ s same. ap (λ (kept : StationsValue). with_item station_id s kept.stations) c.new.ensures
    ∙ set_alone station_id s c.args.self.now.stations (subst (λ id. without_id station_id id c.args.self.now.stations ≡ []) (sym same) c.in-None.ensures.other)

pub returns-in-Some-clause-same : goal.returns-in-Some-clause-same
returns-in-Some-clause-same c = IfOk-weaker c.share_stations.result _ _ (λ kept is s same. ap (λ (kept : StationsValue). with_item station_id s kept.stations) is) c.share_stations.ensures

pub returns-in-Some-clause-parameters : goal.returns-in-Some-clause-parameters
returns-in-Some-clause-parameters c =
    let same = c.requires.same (some_there (without_id station_id c.args.id.now c.args.self.now.stations) _ c.in-Some.ensures.other) in
    IfOk-weaker c.share_stations.result _ _ (λ kept is. ap (λ (kept : StationsValue). kept.parameters) is ∙ same) c.share_stations.ensures
