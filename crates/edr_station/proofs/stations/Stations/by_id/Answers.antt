use Rattle.std.proofs.Common.{Some, sym, ap, ◌∙◌}
use Rattle.edr_ids.specs.Ids.{item_of}
use Rattle.edr_station.specs.Stations.{StationsValue, station_id, station_at}
use Rattle.edr_station.proofs.SortedPlaces.{one_found, none_found}
use Rattle.edr_station.proofs.stations.Stations.by_id.Goals as goal

pub returns-in-Ok-clause-found : goal.returns-in-Ok-clause-found
returns-in-Ok-clause-found c =
    let place = c.in-Ok.place in
    let shelf = c.self.inside.shelf in
    let at = c.in-Ok.ensures.place in
    ap (λ (v : StationsValue). Some (station_at v.stations place)) (sym c.self.view_is)
    ∙ (sym (one_found c.args.id.now shelf c.self.invariant.0.stations.ascending place at.0 at.1)
    ∙ ap (λ (v : StationsValue). item_of station_id c.args.id.now v.stations) c.self.view_is)

pub returns-in-Err-clause-found : goal.returns-in-Err-clause-found
returns-in-Err-clause-found c =
    let at = c.in-Err.ensures.place in
    sym (none_found c.args.id.now c.self.inside.shelf c.in-Err.field-0 at.1 at.2)
    ∙ ap (λ (v : StationsValue). item_of station_id c.args.id.now v.stations) c.self.view_is
