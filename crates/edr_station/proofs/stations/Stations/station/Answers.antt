use Rattle.std.proofs.Common.{◌<◌, length, sym, subst}
use Rattle.edr_station.specs.Stations.{StationsValue, IsStation, nowhere}
use Rattle.edr_station.proofs.stations.Stations.station.Goals as goal

pub returns-clause-station : goal.returns-clause-station
returns-clause-station c =
    let inside = subst (λ (v : StationsValue). c.args.place < length v.stations) (sym c.self.view_is) c.requires in
    subst (λ (v : StationsValue). IsStation v.parameters c.at.result.now) c.self.view_is
    (subst (IsStation c.self.inside.parameters) (sym (c.at.ensures nowhere)) (c.self.invariant.0.stations.each c.args.place nowhere inside))
