use Rattle.std.proofs.Common.{subst}
use Rattle.edr_station.specs.Stations.{StationsValue, station_at}
use Rattle.edr_query.specs.Values.{QueryValue}
use Rattle.edr_plan.specs.StationPlaces.{HasAll, IsOfStations, is_taken, takes_station}
use Rattle.edr_plan.specs.CorridorPlans.{HasLevelsWanted, IsLineOf, is_near}
use Rattle.edr_plan.proofs.EachTaken.{taken_by_shape}
use Rattle.edr_plan.proofs.FoundStations.{has_fewer}
use Rattle.edr_plan.proofs.NearStations.{taken_near}
use Rattle.edr_plan.proofs.station_plans.stations_asked.Goals as goal

pub returns-in_ok-places-in-Some : goal.returns-in_ok-places-in-Some
returns-in_ok-places-in-Some c =
    let is : IsLineOf c.args.query.now c.in-Some.line × HasLevelsWanted c.args.collection.now.stations c.in-Some.line.segments = (let told = c.requires.line in rw c.in-Some.is at told) in
    let line = c.in-Some.line.corridor in
    has_fewer c.args.collection.now.stations (is_near line.line line.width c.args.collection.now.stations) (is_taken c.args.collection.now c.args.query.now)
    (taken_near c.args.collection.now c.args.query.now line is.0.shape) _
    (subst (λ (v : StationsValue). HasAll v.stations (is_near line.line line.width v.stations) c.in_ok-places-in-Some.places.items) c.requires.stations c.in_ok-places-in-Some.ensures)

pub returns-in_ok-places-in-None : goal.returns-in_ok-places-in-None
returns-in_ok-places-in-None c =
    let of : IsOfStations c.args.query.now.shape = (let told = c.requires.line in rw c.in-None.is at told) in
    has_fewer c.args.collection.now.stations (λ k. takes_station c.args.query.now.shape (station_at c.args.collection.now.stations k)) (is_taken c.args.collection.now c.args.query.now)
    (taken_by_shape c.args.collection.now c.args.query.now of) _
    (subst (λ (q : QueryValue). HasAll c.args.collection.now.stations (λ k. takes_station q.shape (station_at c.args.collection.now.stations k)) c.in_ok-places-in-None.places.items) c.query.view_is
    (subst (λ (v : StationsValue). HasAll v.stations (λ k. takes_station c.query.inside.shape (station_at v.stations k)) c.in_ok-places-in-None.places.items) c.requires.stations
    c.in_ok-places-in-None.ensures))
