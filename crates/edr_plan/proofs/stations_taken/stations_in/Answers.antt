use Rattle.std.proofs.Common.{rules}
use Rattle.edr_station.specs.Stations.{station_at}
use Rattle.edr_plan.specs.StationPlaces.{takes_station}
use Rattle.edr_plan.proofs.FoundStations.{box_has, taken_inside}
use Rattle.edr_plan.proofs.stations_taken.stations_in.Goals as goal

pub returns : goal.returns
returns c =
    let shape = c.args.shape.now in let stations = c.args.stations.now.stations in
    box_has _ _ stations (λ k. takes_station shape (station_at stations k))
    (λ k h. taken_inside shape c.reach_of-reach.result _ _ c.requires.area c.reach_of-reach.ensures
    (record { left = search rules; right = search rules; low = search rules; high = search rules }) (station_at stations k) h) _ c.in_ok-places.ensures
