use Rattle.std.proofs.Common.{◌∙◌, ap}
use Rattle.edr_station.specs.Stations.{StationsValue, station_at}
use Rattle.edr_plan.specs.CorridorPlans.{axes_of}
use Rattle.edr_plan.proofs.station_series.add_near.Goals as goal

pub add_along-requires-clause-axes : goal.add_along-requires-clause-axes
add_along-requires-clause-axes c =
    c.axes_at-axes.ensures ∙ ap axes_of (c.station-station.ensures.at ∙ ap (λ (v : StationsValue). station_at v.stations c.args.place) c.requires.stations)
