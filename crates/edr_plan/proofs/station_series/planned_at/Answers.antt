use Rattle.std.proofs.Common.{sym, subst}
use Rattle.edr_station.specs.Stations.{StationsValue}
use Rattle.edr_station.specs.Blocks.{Within, place_at}
use Rattle.edr_plan.proofs.StationSteps.{first_within}
use Rattle.edr_plan.proofs.station_series.planned_at.Goals as goal

pub block_of-requires : goal.block_of-requires
block_of-requires c =
    subst (λ (v : StationsValue). Within v (place_at c.args.place 0 0 0)) (sym c.requires.stations)
    (first_within c.args.collection.now c.args.parameters.now c.args.place c.args.choice.now c.requires.some c.requires.parameters c.requires.place c.requires.choice)
