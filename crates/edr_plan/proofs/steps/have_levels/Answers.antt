use Rattle.std.proofs.Common.{◌≡◌, ap, ◌∙◌, arith, ◌<◌, length, List, ℤ, is_some, Bor}
use Rattle.edr_station.specs.Stations.{StationValue, StationsValue, station_at}
use Rattle.edr_plan.proofs.StationLevels.{first_has_levels, some_mapped}
use Rattle.edr_plan.proofs.steps.have_levels.Goals as goal

pub returns : goal.returns
returns c =
    let stations : c.args.stations.now.stations ≡ c.args.collection.now.stations = ap (λ (s : StationsValue). s.stations) c.requires.stations in
    let some : 0 < length c.args.collection.now.stations = omega (arith, c.if-len-eq0.false, c.len.ensures.len, ap (λ (ss : List StationValue). length ss) stations) in
    c.is_some.ensures
    ∙ (some_mapped (λ (axis : Bor (List ℤ)). axis.now) c.levels.result
    ∙ (ap is_some c.levels.ensures
    ∙ (ap (λ (s : StationValue). is_some s.zs) c.station.ensures.at
    ∙ (ap (λ (ss : List StationValue). is_some (station_at ss 0).zs) stations
    ∙ first_has_levels c.args.collection.now.stations c.requires.collection.stations.alike some))))
