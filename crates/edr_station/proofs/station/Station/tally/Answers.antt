use Rattle.std.proofs.Common.{rules, ◌<◌, refl, length}
use Rattle.edr_station.specs.Blocks.{series_at}
use Rattle.edr_station.proofs.TallySteps.{part_step}
use Rattle.edr_station.proofs.station.Station.tally.Goals as goal

pub loop-parameter-preserved : goal.loop-parameter-preserved
loop-parameter-preserved c =
    let place = c.loop-parameter.parameter in
    let inside : place < length c.args.self.now.series = search rules in
    part_step c.loop-parameter.tally c.in_ok-tally.tally c.args.self.now.series place (series_at c.args.self.now place) c.loop-parameter.invariant inside refl c.in_ok-tally.ensures
