use Rattle.std.proofs.Common.{◌<◌, length, ap, ◌∙◌, arith}
use Rattle.edr_station.specs.Stations.{StationValue}
use Rattle.edr_station.specs.Tallies.{tally_of, and_of}
use Rattle.edr_feed.specs.Summaries.{station_samples}
use Rattle.edr_feed.proofs.SummaryLemmas.{station_step}
use Rattle.edr_feed.proofs.summaries.with_stations.Goals as goal

pub loop-place-preserved : goal.loop-place-preserved
loop-place-preserved c =
    let stations = c.args.stations.now.stations in
    let now = c.loop-place.tally in
    let inside : c.loop-place.place < length stations = omega (arith, c.loop-place-test.true, c.len-place-end.ensures.len) in
    let values = c.in_ok-tally.ensures ∙ ap (λ (s : StationValue). tally_of (station_samples s)) c.station.ensures.at in
    station_step c.tallies_add_up.ensures c.args.totals.tally now c.in_ok-tally-2.tally stations c.loop-place.place _ c.loop-place.invariant inside
    (c.in_ok-tally-2.ensures ∙ ap (and_of now) values)
