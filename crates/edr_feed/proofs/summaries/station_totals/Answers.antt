use Rattle.std.proofs.Common.{◌<◌, ◌+◌, length, ap, ◌∙◌, arith}
use Rattle.edr_edition.specs.Values.{CollectionValue}
use Rattle.edr_station.specs.Tallies.{tally_of, and_of}
use Rattle.edr_feed.specs.Summaries.{series_of}
use Rattle.edr_feed.proofs.SummaryLemmas.{station_counts, station_tallies}
use Rattle.edr_feed.proofs.summaries.station_totals.Goals as goal

pub loop-place-preserved : goal.loop-place-preserved
loop-place-preserved c =
    let collections = c.args.edition.now.collections in
    let now = c.loop-place.totals in
    let next = c.in_ok-totals.totals in
    let d = c.collection_at.result.now in
    let inside : c.loop-place.place < length collections = omega (arith, c.loop-place-test.true, c.len-place-end.ensures.len) in
    let count = ap (λ (x : CollectionValue). now.count + length x.stations) (c.collection_at.ensures.at d) in
    let tally = ap (λ (x : CollectionValue). and_of now.tally (tally_of (series_of x.stations))) (c.collection_at.ensures.at d) in (
      station_counts now.count next.count collections c.loop-place.place d c.loop-place.invariant.0 inside (c.in_ok-totals.ensures.count ∙ count),
      station_tallies c.tallies_add_up.ensures now.tally next.tally collections c.loop-place.place d c.loop-place.invariant.1 inside (c.in_ok-totals.ensures.tally ∙ tally),
    )
