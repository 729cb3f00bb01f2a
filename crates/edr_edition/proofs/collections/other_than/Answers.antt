use Rattle.std.proofs.Common.{◌≡◌, ◌<◌, true, false, not, length, get_or, ◌∙◌, arith}
use Rattle.std.proofs.lemmas.List.{get_or_default}
use Rattle.edr_ids.specs.Ids.{has_id}
use Rattle.edr_station.specs.Stations.{station_id, nowhere}
use Rattle.edr_edition.proofs.CollectionInstances.{other_is_among, no_other_more}
use Rattle.edr_edition.proofs.collections.other_than.Goals as goal

pub returns-then-ne : goal.returns-then-ne
returns-then-ne c =
    let x = c.station-station.result.now in
    let stations = c.args.stations.now.stations in
    let inside : c.loop-place.place < length stations = omega (arith, c.loop-place-test.true, c.len-place-end.ensures.len) in
    let here : x ≡ get_or stations c.loop-place.place x = c.station-station.ensures.at ∙ get_or_default stations c.loop-place.place nowhere x inside in
    let differs : not (has_id station_id c.args.id.now x) ≡ true = cc in
    other_is_among station_id stations c.args.id.now c.loop-place.place x inside here c.loop-place.invariant differs

pub loop-place-preserved : goal.loop-place-preserved
loop-place-preserved c =
    let x = c.station-station.result.now in
    let stations = c.args.stations.now.stations in
    let inside : c.loop-place.place < length stations = omega (arith, c.loop-place-test.true, c.len-place-end.ensures.len) in
    let here : x ≡ get_or stations c.loop-place.place x = c.station-station.ensures.at ∙ get_or_default stations c.loop-place.place nowhere x inside in
    let equal : not (has_id station_id c.args.id.now x) ≡ false = cc in
    no_other_more station_id stations c.args.id.now c.loop-place.place x inside here c.loop-place.invariant equal
