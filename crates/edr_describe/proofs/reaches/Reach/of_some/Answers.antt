use Rattle.std.proofs.Common.{◌<◌, length, ap, subst, ◌∙◌, arith}
use Rattle.std.proofs.lemmas.List.{take_all}
use Rattle.edr_station.specs.Stations.{IsPlaced}
use Rattle.edr_describe.specs.Extents.{coordinates_of_stations}
use Rattle.edr_describe.specs.Reaches.{reach_of}
use Rattle.edr_describe.proofs.ReachesMore.{are_placed, reach_more}
use Rattle.edr_describe.proofs.reaches.Reach.of_some.Goals as goal

pub loop-place-preserved : goal.loop-place-preserved
loop-place-preserved c =
    let all = c.args.stations.now in
    let inside : c.loop-place.place < length all.stations = omega (arith, c.loop-place-test.true, c.len-place-end.ensures.len) in
    let more = reach_more all.stations c.loop-place.place (are_placed all c.len-place-end.ensures.stations) c.loop-place.invariant.some inside in
    record {
      some = omega arith;
      is = c.with-reach.ensures.reach ∙ rw (c.loop-place.invariant.is, c.of_station.ensures.reach, c.station-station.ensures.at) (more (subst IsPlaced c.station-station.ensures.at c.station-station.ensures.station.placed));
      timed = c.with-reach.ensures.times;
    }

pub returns : goal.returns
returns c =
    let all = c.args.stations.now in
    record {
      reach = c.loop-place.invariant.is
          ∙ ap (λ l. reach_of (coordinates_of_stations l)) (take_all c.loop-place.place all.stations (omega (arith, c.loop-place-test.false, c.len-place-end.ensures.len)));
      times = c.loop-place.invariant.timed;
    }
