use Rattle.std.proofs.Common.{length}
use Rattle.edr_plan.specs.StationPlans.{series_where_taken}
use Rattle.edr_plan.proofs.StationSteps.{too_many_then}
use Rattle.edr_plan.proofs.station_series.series_taken.Goals as goal

pub returns-then-not-room : goal.returns-then-not-room
returns-then-not-room c =
    too_many_then (length c.args.parameters.now) (series_where_taken c.args.collection.now c.args.query.now) c.args.places.now c.loop-place.place-index 0
    c.loop-place.gathered.series c.loop-place-test.true c.loop-place.invariant.series (c.in_ok-room.ensures.full c.if-not-room.true)
