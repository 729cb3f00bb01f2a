use Rattle.edr_plan.proofs.NearBoxes.{before_more}
use Rattle.edr_plan.proofs.corridor_stations.least_of.Goals as goal

pub loop-position-preserved : goal.loop-position-preserved
loop-position-preserved c = record {
  spot = c.lower_of-least.ensures.spot;
  before =
      before_more c.loop-position.least c.lower_of-least.result c.args.line.now c.loop-position.position-index _ c.loop-position-test.true c.lower_of-least.ensures.lower
      c.loop-position.invariant.before c.lower_of-least.ensures.before;
}
