use Rattle.edr_plan.proofs.NearBoxes.{behind_more}
use Rattle.edr_plan.proofs.corridor_stations.greatest_of.Goals as goal

pub loop-position-preserved : goal.loop-position-preserved
loop-position-preserved c = record {
  spot = c.higher_of-greatest.ensures.spot;
  behind =
      behind_more c.loop-position.greatest c.higher_of-greatest.result c.args.line.now c.loop-position.position-index _ c.loop-position-test.true c.higher_of-greatest.ensures.higher
      c.loop-position.invariant.behind c.higher_of-greatest.ensures.behind;
}
