use Rattle.std.proofs.Common.{sym}
use Rattle.edr_select.specs.Masks.{IsReachedPolygon}
use Rattle.edr_select.proofs.MaskReach.{more_reached, all_reached, wider_polygon}
use Rattle.edr_select.proofs.reaches.reach_of_polygons.Goals as goal

pub loop-polygon-preserved : goal.loop-polygon-preserved
loop-polygon-preserved c =
    let old = c.loop-polygon.reach in let new = c.reach_polygon-reach.result in
    more_reached (IsReachedPolygon old) (IsReachedPolygon new) (wider_polygon old new c.reach_polygon-reach.ensures.wider) c.args.polygons.now c.loop-polygon.polygon-index c.polygon-item.result
    c.loop-polygon-test.true (sym c.polygon-item.is) c.loop-polygon.invariant c.reach_polygon-reach.ensures.polygon

pub returns : goal.returns
returns c = all_reached (IsReachedPolygon c.loop-polygon.reach) c.args.polygons.now c.loop-polygon.polygon-index c.loop-polygon-test.false c.loop-polygon.invariant
