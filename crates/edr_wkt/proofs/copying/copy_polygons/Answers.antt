use Rattle.std.proofs.Common.{List, ap, ◌∙◌, arith}
use Rattle.std.proofs.lemmas.List.{take_all}
use Rattle.edr_base.specs.declared.places.Position.{Position}
use Rattle.edr_wkt.specs.declared.geometry.Polygon.{Polygon}
use Rattle.edr_wkt.proofs.PushLemmas.{copied_more}
use Rattle.edr_wkt.proofs.copying.copy_polygons.Goals as goal

abbrev polygon_of : List (List Position) → Polygon
polygon_of rings = record { rings = rings }

pub loop-polygon-preserved : goal.loop-polygon-preserved
loop-polygon-preserved c =
    copied_more c.args.polygons.now c.loop-polygon.polygon-index c.polygon-item.result _ c.loop-polygon.copies.items c.push.new.self.items c.loop-polygon-test.true c.polygon-item.is
    (ap polygon_of (c.in_ok-rings.ensures ∙ c.items.ensures)) c.loop-polygon.invariant c.in_ok-push.ensures.items

pub returns : goal.returns
returns c = c.of.ensures ∙ (c.loop-polygon.invariant ∙ take_all c.loop-polygon.polygon-index c.args.polygons.now (omega arith))
