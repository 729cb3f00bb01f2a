use Rattle.std.proofs.Common.{◌++◌, ap, ◌∙◌, arith}
use Rattle.edr_wkt.specs.Spelling.{polygon_text, ring_text, joined, in_brackets}
use Rattle.edr_wkt.proofs.PushLemmas.{pushed_more, pushed_all}
use Rattle.edr_wkt.proofs.writing.push_polygons.Goals as goal

pub loop-place-preserved : goal.loop-place-preserved
loop-place-preserved c =
    let text = polygon_text c.args.has_z c.args.has_m in
    let pushed = c.in_ok-push_rings.ensures ∙ ap (λ rings. c.push_comma.new.out.items ++ in_brackets (joined (ring_text c.args.has_z c.args.has_m) rings)) c.items.ensures in
    pushed_more text c.args.polygons.now c.loop-place.place c.index-polygons-place.result c.index-polygons-place.result c.args.out.now.items c.loop-place.out.items c.push_comma.new.out.items c.push_rings.new.out.items
    (omega arith) c.index-polygons-place.is c.loop-place.invariant c.in_ok-push_comma.ensures pushed

pub returns : goal.returns
returns c =
    pushed_all (polygon_text c.args.has_z c.args.has_m) c.args.polygons.now c.loop-place.place c.args.out.now.items c.loop-place.out.items (omega arith) c.loop-place.invariant
