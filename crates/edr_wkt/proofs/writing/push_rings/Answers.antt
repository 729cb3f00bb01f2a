use Rattle.std.proofs.Common.{◌++◌, ap, ◌∙◌, arith}
use Rattle.std.proofs.lemmas.Result.{on_ok_weaker}
use Rattle.edr_wkt.specs.Spelling.{ring_text, joined}
use Rattle.edr_wkt.proofs.PushLemmas.{pushed_more, pushed_all, bracketed}
use Rattle.edr_wkt.proofs.writing.push_rings.Goals as goal

pub loop-place-preserved : goal.loop-place-preserved
loop-place-preserved c =
    let text = ring_text c.args.has_z c.args.has_m in
    let pushed = c.in_ok-push_points.ensures ∙ ap (λ ring. c.push_comma.new.out.items ++ text ring) c.items.ensures in
    pushed_more text c.args.rings.now c.loop-place.place c.index-rings-place.result c.index-rings-place.result c.push_byte.new.out.items c.loop-place.out.items c.push_comma.new.out.items c.push_points.new.out.items
    (omega arith) c.index-rings-place.is c.loop-place.invariant c.in_ok-push_comma.ensures pushed

pub returns : goal.returns
returns c =
    let text = ring_text c.args.has_z c.args.has_m in
    let all = pushed_all text c.args.rings.now c.loop-place.place c.push_byte.new.out.items c.loop-place.out.items (omega arith) c.loop-place.invariant in
    on_ok_weaker c.push_byte-2.result
    (λ closed. bracketed c.args.out.now.items _ c.loop-place.out.items c.push_byte-2.new.out.items (all ∙ ap (λ l. l ++ joined text c.args.rings.now) c.in_ok-push_byte.ensures) closed) c.push_byte-2.ensures
