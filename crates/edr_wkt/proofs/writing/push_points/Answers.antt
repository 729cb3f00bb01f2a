use Rattle.std.proofs.Common.{◌++◌, arith, refl, ap, ◌∙◌}
use Rattle.std.proofs.lemmas.Result.{on_ok_weaker}
use Rattle.edr_wkt.specs.Spelling.{member_text, joined}
use Rattle.edr_wkt.proofs.PushLemmas.{pushed_more, pushed_all, bracketed}
use Rattle.edr_wkt.proofs.writing.push_points.Goals as goal

pub loop-place-preserved : goal.loop-place-preserved
loop-place-preserved c =
    let text = member_text c.args.multi c.args.has_z c.args.has_m in
    pushed_more text c.args.positions.now c.loop-place.place _ _ c.push_byte.new.out.items c.loop-place.out.items c.push_comma.new.out.items c.push_member.new.out.items
    (omega arith) refl c.loop-place.invariant c.in_ok-push_comma.ensures c.in_ok-push_member.ensures

pub returns : goal.returns
returns c =
    let text = member_text c.args.multi c.args.has_z c.args.has_m in
    let all = pushed_all text c.args.positions.now c.loop-place.place c.push_byte.new.out.items c.loop-place.out.items (omega arith) c.loop-place.invariant in
    on_ok_weaker c.push_byte-2.result
    (λ closed. bracketed c.args.out.now.items _ c.loop-place.out.items c.push_byte-2.new.out.items (all ∙ ap (λ l. l ++ joined text c.args.positions.now) c.in_ok-push_byte.ensures) closed) c.push_byte-2.ensures
