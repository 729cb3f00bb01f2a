use Rattle.std.proofs.Common.{◌∙◌, ◌<◌, ◌≤◌, List, sym, ap, subst, length, get_or}
use Rattle.edr_base.specs.declared.places.Position.{Position}
use Rattle.edr_select.specs.Masks.{IsReachedRing}
use Rattle.edr_select.proofs.MaskReach.{more_reached, all_reached, wider_ring, wider_still}
use Rattle.edr_select.proofs.reaches.reach_polygon.Goals as goal

pub loop-ring-preserved : goal.loop-ring-preserved
loop-ring-preserved c =
    let rings = c.args.polygon.now.rings in let k = c.loop-ring.ring-index in
    let old = c.loop-ring.reach in let new = c.reach_ring-reach.result in
    let same = c.items-ring-items.ensures in
    let inside : k < length rings = subst (λ (rs : List (List Position)). k < length rs) same c.loop-ring-test.true in
    let at = c.ring-item.is in
    let here = subst (IsReachedRing new) c.items.ensures c.reach_ring-reach.ensures.ring in
    record {
      wider = wider_still c.args.reach old new c.loop-ring.invariant.wider c.reach_ring-reach.ensures.wider;
      done = more_reached (IsReachedRing old) (IsReachedRing new) (wider_ring old new c.reach_ring-reach.ensures.wider) rings k c.ring-item.result inside
          (sym (at ∙ ap (λ (rs : List (List Position)). get_or rs k c.ring-item.result) same)) c.loop-ring.invariant.done here;
    }

pub returns-clause-polygon : goal.returns-clause-polygon
returns-clause-polygon c =
    let rings = c.args.polygon.now.rings in
    let same = c.items-ring-items.ensures in
    all_reached (IsReachedRing c.loop-ring.reach) rings c.loop-ring.ring-index
    (subst (λ (rs : List (List Position)). length rs ≤ c.loop-ring.ring-index) same c.loop-ring-test.false) c.loop-ring.invariant.done
