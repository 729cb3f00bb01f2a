use Rattle.std.proofs.Common.{get_or, arith, pos, to_z, of_z, w64}
use Rattle.std.proofs.lemmas.Int.{ints}
use Rattle.std.proofs.lemmas.List.{get_or_default}
use Rattle.edr_base.specs.declared.places.Position.{Position}
use Rattle.edr_select.specs.declared.reaches.Reach.{Reach}
use Rattle.edr_select.specs.Masks.{IsWider, IsReached}
use Rattle.edr_select.proofs.MaskReach.{more_reached, all_reached, wider_reached, wider_still}
use Rattle.edr_select.proofs.reaches.reach_ring.Goals as goal

abbrev no_position : Position
no_position = record { x = pos 0; y = pos 0; z = pos 0; m = pos 0 }

pub loop-position-preserved : goal.loop-position-preserved
loop-position-preserved c =
    let ring = c.args.ring.now in let k = c.loop-position.position-index in let old = c.loop-position.reach in
    let new : Reach = record {
      left = to_z w64 (of_z w64 c.min.result);
      right = to_z w64 (of_z w64 c.max.result);
      low = to_z w64 (of_z w64 c.min-in-loop-position.result);
      high = to_z w64 (of_z w64 c.max-in-loop-position.result);
    } in
    let p : Position = get_or ring k no_position in
    let wider : IsWider old new = record {
      left = omega (arith, ints, c.min.ensures.self_bound);
      right = omega (arith, ints, c.max.ensures.self_bound);
      low = omega (arith, ints, c.min-in-loop-position.ensures.self_bound);
      high = omega (arith, ints, c.max-in-loop-position.ensures.self_bound);
    } in
    let here : IsReached new p = record {
      left = omega (arith, ints, c.min.ensures.other_bound);
      right = omega (arith, ints, c.max.ensures.other_bound);
      low = omega (arith, ints, c.min-in-loop-position.ensures.other_bound);
      high = omega (arith, ints, c.max-in-loop-position.ensures.other_bound);
    } in
    record {
      wider = wider_still c.args.reach old new c.loop-position.invariant.wider wider;
      done = more_reached (IsReached old) (IsReached new) (wider_reached old new wider) ring k p c.loop-position-test.true (get_or_default ring k p no_position c.loop-position-test.true) c.loop-position.invariant.done here;
    }

pub returns-clause-ring : goal.returns-clause-ring
returns-clause-ring c = all_reached (IsReached c.loop-position.reach) c.args.ring.now c.loop-position.position-index c.loop-position-test.false c.loop-position.invariant.done
