use Rattle.std.proofs.Common.{◌≡◌, ◌<◌, ◌∙◌, suc, length, arith, ap, subst, sym}
use Rattle.std.specs.Prelude.{IsSomeAnd, vec_len}
use Rattle.std.specs.declared.option.Option.{Option}
use Rattle.std.specs.Vec.Iter.{into_iter_items}
use Rattle.edrd.specs.Closing.{MayClose}
use Rattle.edrd.specs.declared.doors.DoorsAsked.{DoorsAsked}
use Rattle.edrd.proofs.JobLemmas.{counted_on}
use Rattle.edrd.proofs.RunLemmas.{room_for, door_first, door_others, door_sum}
use Rattle.edrd.proofs.running.close_all.Goals as goal

pub close-requires : goal.close-requires
close-requires g c =
    let before = c.doors.invariant in
    let long : length (into_iter_items c.doors.rest) ≡ suc (length (into_iter_items c.next.new.self)) = ap length c.in-Some.ensures.items in
    let some : 0 < length (into_iter_items c.doors.rest) = omega (arith, long) in
    let door = door_first (MayClose g.B.Door.Accept.given g.B.Door.Accept.finished g.B.Door.Faults.faults g.B.Door.Accept.over) _ _ c.in-Some.door before.ended c.in-Some.ensures.items in
    let given = door_sum g.B.Door.Accept.given _ _ c.in-Some.door c.in-Some.ensures.items in
    let faulted = door_sum g.B.Door.Accept.faulted _ _ c.in-Some.door c.in-Some.ensures.items in
    record {
      room = subst (λ (last : Option DoorsAsked). IsSomeAnd last (λ asked. g.B.Doors.closed c.doors.doors < asked.count)) (sym before.last)
          (room_for (g.B.Doors.last c.args.doors.now) (g.B.Doors.closed c.doors.doors) (g.B.Doors.closed c.args.doors.now) (vec_len c.args.all)
          (length (into_iter_items c.doors.rest)) c.requires.room before.closed some);
      ended = door.ended;
      served = door.served;
      few = (omega (arith, given, before.served, c.requires.few.0), omega (arith, faulted, before.faulted, c.requires.few.1));
    }

pub doors-preserved : goal.doors-preserved
doors-preserved g c =
    let before = c.doors.invariant in
    let long : length (into_iter_items c.doors.rest) ≡ suc (length (into_iter_items c.next.new.self)) = ap length c.in-Some.ensures.items in
    let given = door_sum g.B.Door.Accept.given _ _ c.in-Some.door c.in-Some.ensures.items in
    let faulted = door_sum g.B.Door.Accept.faulted _ _ c.in-Some.door c.in-Some.ensures.items in
    record {
      closed = omega (arith, before.closed, long, c.close.ensures.closed);
      counted = counted_on c.next.result _ _ _ _ before.counted c.next.ensures.items c.next.ensures.len;
      ended = door_others (MayClose g.B.Door.Accept.given g.B.Door.Accept.finished g.B.Door.Faults.faults g.B.Door.Accept.over) _ _ c.in-Some.door before.ended c.in-Some.ensures.items;
      last = c.close.ensures.kept.0 ∙ before.last;
      tried = c.close.ensures.kept.1 ∙ before.tried;
      opens = c.close.ensures.kept.2 ∙ before.opens;
      served = omega (arith, given, before.served, c.close.ensures.counts.0);
      faulted = omega (arith, faulted, before.faulted, c.close.ensures.counts.1);
      port = c.close.ensures.kept.3 ∙ before.port;
      faults = c.close.ensures.kept.4 ∙ before.faults;
    }
