use Rattle.std.proofs.Common.{◌≡◌, ◌+◌, length, vec_len}
use Rattle.std.specs.Prelude.{All, sum_by}
use Rattle.std.specs.Vec.Iter.{into_iter_items, into_iter_len}
use Rattle.edrd.specs.Closing.{MayClose}
use Rattle.edrd.proofs.running.close_all.Given as goal

abbrev pub invariant-doors : goal.invariant-doors
invariant-doors g l =
    record {
      closed : g.B.Doors.closed l.doors + length (into_iter_items l.rest) ≡ g.B.Doors.closed l.fn.doors + vec_len l.fn.all;
      counted : into_iter_len l.rest ≡ length (into_iter_items l.rest);
      ended : All (MayClose g.B.Door.Accept.given g.B.Door.Accept.finished g.B.Door.Faults.faults g.B.Door.Accept.over) (into_iter_items l.rest);
      last : g.B.Doors.last l.doors ≡ g.B.Doors.last l.fn.doors;
      tried : g.B.Doors.tried l.doors ≡ g.B.Doors.tried l.fn.doors;
      served : g.B.Doors.served l.doors + sum_by g.B.Door.Accept.given (into_iter_items l.rest)
          ≡ g.B.Doors.served l.fn.doors + sum_by g.B.Door.Accept.given l.fn.all.items;
      faulted : g.B.Doors.faulted l.doors + sum_by g.B.Door.Accept.faulted (into_iter_items l.rest)
          ≡ g.B.Doors.faulted l.fn.doors + sum_by g.B.Door.Accept.faulted l.fn.all.items;
      port : g.B.Doors.port l.doors ≡ g.B.Doors.port l.fn.doors;
      opens : g.B.Doors.opens l.doors ≡ g.B.Doors.opens l.fn.doors;
      faults : g.B.Faults.faults l.doors ≡ g.B.Faults.faults l.fn.doors;
    }

abbrev pub decreases-doors : goal.decreases-doors
decreases-doors g l = into_iter_len l.rest
