use Rattle.std.proofs.Common.{◌≡◌, ◌≤◌, ◌<◌, ◌-◌, length}
use Rattle.std.specs.Io.KnownBytes.{prepend_known}
use Rattle.edr_base.specs.Calls.{SourceLent}
use Rattle.edr_reply.specs.Taking.{TakesOnto}
use Rattle.edr_reply.proofs.pieces.take_up_to.Given as goal

abbrev pub invariant-loop-taken : goal.invariant-loop-taken
invariant-loop-taken g l =
    record {
      takes : TakesOnto l.taken l.fn.body.items l.body.items (prepend_known l.fn.held (g.S.Source.left l.fn.source)) (prepend_known l.held (g.S.Source.left l.source));
      few : l.taken ≤ l.most;
      empty : l.taken < l.most → length l.held ≡ 0;
      lent : SourceLent (g.S.Source.aside l.fn.source) (g.S.Source.aside l.source) (g.S.Faults.faults l.fn.source) (g.S.Faults.faults l.source);
    }

abbrev pub decreases-loop-taken : goal.decreases-loop-taken
decreases-loop-taken g l = l.most - l.taken
