use Rattle.std.proofs.Common.{◌-◌, length}
use Rattle.std.specs.Io.KnownBytes.{prepend_known}
use Rattle.edr_base.specs.Calls.{SourceLent}
use Rattle.edr_reply.specs.Messages.{body_limit}
use Rattle.edr_reply.specs.Taking.{Going}
use Rattle.edr_reply.proofs.chunks.take_chunks.Given as goal

abbrev pub invariant-loop-next : goal.invariant-loop-next
invariant-loop-next g l =
    record {
      going : Going l.fn.place l.next_place l.body.items (prepend_known l.fn.held (g.S.Source.left l.fn.source)) (prepend_known l.held (g.S.Source.left l.source));
      lent : SourceLent (g.S.Source.aside l.fn.source) (g.S.Source.aside l.source) (g.S.Faults.faults l.fn.source) (g.S.Faults.faults l.source);
    }

abbrev pub decreases-loop-next : goal.decreases-loop-next
decreases-loop-next g l = body_limit - length l.body.items
