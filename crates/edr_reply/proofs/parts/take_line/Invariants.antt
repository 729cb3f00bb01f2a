use Rattle.std.proofs.Common.{◌≡◌, ◌-◌, length}
use Rattle.std.specs.Io.KnownBytes.{prepend_known}
use Rattle.edr_base.specs.Calls.{SourceLent}
use Rattle.edr_reply.proofs.parts.take_line.Given as goal

abbrev pub invariant-loop-line : goal.invariant-loop-line
invariant-loop-line g l =
    record {
      rest : prepend_known l.held (g.S.Source.left l.source) ≡ prepend_known l.fn.held (g.S.Source.left l.fn.source);
      lent : SourceLent (g.S.Source.aside l.fn.source) (g.S.Source.aside l.source) (g.S.Faults.faults l.fn.source) (g.S.Faults.faults l.source);
    }

abbrev pub decreases-loop-line : goal.decreases-loop-line
decreases-loop-line g l = 16384 - length l.held
