use Rattle.std.proofs.Common.{◌≡◌, ◌≤◌, ◌-◌, length, take}
use Rattle.std.specs.Io.KnownBytes.{append_known}
use Rattle.edr_base.specs.Calls.{SinkLent}
use Rattle.edr_base.proofs.sending.send.Given as goal

abbrev pub invariant-loop-sent : goal.invariant-loop-sent
invariant-loop-sent g l =
    record {
      within : l.sent ≤ length l.piece;
      bytes : g.K.Sink.written l.sink ≡ append_known (g.K.Sink.written l.fn.sink) (take l.sent l.piece);
      flushed : g.K.Sink.flushed l.sink ≡ g.K.Sink.flushed l.fn.sink;
      lent : SinkLent (g.K.Sink.beside l.fn.sink) (g.K.Sink.beside l.sink) (g.K.Faults.faults l.fn.sink) (g.K.Faults.faults l.sink);
    }

abbrev pub decreases-loop-sent : goal.decreases-loop-sent
decreases-loop-sent g l = length l.piece - l.sent
