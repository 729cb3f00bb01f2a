use Rattle.std.proofs.Common.{◌≡◌, ◌≤◌, ◌-◌, length, take, drop}
use Rattle.std.specs.Io.KnownBytes.{append_known}
use Rattle.edr_base.specs.Calls.{SinkLent}
use Rattle.edr_http.proofs.chunked_sink.send_rest.Given as goal

abbrev pub invariant-loop-sent : goal.invariant-loop-sent
invariant-loop-sent g l =
    record {
      within : (l.fn.sent ≤ l.sent) × (l.sent ≤ length l.text);
      bytes : g.K.Sink.written l.sink ≡ append_known (g.K.Sink.written l.fn.sink) (take (l.sent - l.fn.sent) (drop l.fn.sent l.text));
      flushed : g.K.Sink.flushed l.sink ≡ g.K.Sink.flushed l.fn.sink;
      lent : SinkLent (g.K.Sink.beside l.fn.sink) (g.K.Sink.beside l.sink) (g.K.Faults.faults l.fn.sink) (g.K.Faults.faults l.sink);
    }

abbrev pub decreases-loop-sent : goal.decreases-loop-sent
decreases-loop-sent g l = length l.text - l.sent
