use Rattle.std.proofs.Common.{◌≡◌, ◌≤◌, ◌-◌, length, take}
use Rattle.std.specs.Io.KnownBytes.{append_known}
use Rattle.edr_base.specs.Calls.{SinkLent}
use Rattle.edr_http.specs.ChunkedSinks.{layer_beside}
use Rattle.edr_http.specs.ChunkedSinkParts.{body_known, bottom_known, piece_in}
use Rattle.edr_http.proofs.chunked_sink.ChunkedSink.send_whole.Given as goal

abbrev pub invariant-loop-sent : goal.invariant-loop-sent
invariant-loop-sent g l =
    let old = l.fn.self in
    let new = l.self in
    record {
      within : l.sent ≤ length l.text;
      bytes : body_known new.pieces new.sent (piece_in new.frame new.used) (g.K.Sink.written new.sink)
          ≡ append_known (body_known old.pieces old.sent (piece_in old.frame old.used) (g.K.Sink.written old.sink)) (take l.sent l.text);
      flushed : g.K.Sink.flushed new.sink ≡ g.K.Sink.flushed old.sink;
      lent : SinkLent (layer_beside old.ended (g.K.Sink.beside old.sink) (bottom_known old.pieces old.sent (g.K.Sink.written old.sink)))
          (layer_beside new.ended (g.K.Sink.beside new.sink) (bottom_known new.pieces new.sent (g.K.Sink.written new.sink)))
          (g.K.Faults.faults old.sink) (g.K.Faults.faults new.sink);
    }

abbrev pub decreases-loop-sent : goal.decreases-loop-sent
decreases-loop-sent g l = length l.text - l.sent
