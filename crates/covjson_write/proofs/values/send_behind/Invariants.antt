use Rattle.std.proofs.Common.{◌≡◌, ◌-◌, ◌≤◌, ◌++◌, length, take}
use Rattle.edr_base.specs.Calls.{SinkLent, Gathered}
use Rattle.covjson_write.specs.Pieces.{values_from}
use Rattle.covjson_write.proofs.values.send_behind.Given as goal

abbrev pub invariant-loop-done : goal.invariant-loop-done
invariant-loop-done g l = record {
  size : length l.piece ≡ length l.fn.piece;
  used_in : l.used ≤ length l.piece;
  done_in : l.done ≤ length l.samples;
  gathered : Gathered (g.K.Sink.written l.fn.sink) (g.K.Sink.written l.sink) (take l.used l.piece) (take l.gathered l.fn.piece ++ values_from 1 (take l.done l.samples));
  flushed : g.K.Sink.flushed l.sink ≡ g.K.Sink.flushed l.fn.sink;
  lent : SinkLent (g.K.Sink.beside l.fn.sink) (g.K.Sink.beside l.sink) (g.K.Faults.faults l.fn.sink) (g.K.Faults.faults l.sink);
}

abbrev pub decreases-loop-done : goal.decreases-loop-done
decreases-loop-done g l = length l.samples - l.done
