use Rattle.std.proofs.Common.{◌≡◌, ◌-◌, length}
use Rattle.std.specs.List.{flat_map, range_with_len}
use Rattle.edr_base.specs.Calls.{SinkLent}
use Rattle.edr_select.specs.Stacks.{cells_of_plane, cells_of_time}
use Rattle.edr_send.proofs.FrameSteps.{Sent}
use Rattle.edr_send.proofs.stack_streams.write_levels.Given as goal

abbrev pub invariant-loop-j : goal.invariant-loop-j
invariant-loop-j g l = record {
  sent : Sent l.stacking.shape l.fn.store.subject l.parameter (cells_of_time l.stacking.stack l.i)
      (flat_map (cells_of_plane l.stacking.stack l.i) (range_with_len 0 l.j)) (flat_map (cells_of_plane l.stacking.stack l.i) (range_with_len l.j (length l.stacking.stack.sides.levels - l.j)))
      l.fn.writer l.writer (g.K.Sink.written l.fn.sink) (g.K.Sink.written l.sink) l.fn.store.numbers l.store.numbers;
  subject : l.store.subject ≡ l.fn.store.subject;
  lent : SinkLent (g.K.Sink.beside l.fn.sink) (g.K.Sink.beside l.sink) (g.K.Faults.faults l.fn.sink) (g.K.Faults.faults l.sink);
}
