use Rattle.std.proofs.Common.{◌≡◌, ◌-◌, length}
use Rattle.std.specs.List.{flat_map, range_with_len}
use Rattle.edr_base.specs.Calls.{SinkLent}
use Rattle.edr_select.specs.Stacks.{cells_of_time, stack_cells}
use Rattle.edr_send.proofs.FrameSteps.{Sent}
use Rattle.edr_send.proofs.stack_streams.write_times.Given as goal

abbrev pub invariant-loop-i : goal.invariant-loop-i
invariant-loop-i g l = record {
  sent : Sent l.stacking.shape l.fn.store.subject l.parameter (stack_cells l.stacking.stack)
      (flat_map (cells_of_time l.stacking.stack) (range_with_len 0 l.i)) (flat_map (cells_of_time l.stacking.stack) (range_with_len l.i (length l.stacking.stack.sides.times - l.i)))
      l.fn.writer l.writer (g.K.Sink.written l.fn.sink) (g.K.Sink.written l.sink) l.fn.store.numbers l.store.numbers;
  subject : l.store.subject ≡ l.fn.store.subject;
  lent : SinkLent (g.K.Sink.beside l.fn.sink) (g.K.Sink.beside l.sink) (g.K.Faults.faults l.fn.sink) (g.K.Faults.faults l.sink);
}
