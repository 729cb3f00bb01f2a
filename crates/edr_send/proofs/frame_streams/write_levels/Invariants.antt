use Rattle.std.proofs.Common.{◌≡◌, take, drop}
use Rattle.std.specs.List.{flat_map}
use Rattle.edr_base.specs.Calls.{SinkLent}
use Rattle.edr_select.specs.Framings.{plane_cells}
use Rattle.edr_send.proofs.FrameSteps.{Sent}
use Rattle.edr_send.proofs.frame_streams.write_levels.Given as goal

abbrev pub invariant-loop-place : goal.invariant-loop-place
invariant-loop-place g l = record {
  sent : Sent l.framing.shape l.fn.store.subject l.parameter (flat_map (plane_cells l.framing.frame l.t) l.framing.frame.levels)
      (flat_map (plane_cells l.framing.frame l.t) (take l.place l.framing.frame.levels)) (flat_map (plane_cells l.framing.frame l.t) (drop l.place l.framing.frame.levels))
      l.fn.writer l.writer (g.K.Sink.written l.fn.sink) (g.K.Sink.written l.sink) l.fn.store.numbers l.store.numbers;
  subject : l.store.subject ≡ l.fn.store.subject;
  lent : SinkLent (g.K.Sink.beside l.fn.sink) (g.K.Sink.beside l.sink) (g.K.Faults.faults l.fn.sink) (g.K.Faults.faults l.sink);
}
