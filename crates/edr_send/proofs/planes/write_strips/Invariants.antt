use Rattle.std.proofs.Common.{◌≡◌, ◌+◌, ◌-◌}
use Rattle.edr_base.specs.Calls.{SinkLent}
use Rattle.edr_select.specs.Framings.{strip_cells, plane_cells}
use Rattle.edr_send.proofs.FrameSteps.{Sent}
use Rattle.edr_send.proofs.FrameTiles.{edge}
use Rattle.edr_send.proofs.planes.write_strips.Given as goal

abbrev pub invariant-loop-down : goal.invariant-loop-down
invariant-loop-down g l = record {
  sent : Sent l.shape l.fn.store.subject l.layer.parameter (plane_cells l.frame l.layer.t l.layer.z)
      (strip_cells l.frame l.layer.t l.layer.z l.frame.row (edge l.frame l.down - l.frame.row))
      (strip_cells l.frame l.layer.t l.layer.z (edge l.frame l.down) (l.frame.row + l.frame.rows - edge l.frame l.down))
      l.fn.writer l.writer (g.K.Sink.written l.fn.sink) (g.K.Sink.written l.sink) l.fn.store.numbers l.store.numbers;
  subject : l.store.subject ≡ l.fn.store.subject;
  lent : SinkLent (g.K.Sink.beside l.fn.sink) (g.K.Sink.beside l.sink) (g.K.Faults.faults l.fn.sink) (g.K.Faults.faults l.sink);
}
