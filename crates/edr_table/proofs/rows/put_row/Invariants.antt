use Rattle.std.proofs.Common.{◌≡◌, ◌++◌, take, drop, length}
use Rattle.edr_base.specs.Calls.{SinkLent, Gathered}
use Rattle.edr_table.specs.Turns.{line_front, lines_along, row_nodes}
use Rattle.edr_table.proofs.rows.put_row.Given as goal

abbrev pub invariant-loop-x : goal.invariant-loop-x
invariant-loop-x g l = record {
  left : l.left ≡ drop (length (row_nodes l.fn.turn.t l.fn.turn.z (take l.x-index l.xs) l.fn.y)) l.values;
  front : l.lines.front.items ≡ line_front l.parameter l.fn.turn.t l.fn.turn.z l.fn.y;
  gathered : Gathered (g.K.Sink.written l.fn.sink) (g.K.Sink.written l.sink) l.lines.gathered.items (l.fn.lines.gathered.items ++ lines_along l.parameter (row_nodes l.fn.turn.t l.fn.turn.z (take l.x-index l.xs) l.fn.y) l.values);
  flushed : g.K.Sink.flushed l.sink ≡ g.K.Sink.flushed l.fn.sink;
  lent : SinkLent (g.K.Sink.beside l.fn.sink) (g.K.Sink.beside l.sink) (g.K.Faults.faults l.fn.sink) (g.K.Faults.faults l.sink);
}
