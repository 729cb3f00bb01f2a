use Rattle.std.proofs.Common.{◌≡◌, ◌++◌, take, drop, length}
use Rattle.edr_base.specs.Calls.{SinkLent, Gathered}
use Rattle.edr_csv.specs.Turns.{records_along, row_nodes}
use Rattle.edr_csv.proofs.rows.put_row.Given as goal

abbrev pub invariant-loop-x : goal.invariant-loop-x
invariant-loop-x g l = record {
  left : l.left ≡ drop (length (row_nodes l.fn.turn.t l.fn.turn.z (take l.x-index l.xs) l.fn.y)) l.values;
  gathered : Gathered (g.K.Sink.written l.fn.sink) (g.K.Sink.written l.sink) l.records.gathered.items (l.fn.records.gathered.items ++ records_along l.id l.parameter (row_nodes l.fn.turn.t l.fn.turn.z (take l.x-index l.xs) l.fn.y) l.values);
  flushed : g.K.Sink.flushed l.sink ≡ g.K.Sink.flushed l.fn.sink;
  lent : SinkLent (g.K.Sink.beside l.fn.sink) (g.K.Sink.beside l.sink) (g.K.Faults.faults l.fn.sink) (g.K.Faults.faults l.sink);
}
