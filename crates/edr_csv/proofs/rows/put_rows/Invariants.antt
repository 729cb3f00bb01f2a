use Rattle.std.proofs.Common.{◌≡◌, ◌++◌, take, drop, length}
use Rattle.std.specs.List.{flat_map}
use Rattle.edr_base.specs.Calls.{SinkLent, Gathered}
use Rattle.edr_csv.specs.Turns.{records_along, row_nodes}
use Rattle.edr_csv.proofs.rows.put_rows.Given as goal

abbrev pub invariant-loop-y : goal.invariant-loop-y
invariant-loop-y g l = record {
  left : l.left ≡ drop (length (flat_map (row_nodes l.turn.t l.turn.z l.xs) (take l.y-index l.ys))) l.values;
  gathered : Gathered (g.K.Sink.written l.fn.sink) (g.K.Sink.written l.sink) l.records.gathered.items (l.fn.records.gathered.items ++ records_along l.id l.parameter (flat_map (row_nodes l.turn.t l.turn.z l.xs) (take l.y-index l.ys)) l.values);
  flushed : g.K.Sink.flushed l.sink ≡ g.K.Sink.flushed l.fn.sink;
  lent : SinkLent (g.K.Sink.beside l.fn.sink) (g.K.Sink.beside l.sink) (g.K.Faults.faults l.fn.sink) (g.K.Faults.faults l.sink);
}
