use Rattle.std.proofs.Common.{◌≡◌, ◌++◌, take, drop, length, map}
use Rattle.edr_base.specs.Calls.{SinkLent, Gathered}
use Rattle.covjson_value.specs.Domains.{coordinates_of}
use Rattle.covjson_value.specs.Samples.{tuple_node}
use Rattle.edr_csv.specs.Turns.{records_along}
use Rattle.edr_csv.proofs.rows.put_tuples.Given as goal

abbrev pub invariant-loop-tuple : goal.invariant-loop-tuple
invariant-loop-tuple g l = record {
  left : l.left ≡ drop (length (map (tuple_node (coordinates_of l.domain) l.turn.t l.turn.z) (take l.tuple-index l.tuples))) l.values;
  gathered : Gathered (g.K.Sink.written l.fn.sink) (g.K.Sink.written l.sink) l.records.gathered.items (l.fn.records.gathered.items ++ records_along l.id l.parameter (map (tuple_node (coordinates_of l.domain) l.turn.t l.turn.z) (take l.tuple-index l.tuples)) l.values);
  flushed : g.K.Sink.flushed l.sink ≡ g.K.Sink.flushed l.fn.sink;
  lent : SinkLent (g.K.Sink.beside l.fn.sink) (g.K.Sink.beside l.sink) (g.K.Faults.faults l.fn.sink) (g.K.Faults.faults l.sink);
}
