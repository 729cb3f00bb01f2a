use Rattle.std.proofs.Common.{◌≡◌, ◌++◌, take}
use Rattle.edr_base.specs.Calls.{SinkLent, Gathered}
use Rattle.covjson_value.specs.Samples.{nodes_of}
use Rattle.edr_csv.specs.Turns.{records_from}
use Rattle.edr_csv.proofs.writing.put_parameters.Given as goal

abbrev pub invariant-loop-place : goal.invariant-loop-place
invariant-loop-place g l = record {
  gathered : Gathered (g.K.Sink.written l.fn.sink) (g.K.Sink.written l.sink) l.records.gathered.items (l.fn.records.gathered.items ++ records_from l.id (nodes_of l.domain) (take l.place l.parameters) (take l.place l.ranges));
  flushed : g.K.Sink.flushed l.sink ≡ g.K.Sink.flushed l.fn.sink;
  lent : SinkLent (g.K.Sink.beside l.fn.sink) (g.K.Sink.beside l.sink) (g.K.Faults.faults l.fn.sink) (g.K.Faults.faults l.sink);
}
