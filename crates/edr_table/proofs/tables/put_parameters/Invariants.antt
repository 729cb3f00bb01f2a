use Rattle.std.proofs.Common.{◌≡◌, ◌++◌, take}
use Rattle.edr_base.specs.Calls.{SinkLent, Gathered}
use Rattle.covjson_value.specs.Samples.{nodes_of}
use Rattle.edr_table.specs.Turns.{lines_from}
use Rattle.edr_table.proofs.tables.put_parameters.Given as goal

abbrev pub invariant-loop-place : goal.invariant-loop-place
invariant-loop-place g l = record {
  gathered : Gathered (g.K.Sink.written l.fn.sink) (g.K.Sink.written l.sink) l.lines.gathered.items (l.fn.lines.gathered.items ++ lines_from (nodes_of l.domain) (take l.place l.parameters) (take l.place l.ranges));
  flushed : g.K.Sink.flushed l.sink ≡ g.K.Sink.flushed l.fn.sink;
  lent : SinkLent (g.K.Sink.beside l.fn.sink) (g.K.Sink.beside l.sink) (g.K.Faults.faults l.fn.sink) (g.K.Faults.faults l.sink);
}
