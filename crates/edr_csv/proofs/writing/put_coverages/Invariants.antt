use Rattle.std.proofs.Common.{◌≡◌, ◌++◌, take}
use Rattle.std.specs.List.{flat_map}
use Rattle.edr_base.specs.Calls.{SinkLent, Gathered}
use Rattle.edr_csv.specs.Turns.{coverage_text}
use Rattle.edr_csv.proofs.writing.put_coverages.Given as goal

abbrev pub invariant-loop-coverage : goal.invariant-loop-coverage
invariant-loop-coverage g l = record {
  gathered : Gathered (g.K.Sink.written l.fn.sink) (g.K.Sink.written l.sink) l.records.gathered.items (l.fn.records.gathered.items ++ flat_map coverage_text (take l.coverage-index l.coverages));
  flushed : g.K.Sink.flushed l.sink ≡ g.K.Sink.flushed l.fn.sink;
  lent : SinkLent (g.K.Sink.beside l.fn.sink) (g.K.Sink.beside l.sink) (g.K.Faults.faults l.fn.sink) (g.K.Faults.faults l.sink);
}
