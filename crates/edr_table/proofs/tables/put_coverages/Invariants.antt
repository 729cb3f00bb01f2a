use Rattle.std.proofs.Common.{◌≡◌, ◌++◌, take}
use Rattle.std.specs.List.{flat_map}
use Rattle.edr_base.specs.Calls.{SinkLent, Gathered}
use Rattle.edr_table.specs.Tables.{coverage_lines, line_text}
use Rattle.edr_table.proofs.tables.put_coverages.Given as goal

abbrev pub invariant-loop-coverage : goal.invariant-loop-coverage
invariant-loop-coverage g l = record {
  gathered : Gathered (g.K.Sink.written l.fn.sink) (g.K.Sink.written l.sink) l.lines.gathered.items (l.fn.lines.gathered.items ++ flat_map line_text (flat_map coverage_lines (take l.coverage-index l.coverages)));
  flushed : g.K.Sink.flushed l.sink ≡ g.K.Sink.flushed l.fn.sink;
  lent : SinkLent (g.K.Sink.beside l.fn.sink) (g.K.Sink.beside l.sink) (g.K.Faults.faults l.fn.sink) (g.K.Faults.faults l.sink);
}
