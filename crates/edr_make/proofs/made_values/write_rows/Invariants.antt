use Rattle.std.proofs.Common.{◌≡◌, ◌*◌, ◌-◌}
use Rattle.std.specs.List.{flat_map, range_with_len}
use Rattle.edr_base.specs.Calls.{SinkLent}
use Rattle.covjson_write.specs.Pieces.{values_from}
use Rattle.covjson_write.specs.Writers.{with_values}
use Rattle.edr_make.specs.Made.{row_values, grid_values}
use Rattle.edr_make.specs.MadeParts.{Leaves}
use Rattle.edr_make.proofs.made_values.write_rows.Given as goal

abbrev pub invariant-loop-row : goal.invariant-loop-row
invariant-loop-row g l = record {
  writer : l.writer ≡ with_values l.fn.writer (l.row * l.columns);
  text : Leaves (values_from (l.row * l.columns) (flat_map (row_values l.number l.columns) (range_with_len l.row (l.rows - l.row)))) (values_from 0 (grid_values l.number l.rows l.columns)) (g.K.Sink.written l.fn.sink) (g.K.Sink.written l.sink);
  lent : SinkLent (g.K.Sink.beside l.fn.sink) (g.K.Sink.beside l.sink) (g.K.Faults.faults l.fn.sink) (g.K.Faults.faults l.sink);
}
