use Rattle.std.proofs.Common.{◌≡◌, ◌≤◌, ◌-◌, ◌++◌, length, take, drop}
use Rattle.std.specs.Prelude.{map}
use Rattle.edr_base.specs.Calls.{SinkLent}
use Rattle.covjson_write.specs.Pieces.{values_from}
use Rattle.covjson_write.specs.Writers.{with_values}
use Rattle.edr_select.specs.Samples.{ascending_once}
use Rattle.edr_select.specs.Series.{block_at, cells_taken, series_range}
use Rattle.edr_send.specs.SeriesTexts.{collection_of, blocks_in, station_of, BlocksApart}
use Rattle.edr_send.specs.Gathered.{AllBut}
use Rattle.edr_send.proofs.block_runs.write_runs.Given as goal

abbrev pub invariant-loop-at : goal.invariant-loop-at
invariant-loop-at g l = record {
  high : l.at ≤ length l.series.cells;
  apart : BlocksApart l.series.cells 0 l.at;
  writer : l.writer ≡ with_values l.fn.writer l.at;
  subject : l.store.subject ≡ l.fn.store.subject;
  text : AllBut (values_from l.at (series_range (station_of (collection_of l.fn.store.subject.held) l.series) (drop l.at l.series.cells) l.parameter).values)
      (values_from 0 (series_range (station_of (collection_of l.fn.store.subject.held) l.series) l.series.cells l.parameter).values) (g.K.Sink.written l.fn.sink) (g.K.Sink.written l.sink);
  reads : l.store.numbers ≡ l.fn.store.numbers ++ ascending_once (blocks_in (collection_of l.fn.store.subject.held)) (map (block_at l.series l.parameter) (cells_taken (take l.at l.series.cells)));
  lent : SinkLent (g.K.Sink.beside l.fn.sink) (g.K.Sink.beside l.sink) (g.K.Faults.faults l.fn.sink) (g.K.Faults.faults l.sink);
}

abbrev pub decreases-loop-at : goal.decreases-loop-at
decreases-loop-at g l = length l.series.cells - l.at
