use Rattle.std.proofs.Common.{◌≡◌, ◌≤◌, ◌-◌, ◌++◌, length, take, drop}
use Rattle.edr_base.specs.Calls.{SinkLent}
use Rattle.covjson_write.specs.Pieces.{values_from}
use Rattle.covjson_write.specs.Writers.{with_values}
use Rattle.edr_chunk.specs.Tiles.{tiles}
use Rattle.edr_select.specs.Samples.{ascending_once}
use Rattle.edr_select.specs.Listings.{range_over, tiles_of_range}
use Rattle.edr_send.specs.Filling.{grid_of}
use Rattle.edr_send.specs.Gathered.{AllBut}
use Rattle.edr_send.proofs.RunSteps.{Cut}
use Rattle.edr_send.proofs.value_runs.write_runs.Given as goal

abbrev pub invariant-loop-at : goal.invariant-loop-at
invariant-loop-at g l = record {
  high : l.at ≤ length l.cells;
  cut : Cut l.shape l.cells l.at;
  writer : l.writer ≡ with_values l.fn.writer l.at;
  subject : l.store.subject ≡ l.fn.store.subject;
  text : AllBut (values_from l.at (range_over (grid_of l.fn.store.subject.held) (drop l.at l.cells) l.parameter).values)
      (values_from 0 (range_over (grid_of l.fn.store.subject.held) l.cells l.parameter).values) (g.K.Sink.written l.fn.sink) (g.K.Sink.written l.sink);
  reads : l.store.numbers ≡ l.fn.store.numbers ++ ascending_once (tiles l.shape) (tiles_of_range l.shape (take l.at l.cells) l.parameter);
  lent : SinkLent (g.K.Sink.beside l.fn.sink) (g.K.Sink.beside l.sink) (g.K.Faults.faults l.fn.sink) (g.K.Faults.faults l.sink);
}

abbrev pub decreases-loop-at : goal.decreases-loop-at
decreases-loop-at g l = length l.cells - l.at
