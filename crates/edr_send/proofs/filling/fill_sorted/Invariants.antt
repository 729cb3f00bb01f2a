use Rattle.std.proofs.Common.{length, take, ◌++◌, ◌-◌, ◌≡◌, ◌≤◌}
use Rattle.std.specs.Prelude.{map}
use Rattle.edr_chunk.specs.Tiles.{tiles}
use Rattle.edr_select.specs.Samples.{ascending_once}
use Rattle.edr_send.specs.Filling.{grid_of, slot_tile, slot_number, value_of, put_all}
use Rattle.edr_send.proofs.TileSteps.{Ahead}
use Rattle.edr_send.proofs.filling.fill_sorted.Given as goal

abbrev pub invariant-loop-at : goal.invariant-loop-at
invariant-loop-at l = record {
  high : l.at ≤ length l.slots;
  long : length l.values ≡ length l.fn.values;
  subject : l.store.subject ≡ l.fn.store.subject;
  ahead : Ahead l.slots l.at;
  values : l.values ≡ put_all slot_number (value_of (grid_of l.fn.store.subject.held)) (take l.at l.slots) l.fn.values;
  reads : l.store.numbers ≡ l.fn.store.numbers ++ ascending_once (tiles (grid_of l.fn.store.subject.held).shape) (map slot_tile (take l.at l.slots));
}

abbrev pub decreases-loop-at : goal.decreases-loop-at
decreases-loop-at l = length l.slots - l.at
