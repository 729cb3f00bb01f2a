use Rattle.std.proofs.Common.{length, ◌-◌, ◌≡◌, ◌<◌, ◌≤◌, ℕ, get_or}
use Rattle.std.specs.List.{slice_range}
use Rattle.edr_send.specs.declared.slots.Slot.{Slot}
use Rattle.edr_send.specs.Filling.{slot_number, seen_in, put_all}
use Rattle.edr_send.proofs.filling.fill_tile.Given as goal

abbrev pub invariant-loop-at : goal.invariant-loop-at
invariant-loop-at l = record {
  low : l.from ≤ l.at;
  high : l.at ≤ length l.slots;
  long : length l.values ≡ length l.fn.values;
  same : (place : ℕ) (other : Slot) → l.from ≤ place → place < l.at → (get_or l.slots place other).tile ≡ (get_or l.slots l.from other).tile;
  values : l.values ≡ put_all slot_number (seen_in l.tile) (slice_range l.slots l.from l.at) l.fn.values;
}

abbrev pub decreases-loop-at : goal.decreases-loop-at
decreases-loop-at l = length l.slots - l.at
