use Rattle.std.proofs.Common.{◌≡◌, ◌-◌, ◌/◌, ◌++◌, length}
use Rattle.std.specs.List.{flat_map, range_with_len}
use Rattle.edr_send.specs.Filling.{grid_of}
use Rattle.edr_send.specs.Strips.{tile_read}
use Rattle.edr_send.proofs.StripValues.{TilesFilled}
use Rattle.edr_send.proofs.strips.read_tiles.Given as goal

abbrev pub invariant-loop-across : goal.invariant-loop-across
invariant-loop-across l = record {
  filled : TilesFilled (grid_of l.fn.store.subject.held) l.frame l.strip.layer.parameter l.strip.layer.t l.strip.layer.z l.strip.from l.strip.to l.across l.values;
  long : length l.values ≡ length l.fn.values;
  subject : l.store.subject ≡ l.fn.store.subject;
  reads : l.store.numbers
      ≡ l.fn.store.numbers ++ flat_map (tile_read l.shape l.frame l.strip.layer.parameter l.strip.layer.t l.strip.layer.z l.strip.from l.strip.to) (range_with_len (l.frame.column / 64) (l.across - l.frame.column / 64));
}
