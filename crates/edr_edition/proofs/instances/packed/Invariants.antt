use Rattle.std.proofs.Common.{◌≡◌, take}
use Rattle.edr_chunk.specs.Tiles.{with_parameters}
use Rattle.edr_edition.specs.Instances.{values_of}
use Rattle.edr_edition.proofs.instances.packed.Given as goal

abbrev pub invariant-loop-range : goal.invariant-loop-range
invariant-loop-range l = l.packer ≡ record { shape = with_parameters l.fn.shape l.range-index; values = values_of (take l.range-index l.ranges) }
