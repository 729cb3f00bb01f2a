use Rattle.std.proofs.Common.{◌≡◌, ◌*◌, take}
use Rattle.edr_chunk.specs.Places.{nodes}
use Rattle.edr_chunk.specs.Tiles.{with_parameters}
use Rattle.edr_chunk.proofs.packed_grid.PackedGrid.pack.Given as goal

abbrev pub invariant-loop-parameter : goal.invariant-loop-parameter
invariant-loop-parameter l =
    (l.packer.shape ≡ with_parameters l.fn.shape l.parameter) × (l.packer.values ≡ take (l.parameter * nodes l.fn.shape) l.values)
