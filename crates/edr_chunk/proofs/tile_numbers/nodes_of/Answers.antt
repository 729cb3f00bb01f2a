use Rattle.edr_chunk.proofs.PlaceNumbers.{products_fit}
use Rattle.std.proofs.Common.{arith}
use Rattle.edr_chunk.proofs.tile_numbers.nodes_of.Goals as goal

pub overflow_mul-rows : goal.overflow_mul-rows
overflow_mul-rows c = omega (arith, (products_fit c.args.shape c.requires).y)
