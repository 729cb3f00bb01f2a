use Rattle.edr_chunk.proofs.PlaceNumbers.{tile_shape_is}
use Rattle.edr_chunk.proofs.tile_numbers.tile_shape_of.Goals as goal

pub returns-clause-shape : goal.returns-clause-shape
returns-clause-shape c = rw (c.along.ensures, c.along-2.ensures) (tile_shape_is c.args.shape c.requires)
