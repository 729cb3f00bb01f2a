use Rattle.edr_chunk.proofs.AllPlaceLaws.{sides_are_small}
use Rattle.edr_chunk.proofs.laws.sides_are_small.Goals as goal

pub returns : goal.returns
returns c = sides_are_small
