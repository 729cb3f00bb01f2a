use Rattle.edr_chunk.specs.PlaceLaws.{numbers_tell_places}
use Rattle.edr_chunk.proofs.shapes.numbers_tell_places.Goals as goal

pub returns : goal.returns
returns c = numbers_tell_places
