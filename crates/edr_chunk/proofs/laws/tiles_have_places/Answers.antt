use Rattle.edr_chunk.proofs.AllPlaceLaws.{tiles_have_places}
use Rattle.edr_chunk.proofs.laws.tiles_have_places.Goals as goal

pub returns : goal.returns
returns c = tiles_have_places
