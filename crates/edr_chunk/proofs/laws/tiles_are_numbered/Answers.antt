use Rattle.edr_chunk.proofs.AllPlaceLaws.{tiles_are_numbered}
use Rattle.edr_chunk.proofs.laws.tiles_are_numbered.Goals as goal

pub returns : goal.returns
returns c = tiles_are_numbered
