use Rattle.edr_chunk.specs.RowMajorLaws.{row_major-below, row_major-rises, row_major-once}
use Rattle.edr_chunk.proofs.shapes.row_major_tells_places.Goals as goal

pub returns : goal.returns
returns g c = record { below = row_major-below; rises = row_major-rises; once = row_major-once }
