use Rattle.edr_geometry.proofs.Placed.{placed}
use Rattle.edr_geometry.proofs.laws.geometries_are_placed.Goals as goal

pub returns : goal.returns
returns c = placed
