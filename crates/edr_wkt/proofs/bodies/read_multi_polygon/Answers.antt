use Rattle.edr_wkt.proofs.BodyLemmas.{multi_polygon-read}
use Rattle.edr_wkt.proofs.bodies.read_multi_polygon.Goals as goal

pub returns-clause-read : goal.returns-clause-read
returns-clause-read c = multi_polygon-read c.args.has_z c.args.has_m c.args.text.now _ _ _ _ c.in_ok-polygons.ensures.read
