use Rattle.std.proofs.Common.{rules}
use Rattle.edr_query.proofs.CoordsLemmas.{height_unwanted}
use Rattle.edr_query.proofs.coords.check_height_along.Goals as goal

pub returns-then-not-is_along_z : goal.returns-then-not-is_along_z
returns-then-not-is_along_z c =
    height_unwanted c.wkt_is_one.ensures c.args.page c.args.parameters.now c.args.coords.now (search rules) c.requires.paired c.requires.said (search rules)
