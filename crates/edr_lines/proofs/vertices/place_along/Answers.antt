use Rattle.std.proofs.Common.{sym, to_z-of_z}
use Rattle.edr_lines.proofs.NearestPlaces.{place_found}
use Rattle.edr_lines.proofs.vertices.place_along.Goals as goal

pub returns : goal.returns
returns c =
    let fits = c.ranges.number in
    let nearest = simp to_z-of_z at c.nearest.ensures in
    let along = simp to_z-of_z at c.if-not-is_along.ensures in
    place_found c.args.axis.now c.args.number c.nearest.result c.values.ensures.axis nearest (rw c.values.ensures.same at (sym along))
