use Rattle.edr_select.proofs.PolygonReach.{has_polygons}
use Rattle.edr_select.proofs.reaches.polygons_of.Goals as goal

pub returns : goal.returns
returns c =
    has_polygons c.args.geometry.now c.in-Polygons.multi c.in-Polygons.has_z c.in-Polygons.has_m c.in-Polygons.polygons c.items.result.now c.in-Polygons.is c.items.ensures c.geometries_are_placed.ensures c.requires.0
