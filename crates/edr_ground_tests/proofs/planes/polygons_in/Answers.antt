use Rattle.std.proofs.Common.{List, sym, subst}
use Rattle.std.specs.List.{All}
use Rattle.edr_wkt.specs.Faults.{IsGeometry}
use Rattle.edr_wkt.specs.declared.geometry.Geometry.{Geometry}
use Rattle.edr_wkt.specs.declared.geometry.Polygon.{Polygon}
use Rattle.edr_geometry.specs.Limits.{IsPlacedPolygon}
use Rattle.edr_ground_tests.proofs.planes.polygons_in.Goals as goal

pub returns-in-Polygons : goal.returns-in-Polygons
returns-in-Polygons c =
    subst (λ (l : List Polygon). All IsPlacedPolygon l) (sym c.items.ensures)
    (c.geometries_are_placed.ensures c.in-Polygons.multi c.in-Polygons.has_z c.in-Polygons.has_m c.in-Polygons.polygons
    (subst (λ (g : Geometry). IsGeometry g) c.in-Polygons.is c.requires))
