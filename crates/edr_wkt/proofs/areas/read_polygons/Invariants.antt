use Rattle.std.proofs.Common.{◌≤◌, length}
use Rattle.edr_wkt.specs.Kept.{kept_polygon}
use Rattle.edr_wkt.specs.Geometries.{polygon_size}
use Rattle.edr_wkt.specs.Grammar.{IsPolygon}
use Rattle.edr_wkt.proofs.GatherLemmas.{Collects}
use Rattle.edr_wkt.proofs.areas.read_polygons.Given as goal

abbrev pub invariant-polygons : goal.invariant-polygons
invariant-polygons l = Collects (IsPolygon l.has_z l.has_m) polygon_size kept_polygon l.text l.initial.count l.count l.polygons.items l.rest × (l.count ≤ 10001)

abbrev pub decreases-polygons : goal.decreases-polygons
decreases-polygons l = length l.rest
