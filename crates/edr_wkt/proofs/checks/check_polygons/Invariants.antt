use Rattle.std.proofs.Common.{List}
use Rattle.std.specs.List.{flat_map}
use Rattle.edr_base.specs.declared.places.Position.{Position}
use Rattle.edr_wkt.specs.declared.geometry.Polygon.{Polygon}
use Rattle.edr_wkt.specs.Faults.{IsInRange}
use Rattle.edr_wkt.proofs.CheckLemmas.{AreGood}
use Rattle.edr_wkt.proofs.checks.check_polygons.Given as goal

abbrev pub invariant-loop-polygon : goal.invariant-loop-polygon
invariant-loop-polygon l = AreGood IsInRange (λ (p : Polygon). flat_map (λ (r : List Position). r) p.rings) l.polygons l.before l.polygon-index l.count
