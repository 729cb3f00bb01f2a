use Rattle.edr_wkt.specs.declared.geometry.Polygon.{Polygon}
use Rattle.edr_wkt.specs.Faults.{IsClosed}
use Rattle.edr_wkt.proofs.CheckLemmas.{AreGood}
use Rattle.edr_wkt.proofs.checks.check_all_closed.Given as goal

abbrev pub invariant-loop-polygon : goal.invariant-loop-polygon
invariant-loop-polygon l = AreGood IsClosed (λ (p : Polygon). p.rings) l.polygons l.before l.polygon-index l.count
