use Rattle.std.proofs.Common.{List}
use Rattle.edr_base.specs.declared.places.Position.{Position}
use Rattle.edr_wkt.specs.Faults.{IsInRange}
use Rattle.edr_wkt.proofs.CheckLemmas.{AreGood}
use Rattle.edr_wkt.proofs.checks.check_rings.Given as goal

abbrev pub invariant-loop-ring : goal.invariant-loop-ring
invariant-loop-ring l = AreGood IsInRange (λ (r : List Position). r) l.rings l.before l.ring-index l.count
