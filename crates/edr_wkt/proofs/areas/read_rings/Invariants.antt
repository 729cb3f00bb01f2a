use Rattle.std.proofs.Common.{◌≤◌, length, map}
use Rattle.edr_wkt.specs.Kept.{kept}
use Rattle.edr_wkt.specs.Grammar.{IsRing}
use Rattle.edr_wkt.proofs.GatherLemmas.{Collects}
use Rattle.edr_wkt.proofs.areas.read_rings.Given as goal

abbrev pub invariant-rings : goal.invariant-rings
invariant-rings l = Collects (IsRing l.has_z l.has_m) length (map kept) l.text l.initial.count l.count l.rings.items l.rest × (l.count ≤ 10001)

abbrev pub decreases-rings : goal.decreases-rings
decreases-rings l = length l.rest
