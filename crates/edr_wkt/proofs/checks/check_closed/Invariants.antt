use Rattle.std.proofs.Common.{take}
use Rattle.std.specs.List.{AllByRecursion}
use Rattle.edr_wkt.specs.Faults.{IsClosed}
use Rattle.edr_wkt.proofs.checks.check_closed.Given as goal

abbrev pub invariant-loop-i : goal.invariant-loop-i
invariant-loop-i l = AllByRecursion IsClosed (take l.i l.rings)
