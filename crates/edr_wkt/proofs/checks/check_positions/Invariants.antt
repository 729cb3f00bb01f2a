use Rattle.std.proofs.Common.{take}
use Rattle.std.specs.List.{AllByRecursion}
use Rattle.edr_wkt.specs.Faults.{IsInRange}
use Rattle.edr_wkt.proofs.checks.check_positions.Given as goal

abbrev pub invariant-loop-i : goal.invariant-loop-i
invariant-loop-i l = AllByRecursion IsInRange (take l.i l.positions)
