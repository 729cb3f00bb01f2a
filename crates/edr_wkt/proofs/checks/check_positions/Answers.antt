use Rattle.std.proofs.Common.{arith}
use Rattle.edr_base.specs.TestLaws.{fails}
use Rattle.edr_wkt.specs.Faults.{IsInRange}
use Rattle.edr_wkt.proofs.CheckLemmas.{first_bad-at}
use Rattle.edr_wkt.proofs.checks.check_positions.Goals as goal

pub returns-then-not-in_range : goal.returns-then-not-in_range
returns-then-not-in_range c =
    (_, first_bad-at IsInRange c.args.positions.now c.loop-i.i _ (omega arith) c.loop-i.invariant (fails _ _ c.in_range.ensures c.if-not-in_range.true), omega arith)
