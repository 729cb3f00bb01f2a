use Rattle.std.proofs.Common.{arith}
use Rattle.edr_base.specs.TestLaws.{holds, fails}
use Rattle.edr_wkt.proofs.CheckLemmas.{first_fall-at, no_fall-next, never_falls-whole}
use Rattle.edr_wkt.proofs.checks.first_fall.Goals as goal

pub returns-then-is_below : goal.returns-then-is_below
returns-then-is_below c = first_fall-at c.args.positions.now c.loop-i.i _ _ (omega arith) c.loop-i-test.true c.loop-i.invariant (holds _ _ c.is_below.ensures c.if-is_below.true)

pub loop-i-preserved : goal.loop-i-preserved
loop-i-preserved c = no_fall-next c.args.positions.now c.loop-i.i _ _ (omega arith) c.loop-i.invariant (fails _ _ c.is_below.ensures c.if-is_below.false)

pub returns : goal.returns
returns c = never_falls-whole c.args.positions.now c.loop-i.i (omega arith) c.loop-i.invariant
