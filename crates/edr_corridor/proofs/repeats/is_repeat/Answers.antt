use Rattle.std.proofs.Common.{pos}
use Rattle.edr_corridor.proofs.Added.{same_ends}
use Rattle.edr_corridor.proofs.repeats.is_repeat.Goals as goal

pub returns-then-are_same-2 : goal.returns-then-are_same-2
returns-then-are_same-2 c = λ h.
    same_ends c.args.line.now c.loop-before.before c.args.number (record { x = pos 0; y = pos 0; z = pos 0; m = pos 0 }) c.loop-before-test.true c.requires
    (c.are_same.ensures c.if-are_same.true) (c.are_same-then-are_same.ensures c.if-are_same-2.true)
