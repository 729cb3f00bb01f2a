use Rattle.std.proofs.Common.{arith, ◌+◌}
use Rattle.edr_base.proofs.NumberLemmas.{digits_value-one_more, digits_value-take-le}
use Rattle.edr_base.proofs.numbers.size_within.Goals as goal

pub overflow_sub-next : goal.overflow_sub-next
overflow_sub-next c = (digits_value-one_more c.args.digits.now c.loop-digit.digit-index c.requires c.loop-digit-test.true).0

pub returns-then-next-limit : goal.returns-then-next-limit
returns-then-next-limit c =
    let more = digits_value-one_more c.args.digits.now c.loop-digit.digit-index c.requires c.loop-digit-test.true in
    omega (arith, more.1, digits_value-take-le (c.loop-digit.digit-index + 1) c.args.digits.now)

pub loop-digit-preserved : goal.loop-digit-preserved
loop-digit-preserved c =
    let more = digits_value-one_more c.args.digits.now c.loop-digit.digit-index c.requires c.loop-digit-test.true in
    (omega (arith, more.1), omega arith)
