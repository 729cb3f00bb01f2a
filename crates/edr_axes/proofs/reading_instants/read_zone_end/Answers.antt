use Rattle.std.proofs.Common.{arith}
use Rattle.edr_axes.proofs.InstantEnds.{read_fraction}
use Rattle.edr_axes.proofs.reading_instants.read_zone_end.Goals as goal

pub returns-clause-value : goal.returns-clause-value
returns-clause-value c =
    let some = c.if-zeros-eq0.false in
    read_fraction c.args.text.now c.in-Some.digits.now c.zero_count-zeros.result c.read_zone-2.result c.in-Some.ensures (omega arith)
    c.zero_count-zeros.ensures.within c.zero_count-zeros.ensures.zeros c.zero_count-zeros.ensures.other c.read_zone-2.ensures.value
