use Rattle.std.proofs.Common.{codes, ◌++◌}
use Rattle.std.specs.Fmt.{decimal}
use Rattle.edr.proofs.EndingLemmas.{told_on, told_stop}
use Rattle.edr.proofs.endings.tell_number.Goals as goal

pub returns-in-Ok-clause-line : goal.returns-in-Ok-clause-line
returns-in-Ok-clause-line g c =
    told_on c.args.front.now (decimal c.args.number ++ (c.args.explained.now ++ codes "\n")) _ _ _ _ _ _ c.in-Ok.ensures.bytes.whole c.in-Ok.ensures.lent.later
    (rw (c.as_bytes.ensures.value, c.format.ensures.text) at c.tell_explained.ensures.line)

pub returns-in-Err-clause-line : goal.returns-in-Err-clause-line
returns-in-Err-clause-line g c =
    told_stop c.in-Err.field-0 c.args.front.now (decimal c.args.number ++ (c.args.explained.now ++ codes "\n")) _ _ _ _ c.in-Err.ensures.bytes.front c.in-Err.ensures.cause
