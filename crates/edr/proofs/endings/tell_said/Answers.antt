use Rattle.std.proofs.Common.{◌++◌, codes}
use Rattle.std.specs.Fmt.{decimal}
use Rattle.edr.proofs.EndingLemmas.{line_is}
use Rattle.edr.proofs.endings.tell_said.Goals as goal

pub returns-in-Some-clause-line : goal.returns-in-Some-clause-line
returns-in-Some-clause-line g c =
    let says = rw c.in-Some.is at c.said-number.ensures in
    rw (line_is _ (decimal c.in-Some.number) _ (c.args.explained.now ++ codes "\n") says) at c.tell_number.ensures.line

pub returns-in-None-clause-line : goal.returns-in-None-clause-line
returns-in-None-clause-line g c =
    let says = rw c.in-None.is at c.said-number.ensures in
    rw says at c.tell_explained.ensures.line
