use Rattle.std.proofs.Common.{◌∙◌, ◌++◌, codes, sym}
use Rattle.edr_program.specs.TellsLaws.{tells_nothing}
use Rattle.edr.proofs.EndingLemmas.{line_of-said, line_is, feed_named}
use Rattle.edr.proofs.endings.tell.Goals as goal

pub returns-in-Done-clause-line : goal.returns-in-Done-clause-line
returns-in-Done-clause-line g c = rw c.in-Done.is (tells_nothing _ _)

pub returns-in-Some-clause-line : goal.returns-in-Some-clause-line
returns-in-Some-clause-line g c =
    let written = rw (line_is _ _ _ (c.args.explained.now ++ codes "\n") c.said_of_feed-line.ensures) at c.tell_explained.ensures.line in
    rw (feed_named c.args.ending c.in-Some.refusal (sym c.feed_in.ensures ∙ c.in-Some.is)) written

pub returns-in-None-clause-line : goal.returns-in-None-clause-line
returns-in-None-clause-line g c = rw (line_of-said c.args.ending c.args.explained.now c.in_default.not-Done) c.tell_said.ensures.line
