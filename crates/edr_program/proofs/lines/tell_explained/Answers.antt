use Rattle.edr_program.proofs.LineLemmas.{tells_later}
use Rattle.edr_program.proofs.lines.tell_explained.Goals as goal

pub returns-clause-line : goal.returns-clause-line
returns-clause-line g c =
    tells_later _ _ _ _ _ _ _ _ c.send_line.ensures.bytes c.settle.ensures.bytes c.send_line.ensures.cause c.settle.ensures.lent.later
