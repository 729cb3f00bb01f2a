use Rattle.edr_program.specs.TellsLaws.{tells_nothing}
use Rattle.edrd.proofs.endings.tell.Goals as goal

pub returns-in-Done-clause-line : goal.returns-in-Done-clause-line
returns-in-Done-clause-line g c = rw c.in-Done.is (tells_nothing _ _)
