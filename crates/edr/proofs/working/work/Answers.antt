use Rattle.std.proofs.Common.{inr}
use Rattle.edr_work.specs.Working.{IsWork}
use Rattle.edr.proofs.WorkLemmas.{work_caused, part_of}
use Rattle.edr.proofs.working.work.Goals as goal

pub returns-in-Err-clause-cause : goal.returns-in-Err-clause-cause
returns-in-Err-clause-cause g c = work_caused _ _ c.args.number _ _ c.ending_of.ensures c.in-Err.ensures

pub returns-clause-output : goal.returns-clause-output
returns-clause-output g c = inr (part_of (IsWork c.args.number) _ _ _ _ c.in-Ok.ensures c.bytes.ensures c.put.ensures.part)
