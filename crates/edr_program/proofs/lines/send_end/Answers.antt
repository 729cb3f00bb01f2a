use Rattle.edr_base.specs.KnownBytes.{writes_on}
use Rattle.edr_program.proofs.lines.send_end.Goals as goal

pub returns-clause-bytes : goal.returns-clause-bytes
returns-clause-bytes g c = writes_on _ _ _ _ _ _ c.in_ok-send_place.ensures.bytes.whole c.send_both.ensures.bytes
