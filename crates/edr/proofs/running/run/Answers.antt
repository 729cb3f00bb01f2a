use Rattle.std.proofs.Common.{sym}
use Rattle.edr.proofs.running.run.Goals as goal

pub returns-clause-ends : goal.returns-clause-ends
returns-clause-ends g c =
    let ending = c.carry_out-ending.ensures in (
      c.carry_out-ending.result,
      c.carry_out-ending.new.explained,
      record { number = c.status.ensures; words = ending.words; argument = ending.argument; input = ending.read; ended = ending.ended; waits = ending.waits; output = ending.output; cause = ending.cause; link = ending.exchange; explains = ending.explains; line = rw (sym c.bytes.ensures) c.tell.ensures.line },
    )
