use Rattle.std.proofs.Common.{rules}
use Rattle.edrd.proofs.running.edrd_run.Goals as goal

pub returns-clause-ends : goal.returns-clause-ends
returns-clause-ends g c =
    let cause = c.carry_out-ending.ensures.cause in (
      c.carry_out-ending.result.0,
      record {
        number = search rules;
        lines = cause.0;
        said = cause.1;
        cause = cause.2;
        back = c.carry_out-ending.ensures.back;
        line = c.tell.ensures.line;
      },
    )
