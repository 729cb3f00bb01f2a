use Rattle.edr_select.proofs.Runs.{run_more}
use Rattle.edr_select.proofs.numbers.numbers_between.Goals as goal

pub loop-number-preserved : goal.loop-number-preserved
loop-number-preserved c =
    run_more c.args.first c.loop-number.number c.loop-number.numbers.items c.push.new.self.items c.loop-number.auto.number c.loop-number.invariant c.in_ok-push.ensures.items
