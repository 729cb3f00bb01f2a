use Rattle.std.proofs.Common.{Option, Ok, subst}
use Rattle.std.proofs.lemmas.Result.{err_from_is_err_and}
use Rattle.edr_feed.specs.declared.entries.Entry.{Entry}
use Rattle.edr_feed.specs.Readings.{progress_of, Says}
use Rattle.edr_feed.proofs.StepLemmas.{nothing_said, entry_done}
use Rattle.edr_feed.proofs.steps.do_line.Goals as goal

pub returns-in_err-said : goal.returns-in_err-said
returns-in_err-said c =
    let p = err_from_is_err_and c.from_residual.result c.from_residual.ensures.1 in
    rw (p.1, p.2) (nothing_said c.args.line.now (progress_of c.args.now.now) _ c.in_err-said.ensures.says)

pub returns-in-Some : goal.returns-in-Some
returns-in-Some c =
    let line = c.args.line.now in
    let says = subst (λ (said : Option Entry). Says line (Ok said)) c.in-Some.is c.in_ok-said.ensures.says in
    entry_done line _ _ _ c.do_entry.result says c.do_entry.ensures
