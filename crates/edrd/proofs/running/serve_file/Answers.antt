use Rattle.std.proofs.Common.{[], refl, rules}
use Rattle.edrd.proofs.EndLemmas.{not_read, served}
use Rattle.edrd.proofs.running.serve_file.Goals as goal

pub returns-in-Err-clause-cause : goal.returns-in-Err-clause-cause
returns-in-Err-clause-cause g c = ([], refl, not_read _ c.args.settings.now _ _ _ _ (search rules))

pub returns-in-Ok-clause-cause : goal.returns-in-Ok-clause-cause
returns-in-Ok-clause-cause g c =
    let cause = c.serve.ensures.cause in
    (cause.0, cause.1, served c.serve.result.0 c.args.settings.now _ _ _ _ c.in-Ok.feed.editions c.in-Ok.feed.behind _ (search rules) (search rules) cause.2)
