use Rattle.std.proofs.Common.{◌∙◌, ap, codes}
use Rattle.std.proofs.lemmas.Result.{IfOk-weaker}
use Rattle.clap.specs.Words.{App, with_rule}
use Rattle.edr_console.specs.Words.{option_rule}
use Rattle.edr_console.proofs.words.serving_command.Goals as goal

pub returns : goal.returns
returns c =
    let one = c.in_ok-command.ensures ∙ ap (λ (app : App). with_rule app (option_rule (codes "workers"))) c.in_ok-bare_command.ensures in
    let two = c.in_ok-command-2.ensures ∙ ap (λ (app : App). with_rule app (option_rule (codes "every"))) one in
    IfOk-weaker c.with_option-3.result _ _ (λ m h. h ∙ ap (λ (app : App). with_rule app (option_rule (codes "connections"))) two) c.with_option-3.ensures
