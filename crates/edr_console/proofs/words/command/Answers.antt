use Rattle.std.proofs.Common.{◌∙◌, ap, codes}
use Rattle.std.proofs.lemmas.Result.{IfOk-weaker}
use Rattle.clap.specs.Words.{App, with_rule}
use Rattle.edr_console.specs.Words.{option_rule, flag_rule}
use Rattle.edr_console.proofs.words.command.Goals as goal

pub returns : goal.returns
returns c =
    let one = c.in_ok-command.ensures ∙ ap (λ (app : App). with_rule app (option_rule (codes "idle"))) c.in_ok-serving_command.ensures in
    let two = c.in_ok-command-2.ensures ∙ ap (λ (app : App). with_rule app (option_rule (codes "requests"))) one in
    IfOk-weaker c.with_flag.result _ _ (λ m h. h ∙ ap (λ (app : App). with_rule app (flag_rule (codes "last"))) two) c.with_flag.ensures
