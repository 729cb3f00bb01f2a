use Rattle.std.proofs.Common.{rules, ◌≡◌, ◌∙◌, ap}
use Rattle.std.proofs.lemmas.Result.{IfOk-weaker}
use Rattle.clap.specs.Words.{app_of, with_rule, rule_of}
use Rattle.edr_console.specs.Words.{option_rule}
use Rattle.edr_console.proofs.words.with_option.Goals as goal

pub returns : goal.returns
returns c =
    let rule : rule_of c.long.result ≡ option_rule c.args.name.now = search rules in
    IfOk-weaker c.arg.result _ _ (λ m h. h.shape (search rules) ∙ ap (with_rule (app_of c.args.command)) rule) c.arg.ensures
