use Rattle.std.proofs.Common.{rules, ◌≡◌, ◌∙◌, ap₂}
use Rattle.std.proofs.lemmas.Result.{IfOk-weaker}
use Rattle.clap.specs.Words.{with_rule, rule_of}
use Rattle.edr_console.specs.Words.{port_rule}
use Rattle.edr_console.proofs.words.bare_command.Goals as goal

pub returns : goal.returns
returns c =
    let port : rule_of c.required.result ≡ port_rule = search rules in
    IfOk-weaker c.arg.result _ _ (λ m h. h.shape (search rules) ∙ ap₂ with_rule c.in_ok-feed_command.ensures port) c.arg.ensures
