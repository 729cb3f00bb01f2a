use Rattle.std.proofs.Common.{rules, ◌≡◌, ◌∙◌, ap₂}
use Rattle.std.proofs.lemmas.Result.{IfOk-weaker}
use Rattle.clap.specs.Words.{with_rule, rule_of}
use Rattle.edr_console.specs.Words.{feed_rule}
use Rattle.edr_console.proofs.words.feed_command.Goals as goal

pub returns : goal.returns
returns c =
    let feed : rule_of c.required.result ≡ feed_rule = search rules in
    IfOk-weaker c.arg.result _ _ (λ m h. h.shape (search rules) ∙ ap₂ with_rule c.new.ensures.app feed) c.arg.ensures
