use Rattle.std.proofs.Common.{ap, ◌∙◌}
use Rattle.edr_json.specs.Trees.{is_text}
use Rattle.edr_json.proofs.trees.is_text.Goals as goal

pub returns-in-Some : goal.returns-in-Some
returns-in-Some c = c.eq.ensures ∙ ap (is_text c.args.text.now) c.in-Some.ensures
