use Rattle.std.proofs.Common.{◌≡◌, ◌∷◌, Some, sym, ap, ◌∙◌, rules}
use Rattle.json.specs.Token as token
use Rattle.json.specs.Json.{value}
use Rattle.json.proofs.Grammar.{value_is}
use Rattle.serde_json.specs.Data.{string}
use Rattle.serde_json.specs.Read.{of_json, converted}
use Rattle.edr_samples.specs.Trees.{tree_view}
use Rattle.edr_samples.specs.declared.trees.Tree.{Text, the_lemmas}
use Rattle.edr_samples.proofs.plain_reading.text_tree.Goals as goal

pub returns-in-Ok-clause-tree : goal.returns-in-Ok-clause-tree
returns-in-Ok-clause-tree c depth =
    let rest = c.take_text.new.self in
    let is : c.args.plain.now ≡ token.string c.in_ok-text.text.now ∷ rest = c.in_ok-text.ensures in
    let seen : tree_view (Text c.in-Ok.text) ≡ string c.in_ok-text.text.now = search (rules, the_lemmas) in
    ap (converted of_json) (ap (value depth) is ∙ value_is depth _) ∙ ap (λ d. Some (d, rest)) (sym seen)
