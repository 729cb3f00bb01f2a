use Rattle.std.proofs.Common.{◌≡◌, Some, sym, ap, ◌∙◌, rules}
use Rattle.json.specs.Token as token
use Rattle.json.specs.Json.{value}
use Rattle.serde_json.specs.Data.{number}
use Rattle.serde_json.specs.Find.{of_integer}
use Rattle.serde_json.specs.Read.{of_json, converted}
use Rattle.serde_json.specs.View.{number_view}
use Rattle.edr_samples.specs.Trees.{tree_view}
use Rattle.edr_samples.specs.declared.trees.Tree.{Number, the_lemmas}
use Rattle.edr_samples.proofs.Lists.{sample_read}
use Rattle.edr_samples.proofs.plain_reading.number_tree.Goals as goal

pub returns-clause-tree : goal.returns-clause-tree
returns-clause-tree c depth =
    let rest = c.take_whole.new.self in
    let whole = c.in_ok-whole.whole in
    let found = c.in_ok-whole.ensures in
    let same : number_view c.from.result ≡ of_integer whole = search rules in
    let seen : tree_view (Number c.from.result) ≡ number (number_view c.from.result) = search (rules, the_lemmas) in
    ap (λ ts. converted of_json (value depth ts)) found.2 ∙ sample_read depth (token.number found.0) (Some whole) rest found.1
    ∙ ap (λ d. Some (d, rest)) (sym (seen ∙ ap number same))
